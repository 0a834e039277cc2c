-- The names of a regular file, and the numbers of arguments of its symbols.
use denote.Hole.Carrier
use Rattle.std.proofs.Common.{◌≡◌, ℕ, suc, Bool, true, List, [], ◌∷◌, ◌++◌, length, Option, None, Some, refl, sym, ap, ◌∙◌, arith}
use Rattle.std.specs.Prelude.{zero, ◌&&◌, nat_le, nat_lt, map}
use Rattle.std.specs.List.{list_all}
use Rattle.std.proofs.lemmas.Bool.{and_parts, and_from, leb-true, lt-ltb}
use Rattle.std.proofs.lemmas.List.Folds.{list_all-append}
use Rattle.nxf_tree.specs.Profiles.{Allowed}
use Rattle.nxf_base.specs.Bytes.{is_printable_byte, is_printable_text}
use Rattle.nxf_tree.specs.declared.tree.SortName.{SortName}
use Rattle.nxf_tree.specs.declared.tree.SortName.TheVariants.{Individual, User}
use Rattle.nxf_tree.specs.declared.tree.IndexName.{IndexName}
use Rattle.nxf_tree.specs.declared.tree.IndexName.TheVariants.{Plain, Named}
use Rattle.nxf_tree.specs.declared.tree.Override.{Override}
use Rattle.nxf_tree.specs.declared.tree.SpecKey.{SpecKey}
use Rattle.nxf_tree.specs.declared.tree.SpecKey.TheVariants.{Dollar, Name, Index}
use Rattle.nxf_tree.specs.declared.tree.SpecEntry.{SpecEntry}
use Rattle.nxf_tree.specs.declared.tree.SpecValue.{SpecValue, SpecValue-F, out-SpecValue, Items}
use Rattle.nxf_tree.specs.declared.tree.SpecValue as value
use Rattle.nxf_tree.specs.declared.tree.SpecItem.{SpecItem, SpecItem-F, out-SpecItem, Entry}
use Rattle.nxf_tree.specs.declared.tree.SpecItem as item
use Rattle.nxf_tree.specs.declared.tree.SpecItem.TheBlock.{Row_of-SpecItem, end_of-SpecItem, more_of-SpecItem, items-the_row-SpecItem, hidden-the_row-SpecItem-0, items_hidden-the_row-SpecItem-0}
use Rattle.nxf_tree.specs.declared.tree.SpecItem.TheOpen as opened
use Rattle.nxf_tree.specs.declared.tree.Typing.TheVariants.{Individual as IsIndividual, Sort, Symbol}
use Rattle.nxf_tree.specs.declared.tree.Role.{Role}
use Rattle.nxf_tree.specs.declared.tree.Body.{Body}
use Rattle.nxf_tree.specs.declared.tree.Body.TheVariants.{Formula as IsFormula, Typing as IsTyping, Logic as IsLogic}
use Rattle.nxf_tree.specs.declared.tree.Statement.{Statement}
use Rattle.nxf_tree.specs.declared.tree.Statement.TheVariants.{Annotated, Include}
use Rattle.nxf_tree.specs.declared.tree.Term.{Term, Var, App', Row_of-Term, end_of-Term, more_of-Term}
use Rattle.nxf_tree.specs.declared.tree.Formula.{Formula, True, False, Atom, Same, Differ, And', Or', Distinct, Row_of-Formula, end_of-Formula, more_of-Formula}
use Rattle.nxf_tree.specs.Shapes.{Not1, Pair2, Quant1, Modal1}
use Rattle.nxf_tree.specs.Specification.{overrides_of, overrides_in, and_override, override_list, key_text}
use Rattle.nxf_tree.specs.WellFormed.{is_name, is_sort_name, is_index_name}
use Rattle.nxf_tree.specs.Occurrences.{Use, Occurrence, individuals, use_with, row_length, term_uses, row_uses, terms_uses, occurrences, row_occurrences, key_occurrences, override_occurrences, statement_occurrences, occurrences_in, uses, indexes, declared, declared_sorts}
use Rattle.name_laws.proofs.Spelling.{true-false}
use Rattle.signature_laws.proofs.NoFault.{index-append}
use Rattle.signature_laws.proofs.Declared.{uses-append, uses-symbols}
use Rattle.nxf_tree.specs.RegularFormulas.{is_regular_sort, is_regular_index, terms_count, is_regular_term, are_regular_terms, is_regular_list, is_regular_formula, are_regular_formulas}
use Rattle.nxf_tree.specs.Regular.{is_regular_result, is_regular_key, is_regular_value, is_regular_item, are_regular_items, is_regular_entry, is_regular_role, is_body_of, is_regular_body, is_regular_statement}
use Rattle.nxf_tree.specs.Regular.{body_kind}

-- a printable text is a name
byte_of : (b : ℕ) → is_printable_byte b ≡ true → nat_lt 31 b && nat_lt b 127 ≡ true
byte_of b h =
    let parts : (nat_le 32 b ≡ true) × (nat_le b 126 ≡ true) = and_parts _ _ h in
    and_from _ _ (lt-ltb 31 b (omega (arith, leb-true 32 b parts.0))) (lt-ltb b 127 (omega (arith, leb-true b 126 parts.1)))

printable_rest : (bs : List ℕ) → list_all is_printable_byte bs ≡ true → list_all (λ c. nat_lt 31 c && nat_lt c 127) bs ≡ true
printable_rest [] h = refl
printable_rest (b ∷ bs) h = let parts : (is_printable_byte b ≡ true) × (list_all is_printable_byte bs ≡ true) = and_parts _ _ h in and_from _ _ (byte_of b parts.0) (printable_rest bs parts.1)

pub name_of : (x : List ℕ) → is_printable_text x ≡ true → is_name x ≡ true
name_of [] h = absurd (true-false (sym h))
name_of (b ∷ bs) h = printable_rest (b ∷ bs) h

-- whether a symbol has a name, and at most 1,000 arguments
abbrev pub is_fine : Use → Bool
is_fine u = is_name u.name && nat_le (length u.type.args) 1000

individuals_length : (n : ℕ) → length (individuals n) ≡ n
individuals_length zero = refl
individuals_length (suc n) = ap suc (individuals_length n)

count_is : {m : _} (ts : Row_of-Term m) → terms_count ts ≡ row_length ts
count_is end_of-Term = refl
count_is (more_of-Term t ts) = ap suc (count_is ts)

no_index : (us : List Use) → indexes (map Occurrence.symbol us) ≡ []
no_index [] = refl
no_index (u ∷ us) = no_index us

module _ (l : Allowed) (most : l.arguments ≡ 1000) where
  abbrev fine : List Use → Bool
  fine = list_all is_fine

  both_fine : (a b : List Use) → fine a ≡ true → fine b ≡ true → fine (a ++ b) ≡ true
  both_fine a b h k = list_all-append is_fine a b ∙ and_from _ _ h k

  use_fine : (f : List ℕ) (n : ℕ) (gives : Option SortName) → is_printable_text f ≡ true → nat_le n l.arguments ≡ true → is_fine (use_with f n gives) ≡ true
  use_fine f n gives h k = and_from _ _ (name_of f h) (ap (λ c. nat_le c 1000) (individuals_length n) ∙ ap (nat_le n) (sym most) ∙ k)

  mutual
    term_fine : (t : Term) → is_regular_term l t ≡ true → fine (term_uses t) ≡ true
    term_fine (Var x) h = refl
    term_fine (App' f shape ts) h =
        let first : (is_printable_text f ≡ true) × (nat_le (terms_count ts) l.arguments && are_regular_terms l ts ≡ true) = and_parts _ _ h in
        let rest : (nat_le (terms_count ts) l.arguments ≡ true) × (are_regular_terms l ts ≡ true) = and_parts _ _ first.1 in
        and_from _ _ (use_fine f (row_length ts) (Some Individual) first.0 (ap (λ n. nat_le n l.arguments) (sym (count_is ts)) ∙ rest.0)) (row_fine ts rest.1)

    row_fine : {m : _} (ts : Row_of-Term m) → are_regular_terms l ts ≡ true → fine (row_uses ts) ≡ true
    row_fine end_of-Term h = refl
    row_fine (more_of-Term t ts) h = let parts : (is_regular_term l t ≡ true) × (are_regular_terms l ts ≡ true) = and_parts _ _ h in both_fine (term_uses t) (row_uses ts) (term_fine t parts.0) (row_fine ts parts.1)

  terms_fine : (ts : List Term) → is_regular_list l ts ≡ true → fine (terms_uses ts) ≡ true
  terms_fine [] h = refl
  terms_fine (t ∷ ts) h = let parts : (is_regular_term l t ≡ true) × (is_regular_list l ts ≡ true) = and_parts _ _ h in both_fine (term_uses t) (terms_uses ts) (term_fine t parts.0) (terms_fine ts parts.1)

  symbols_fine : (vs : List Use) → fine vs ≡ true → fine (uses (map Occurrence.symbol vs)) ≡ true
  symbols_fine vs h = ap fine (uses-symbols [] vs) ∙ h

  joined_fine : (os ps : List Occurrence) → fine (uses os) ≡ true → fine (uses ps) ≡ true → fine (uses (os ++ ps)) ≡ true
  joined_fine os ps h k = ap fine (uses-append [] os ps) ∙ both_fine (uses os) (uses ps) h k

  sides_fine : (t u : Term) → is_regular_term l t && is_regular_term l u ≡ true → fine (uses (map Occurrence.symbol (term_uses t ++ term_uses u))) ≡ true
  sides_fine t u h =
      let parts : (is_regular_term l t ≡ true) × (is_regular_term l u ≡ true) = and_parts _ _ h in
      symbols_fine (term_uses t ++ term_uses u) (both_fine (term_uses t) (term_uses u) (term_fine t parts.0) (term_fine u parts.1))

  abbrev named : List IndexName → Bool
  named = list_all is_index_name

  joined_named : (os ps : List Occurrence) → named (indexes os) ≡ true → named (indexes ps) ≡ true → named (indexes (os ++ ps)) ≡ true
  joined_named os ps h k = ap named (index-append os ps) ∙ (list_all-append is_index_name (indexes os) (indexes ps) ∙ and_from _ _ h k)

  symbols_named : (us : List Use) → named (indexes (map Occurrence.symbol us)) ≡ true
  symbols_named us = ap named (no_index us)

  index_named : (i : IndexName) → is_regular_index i ≡ true → is_index_name i ≡ true
  index_named Plain h = refl
  index_named (Named a) h = name_of a h

  mutual
    formula_fine : (f : Formula) → is_regular_formula l f ≡ true → (fine (uses (occurrences f)) ≡ true) × (named (indexes (occurrences f)) ≡ true)
    formula_fine True h = (refl, refl)
    formula_fine False h = (refl, refl)
    formula_fine (Atom p ts) h =
        let first : (is_printable_text p ≡ true) × (nat_le (length ts) l.arguments && is_regular_list l ts ≡ true) = and_parts _ _ h in
        let rest : (nat_le (length ts) l.arguments ≡ true) × (is_regular_list l ts ≡ true) = and_parts _ _ first.1 in
        (and_from _ _ (use_fine p (length ts) None first.0 rest.0) (symbols_fine (terms_uses ts) (terms_fine ts rest.1)), symbols_named (terms_uses ts))
    formula_fine (Same t u) h = (sides_fine t u h, symbols_named (term_uses t ++ term_uses u))
    formula_fine (Differ t u) h = (sides_fine t u h, symbols_named (term_uses t ++ term_uses u))
    formula_fine (Not1 f) h = formula_fine f h
    formula_fine (And' shape fs) h = formulas_fine fs (and_parts _ _ h).1
    formula_fine (Or' shape fs) h = formulas_fine fs (and_parts _ _ h).1
    formula_fine (Pair2 op f g) h =
        let parts : (is_regular_formula l f ≡ true) × (is_regular_formula l g ≡ true) = and_parts _ _ h in
        let left : (fine (uses (occurrences f)) ≡ true) × (named (indexes (occurrences f)) ≡ true) = formula_fine f parts.0 in
        let right : (fine (uses (occurrences g)) ≡ true) × (named (indexes (occurrences g)) ≡ true) = formula_fine g parts.1 in
        (joined_fine (occurrences f) (occurrences g) left.0 right.0, joined_named (occurrences f) (occurrences g) left.1 right.1)
    formula_fine (Quant1 q x s f) h = formula_fine f (and_parts _ _ (and_parts _ _ h).1).1
    formula_fine (Modal1 m i f) h =
        let parts : (is_regular_index i ≡ true) × (is_regular_formula l f ≡ true) = and_parts _ _ (and_parts _ _ h).1 in
        let body : (fine (uses (occurrences f)) ≡ true) × (named (indexes (occurrences f)) ≡ true) = formula_fine f parts.1 in
        (body.0, and_from _ _ (index_named i parts.0) body.1)
    formula_fine (Distinct ts) h = (symbols_fine (terms_uses ts) (terms_fine ts (and_parts _ _ (and_parts _ _ h).1).1), symbols_named (terms_uses ts))

    formulas_fine : {m : _} (fs : Row_of-Formula m) → are_regular_formulas l fs ≡ true → (fine (uses (row_occurrences fs)) ≡ true) × (named (indexes (row_occurrences fs)) ≡ true)
    formulas_fine end_of-Formula h = (refl, refl)
    formulas_fine (more_of-Formula f fs) h =
        let parts : (is_regular_formula l f ≡ true) × (are_regular_formulas l fs ≡ true) = and_parts _ _ h in
        let left : (fine (uses (occurrences f)) ≡ true) × (named (indexes (occurrences f)) ≡ true) = formula_fine f parts.0 in
        let right : (fine (uses (row_occurrences fs)) ≡ true) × (named (indexes (row_occurrences fs)) ≡ true) = formulas_fine fs parts.1 in
        (joined_fine (occurrences f) (row_occurrences fs) left.0 right.0, joined_named (occurrences f) (row_occurrences fs) left.1 right.1)

-- what an item or a value is, by what it opens to
item_opened : (i : SpecItem) → item.roll-SpecItem (out-SpecItem i) ≡ i
item_opened i = item.roll-out-SpecItem i

value_opened : (v : SpecValue) → value.roll-SpecValue (out-SpecValue v) ≡ v
value_opened v = value.roll-out-SpecValue v

item_row : {m : _} (is : Row_of-SpecItem m) → are_regular_items is ≡ list_all is_regular_item (items-the_row-SpecItem _ is)
item_row end_of-SpecItem = refl
item_row (more_of-SpecItem i is) = ap (λ b. is_regular_item i && b) (item_row is)

regular_Items : (is : List SpecItem) → is_regular_value (Items is) ≡ list_all is_regular_item is
regular_Items is = item_row (hidden-the_row-SpecItem-0 is) ∙ ap (list_all is_regular_item) (items_hidden-the_row-SpecItem-0 is)

regular_Entry : (e : SpecEntry) → is_regular_item (Entry e) ≡ is_regular_entry e
regular_Entry e = refl

rolled_entry : (e : SpecEntry) → item.roll-SpecItem (opened.Entry e) ≡ Entry e
unfolding item.roll-SpecItem denote.Hole.Carrier.roll
rolled_entry e = refl

rolled_items : (is : List SpecItem) → value.roll-SpecValue (opened.Items is) ≡ Items is
unfolding value.roll-SpecValue denote.Hole.Carrier.roll
rolled_items is = refl

abbrev key_is_regular : SpecEntry → Bool
key_is_regular e = is_regular_key e.key

items_keys : (is : List SpecItem) → list_all is_regular_item is ≡ true → list_all key_is_regular (overrides_of is) ≡ true
items_keys [] h = refl
items_keys (i ∷ is) h =
    let parts : (is_regular_item i ≡ true) × (list_all is_regular_item is ≡ true) = and_parts _ _ h in
    by (out-SpecItem i) (item_opened i) (items_keys is parts.1) parts.0
  where
    by : (o : SpecItem-F SpecItem SpecValue SpecEntry) → item.roll-SpecItem o ≡ i → list_all key_is_regular (overrides_of is) ≡ true → is_regular_item i ≡ true → list_all key_is_regular (and_override o (overrides_of is)) ≡ true
    by (opened.SpecItem::Word word) e rest r = rest
    by (opened.Entry entry) e rest r = and_from _ _ (and_parts _ _ (ap is_regular_item (sym (rolled_entry entry) ∙ e) ∙ r)).0 rest

value_keys : (v : SpecValue) → is_regular_value v ≡ true → list_all key_is_regular (overrides_in (out-SpecValue v)) ≡ true
value_keys v h = by (out-SpecValue v) (value_opened v)
  where
    by : (o : SpecValue-F SpecItem SpecValue SpecEntry) → value.roll-SpecValue o ≡ v → list_all key_is_regular (overrides_in o) ≡ true
    by (opened.SpecValue::Word word) e = refl
    by (opened.Items items) e = items_keys items (sym (regular_Items items) ∙ ap is_regular_value (sym (rolled_items items) ∙ e) ∙ h)

key_named : (k : SpecKey) → is_regular_key k ≡ true → list_all is_index_name (indexes (key_occurrences k)) ≡ true
key_named (Dollar w) h = refl
key_named (Name a) h = refl
key_named (Index Plain) h = refl
key_named (Index (Named a)) h = and_from _ _ (name_of a h) refl

key_no_uses : (k : SpecKey) → uses (key_occurrences k) ≡ []
key_no_uses (Dollar w) = refl
key_no_uses (Name a) = refl
key_no_uses (Index i) = refl

overrides_no_uses : (os : List Override) → uses (override_occurrences os) ≡ []
overrides_no_uses [] = refl
overrides_no_uses (o ∷ os) = uses-append [] (key_occurrences o.key) (override_occurrences os) ∙ (λ i. key_no_uses o.key i ++ overrides_no_uses os i)

abbrev override_is_regular : Override → Bool
override_is_regular o = is_regular_key o.key

overrides_named : (os : List Override) → list_all override_is_regular os ≡ true → list_all is_index_name (indexes (override_occurrences os)) ≡ true
overrides_named [] h = refl
overrides_named (o ∷ os) h =
    let parts : (is_regular_key o.key ≡ true) × (list_all override_is_regular os ≡ true) = and_parts _ _ h in
    ap (list_all is_index_name) (index-append (key_occurrences o.key) (override_occurrences os)) ∙ (list_all-append is_index_name (indexes (key_occurrences o.key)) (indexes (override_occurrences os)) ∙ and_from _ _ (key_named o.key parts.0) (overrides_named os parts.1))

marked_keys : (of : List ℕ) (es : List SpecEntry) → list_all key_is_regular es ≡ true → list_all override_is_regular (map (λ (o : SpecEntry). record { of = of; key = o.key }) es) ≡ true
marked_keys of [] h = refl
marked_keys of (e ∷ es) h = let parts : (is_regular_key e.key ≡ true) × (list_all key_is_regular es ≡ true) = and_parts _ _ h in and_from _ _ parts.0 (marked_keys of es parts.1)

list_regular : (es : List SpecEntry) → list_all is_regular_entry es ≡ true → list_all override_is_regular (override_list es) ≡ true
list_regular [] h = refl
list_regular (e ∷ es) h =
    let parts : (is_regular_entry e ≡ true) × (list_all is_regular_entry es ≡ true) = and_parts _ _ h in
    list_all-append override_is_regular (map (λ (o : SpecEntry). record { of = key_text e.key; key = o.key }) (overrides_in (out-SpecValue e.value))) (override_list es)
    ∙ and_from _ _ (marked_keys (key_text e.key) (overrides_in (out-SpecValue e.value)) (value_keys e.value (and_parts _ _ parts.0).1)) (list_regular es parts.1)

module _ (l : Allowed) (most : l.arguments ≡ 1000) where
  sort_named : (s : SortName) → is_regular_sort s ≡ true → is_sort_name s ≡ true
  sort_named Individual h = refl
  sort_named (User a) h = name_of a h

  declared_fine : (f : List ℕ) (args : List SortName) (gives : Option SortName) (b : Bool) → is_printable_text f && (nat_le (length args) l.arguments && b) ≡ true → is_fine (record { name = f; type = record { args = args; gives = gives } }) ≡ true
  declared_fine f args gives b h =
      let first : (is_printable_text f ≡ true) × (nat_le (length args) l.arguments && b ≡ true) = and_parts _ _ h in
      and_from _ _ (name_of f first.0) (ap (nat_le (length args)) (sym most) ∙ (and_parts _ _ first.1).0)

  body_regular : (name : List ℕ) (role : Role) (b : Body) → is_regular_statement l (Annotated name role b) ≡ true → is_regular_body l b ≡ true
  body_regular name role b r =
      let one : is_regular_role role && (is_body_of (body_kind role.word) b && is_regular_body l b) ≡ true = (and_parts (is_printable_text name) (is_regular_role role && (is_body_of (body_kind role.word) b && is_regular_body l b)) r).1 in
      let two : is_body_of (body_kind role.word) b && is_regular_body l b ≡ true = (and_parts (is_regular_role role) (is_body_of (body_kind role.word) b && is_regular_body l b) one).1 in
      (and_parts (is_body_of (body_kind role.word) b) (is_regular_body l b) two).1

  -- what is fine in a file: its symbols, its declarations, its sorts and its indexes
  pub record IsFineFile (ss : List Statement) : Type 0 where
    pub symbols : list_all is_fine (uses (occurrences_in ss)) ≡ true
    pub indexes_named : list_all is_index_name (indexes (occurrences_in ss)) ≡ true
    pub declarations : list_all is_fine (declared ss) ≡ true
    pub sorts : list_all is_sort_name (declared_sorts ss) ≡ true

  with_statement : (s : Statement) (ss : List Statement) (d : List Use) (r : List SortName) → list_all is_fine (uses (statement_occurrences s)) ≡ true → list_all is_index_name (indexes (statement_occurrences s)) ≡ true → IsFineFile ss
      → (list_all is_fine (uses (occurrences_in (s ∷ ss))) ≡ true) × (list_all is_index_name (indexes (occurrences_in (s ∷ ss))) ≡ true)
  with_statement s ss d r h k rest =
      (joined_fine l most (statement_occurrences s) (occurrences_in ss) h rest.symbols, joined_named l most (statement_occurrences s) (occurrences_in ss) k rest.indexes_named)

  pub file_fine : (ss : List Statement) → list_all (is_regular_statement l) ss ≡ true → IsFineFile ss
  file_fine [] h = record { symbols = refl; indexes_named = refl; declarations = refl; sorts = refl }
  file_fine (s ∷ ss) h = let parts : (is_regular_statement l s ≡ true) × (list_all (is_regular_statement l) ss ≡ true) = and_parts _ _ h in by s parts.0 (file_fine ss parts.1)
    where
      by : (t : Statement) → is_regular_statement l t ≡ true → IsFineFile ss → IsFineFile (t ∷ ss)
      by (Annotated name role (IsFormula f)) r rest =
          let own : (list_all is_fine (uses (occurrences f)) ≡ true) × (list_all is_index_name (indexes (occurrences f)) ≡ true) = formula_fine l most f (body_regular name role (IsFormula f) r) in
          let both : (list_all is_fine (uses (occurrences_in (Annotated name role (IsFormula f) ∷ ss))) ≡ true) × (list_all is_index_name (indexes (occurrences_in (Annotated name role (IsFormula f) ∷ ss))) ≡ true) = with_statement (Annotated name role (IsFormula f)) ss [] [] own.0 own.1 rest in
          record { symbols = both.0; indexes_named = both.1; declarations = rest.declarations; sorts = rest.sorts }
      by (Annotated name role (IsTyping IsIndividual)) r rest = record { symbols = rest.symbols; indexes_named = rest.indexes_named; declarations = rest.declarations; sorts = rest.sorts }
      by (Annotated name role (IsTyping (Sort a))) r rest =
          let own : is_printable_text a ≡ true = body_regular name role (IsTyping (Sort a)) r in
          record { symbols = rest.symbols; indexes_named = rest.indexes_named; declarations = rest.declarations; sorts = and_from _ _ (name_of a own) rest.sorts }
      by (Annotated name role (IsTyping (Symbol f args gives))) r rest =
          let own : is_fine (record { name = f; type = record { args = args; gives = gives } }) ≡ true = declared_fine f args gives (list_all is_regular_sort args && is_regular_result gives) (body_regular name role (IsTyping (Symbol f args gives)) r) in
          record { symbols = and_from _ _ own rest.symbols; indexes_named = rest.indexes_named; declarations = and_from _ _ own rest.declarations; sorts = rest.sorts }
      by (Annotated name role (IsLogic g)) r rest =
          let own : list_all is_regular_entry g.entries ≡ true = (and_parts l.modal (list_all is_regular_entry g.entries) (body_regular name role (IsLogic g) r)).1 in
          let both : (list_all is_fine (uses (occurrences_in (Annotated name role (IsLogic g) ∷ ss))) ≡ true) × (list_all is_index_name (indexes (occurrences_in (Annotated name role (IsLogic g) ∷ ss))) ≡ true) =
          with_statement (Annotated name role (IsLogic g)) ss [] [] (ap (list_all is_fine) (overrides_no_uses (override_list g.entries))) (overrides_named (override_list g.entries) (list_regular g.entries own)) rest in
          record { symbols = both.0; indexes_named = both.1; declarations = rest.declarations; sorts = rest.sorts }
      by (Include file names) r rest = record { symbols = rest.symbols; indexes_named = rest.indexes_named; declarations = rest.declarations; sorts = rest.sorts }
