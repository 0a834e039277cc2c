-- A file has fewer names than its weight: each stands at a node of its own, and the logic statement itself is none.
use denote.Hole.Carrier
use Rattle.std.proofs.Common.{◌≡◌, ℕ, suc, ◌+◌, ◌<◌, ◌≤◌, Bool, List, [], ◌∷◌, ◌++◌, length, Ok, refl, sym, ap, ◌∙◌, length-append, arith}
use Rattle.std.specs.Prelude.{not, map, filter}
use Rattle.std.proofs.lemmas.List.Sums.{length-filter, count_by-le-length}
use Rattle.nxf_tree.specs.declared.tree.IndexName.TheVariants.{Named}
use Rattle.nxf_tree.specs.declared.tree.SortName.TheVariants.{User}
use Rattle.nxf_tree.specs.declared.tree.Override.{Override}
use Rattle.nxf_tree.specs.declared.tree.SpecKey.{SpecKey}
use Rattle.nxf_tree.specs.declared.tree.SpecKey.TheVariants.{Dollar, Name, Index}
use Rattle.nxf_tree.specs.declared.tree.SpecEntry.{SpecEntry}
use Rattle.nxf_tree.specs.declared.tree.SpecValue.{SpecValue, SpecValue-F, out-SpecValue, Items}
use Rattle.nxf_tree.specs.declared.tree.SpecValue as value
use Rattle.nxf_tree.specs.declared.tree.SpecItem.{SpecItem, SpecItem-F, out-SpecItem, Entry}
use Rattle.nxf_tree.specs.declared.tree.SpecItem as item
use Rattle.nxf_tree.specs.declared.tree.SpecItem.TheBlock.{Row_of-SpecItem, end_of-SpecItem, more_of-SpecItem, items-the_row-SpecItem, hidden-the_row-SpecItem-0, items_hidden-the_row-SpecItem-0}
use Rattle.nxf_tree.specs.declared.tree.SpecItem.TheOpen as opened
use Rattle.nxf_tree.specs.declared.tree.LogicSpec.{LogicSpec}
use Rattle.nxf_tree.specs.declared.tree.Typing.TheVariants.{Individual as IsIndividual, Sort, Symbol}
use Rattle.nxf_tree.specs.declared.tree.Body.TheVariants.{Formula as IsFormula, Typing as IsTyping, Logic as IsLogic}
use Rattle.nxf_tree.specs.declared.tree.Statement.{Statement}
use Rattle.nxf_tree.specs.declared.tree.Statement.TheVariants.{Annotated, Include}
use Rattle.nxf_tree.specs.declared.tree.File.{File}
use Rattle.nxf_tree.specs.declared.tree.Term.{Term, Var, App', Row_of-Term, end_of-Term, more_of-Term}
use Rattle.nxf_tree.specs.declared.tree.Formula.{Formula, True, False, Atom, Same, Differ, And', Or', Distinct, Row_of-Formula, end_of-Formula, more_of-Formula}
use Rattle.nxf_tree.specs.Shapes.{Not1, Pair2, Quant1, Modal1}
use Rattle.nxf_tree.specs.Signature.{same_sort, same_index}
use Rattle.nxf_tree.specs.Specification.{Specification, overrides_of, overrides_in, and_override, override_list, key_text, logic_statements, only_logic, spec_of}
use Rattle.nxf_tree.specs.Weight.{term_weight, terms_weight, list_weight, formula_weight, formulas_weight, value_weight, item_weight, row_weight, entry_list_weight, statement_list_weight, file_weight}
use Rattle.nxf_tree.specs.Occurrences.{Occurrence, term_uses, row_uses, terms_uses, occurrences, row_occurrences, key_occurrences, override_occurrences, occurrences_in, uses, indexes, declared, declared_sorts}
use Rattle.nxf_tree.specs.SignatureOf.{firsts, same_symbol, typed, is_named}
use Rattle.nxf_signatures.specs.declared.tables.Tables.{Tables}
use Rattle.nxf_signatures.specs.steps.Tables.{use_of}
use Rattle.nxf_signatures.specs.steps.TablesOf.{AreTablesOf}
use Rattle.nxf_signatures.proofs.Small.{mapped_length}

module _ {X : Type 0} where
  filter_few : (p : X → Bool) (xs : List X) → length (filter p xs) ≤ length xs
  filter_few p xs = omega (arith, length-filter p xs, count_by-le-length p xs)

  firsts_few : (same : X → X → Bool) (xs : List X) → length (firsts same xs) ≤ length xs
  firsts_few same [] = omega arith
  firsts_few same (x ∷ xs) = omega (arith, firsts_few same xs, filter_few (λ y. not (same x y)) (firsts same xs))

-- a term has no more symbols than nodes
mutual
  term_few : (t : Term) → length (term_uses t) ≤ term_weight t
  term_few (Var x) = omega arith
  term_few (App' f shape ts) = omega (arith, row_few ts)

  row_few : {m : _} (ts : Row_of-Term m) → length (row_uses ts) ≤ terms_weight ts
  row_few end_of-Term = omega arith
  row_few (more_of-Term t ts) = omega (arith, length-append (term_uses t) (row_uses ts), term_few t, row_few ts)

terms_few : (ts : List Term) → length (terms_uses ts) ≤ list_weight ts
terms_few [] = omega arith
terms_few (t ∷ ts) = omega (arith, length-append (term_uses t) (terms_uses ts), term_few t, terms_few ts)

-- two terms beside each other
sides_few : (t u : Term) → length (map Occurrence.symbol (term_uses t ++ term_uses u)) ≤ term_weight t + term_weight u
sides_few t u = omega (arith, mapped_length Occurrence.symbol (term_uses t ++ term_uses u), length-append (term_uses t) (term_uses u), term_few t, term_few u)

-- no more occurs in a formula than it has nodes
mutual
  formula_few : (f : Formula) → length (occurrences f) ≤ formula_weight f
  formula_few True = omega arith
  formula_few False = omega arith
  formula_few (Atom p ts) = omega (arith, mapped_length Occurrence.symbol (terms_uses ts), terms_few ts)
  formula_few (Same t u) = omega (arith, sides_few t u)
  formula_few (Differ t u) = omega (arith, sides_few t u)
  formula_few (Not1 f) = omega (arith, formula_few f)
  formula_few (And' shape fs) = omega (arith, formulas_few fs)
  formula_few (Or' shape fs) = omega (arith, formulas_few fs)
  formula_few (Pair2 op f g) = omega (arith, length-append (occurrences f) (occurrences g), formula_few f, formula_few g)
  formula_few (Quant1 q x s f) = omega (arith, formula_few f)
  formula_few (Modal1 m i f) = omega (arith, formula_few f)
  formula_few (Distinct ts) = omega (arith, mapped_length Occurrence.symbol (terms_uses ts), terms_few ts)

  formulas_few : {m : _} (fs : Row_of-Formula m) → length (row_occurrences fs) ≤ formulas_weight fs
  formulas_few end_of-Formula = omega arith
  formulas_few (more_of-Formula f fs) = omega (arith, length-append (occurrences f) (row_occurrences fs), formula_few f, formulas_few fs)

-- an item or a value has no more overrides than its weight
rolled_entry : (e : SpecEntry) → item.roll-SpecItem (opened.Entry e) ≡ Entry e
unfolding item.roll-SpecItem denote.Hole.Carrier.roll
rolled_entry e = refl

rolled_items : (is : List SpecItem) → value.roll-SpecValue (opened.Items is) ≡ Items is
unfolding value.roll-SpecValue denote.Hole.Carrier.roll
rolled_items is = refl

item_few : (i : SpecItem) (es : List SpecEntry) → length (and_override (out-SpecItem i) es) ≤ item_weight i + length es
item_few i es = by (out-SpecItem i) (item.roll-out-SpecItem i)
  where
    by : (o : SpecItem-F SpecItem SpecValue SpecEntry) → item.roll-SpecItem o ≡ i → length (and_override o es) ≤ item_weight i + length es
    by (opened.SpecItem::Word word) e = omega arith
    by (opened.Entry entry) e =
        let weighs : item_weight i ≡ value_weight entry.value + 1 = ap item_weight (sym e ∙ rolled_entry entry) in
        omega (arith, weighs)

items_few : {m : _} (is : Row_of-SpecItem m) → length (overrides_of (items-the_row-SpecItem _ is)) ≤ row_weight is
items_few end_of-SpecItem = omega arith
items_few (more_of-SpecItem i is) = omega (arith, item_few i (overrides_of (items-the_row-SpecItem _ is)), items_few is)

value_few : (v : SpecValue) → length (overrides_in (out-SpecValue v)) ≤ value_weight v
value_few v = by (out-SpecValue v) (value.roll-out-SpecValue v)
  where
    by : (o : SpecValue-F SpecItem SpecValue SpecEntry) → value.roll-SpecValue o ≡ v → length (overrides_in o) ≤ value_weight v
    by (opened.SpecValue::Word word) e = omega arith
    by (opened.Items items) e =
        let weighs : value_weight v ≡ row_weight (hidden-the_row-SpecItem-0 items) = ap value_weight (sym e ∙ rolled_items items) in
        let same : length (overrides_of (items-the_row-SpecItem _ (hidden-the_row-SpecItem-0 items))) ≡ length (overrides_of items) = ap (λ is. length (overrides_of is)) (items_hidden-the_row-SpecItem-0 items) in
        omega (arith, weighs, same, items_few (hidden-the_row-SpecItem-0 items))

key_few : (k : SpecKey) → length (key_occurrences k) ≤ 1
key_few (Dollar word) = omega arith
key_few (Name name) = omega arith
key_few (Index i) = omega arith

keys_few : (os : List Override) → length (override_occurrences os) ≤ length os
keys_few [] = omega arith
keys_few (o ∷ os) = omega (arith, length-append (key_occurrences o.key) (override_occurrences os), key_few o.key, keys_few os)

list_few : (es : List SpecEntry) → length (override_list es) ≤ entry_list_weight es
list_few [] = omega arith
list_few (e ∷ es) =
    let marked = λ (o : SpecEntry). let r : Override = record { of = key_text e.key; key = o.key } in r in
    let own = overrides_in (out-SpecValue e.value) in
    omega (arith, length-append (map marked own) (override_list es), mapped_length marked own, value_few e.value, list_few es)

-- what occurs in statements, the sorts that they declare and the logic statements, each of which is more than its parts
statements_few : (k : ℕ) (ss : List Statement) → length (declared_sorts ss) + length (occurrences_in ss) + length (logic_statements k ss) ≤ statement_list_weight ss
statements_few k [] = omega arith
statements_few k (Annotated name role (IsFormula f) ∷ ss) = omega (arith, length-append (occurrences f) (occurrences_in ss), formula_few f, statements_few (suc k) ss)
statements_few k (Annotated name role (IsTyping IsIndividual) ∷ ss) = omega (arith, statements_few (suc k) ss)
statements_few k (Annotated name role (IsTyping (Sort s)) ∷ ss) = omega (arith, statements_few (suc k) ss)
statements_few k (Annotated name role (IsTyping (Symbol f args gives)) ∷ ss) = omega (arith, statements_few (suc k) ss)
statements_few k (Annotated name role (IsLogic l) ∷ ss) =
    let own = override_occurrences (override_list l.entries) in
    omega (arith, length-append own (occurrences_in ss), keys_few (override_list l.entries), list_few l.entries, statements_few (suc k) ss)
statements_few k (Include file names ∷ ss) = omega (arith, statements_few (suc k) ss)

parts_few : (os : List Occurrence) → length (uses os) + length (indexes os) ≤ length os
parts_few [] = omega arith
parts_few (Occurrence.symbol u ∷ os) = omega (arith, parts_few os)
parts_few (Occurrence.sort s ∷ os) = omega (arith, parts_few os)
parts_few (Occurrence.index i ∷ os) = omega (arith, parts_few os)

-- a specification is that of a logic statement
one_logic : (ls : List (ℕ × LogicSpec)) (spec : Specification) → only_logic ls ≡ Ok spec → 1 ≤ length ls
one_logic [] spec h = absurd cc
one_logic (l ∷ ls) spec h = omega arith

pub fewer_names : (file : File) (spec : Specification) (t : Tables) → spec_of file ≡ Ok spec → AreTablesOf file.statements t
    → length t.declarations.sorts.keys + length t.occurring.symbols.entries + length t.occurring.indexes.keys < file_weight file
fewer_names file spec t h are =
    let ss = file.statements in
    let os = occurrences_in ss in
    let named = filter is_named (indexes os) in
    let sorts : length t.declarations.sorts.keys ≡ length (firsts same_sort (declared_sorts ss)) = sym (mapped_length User t.declarations.sorts.keys) ∙ ap length are.users in
    let symbols : length t.occurring.symbols.entries ≡ length (firsts same_symbol (uses os)) =
    sym (mapped_length use_of t.occurring.symbols.entries) ∙ ap length are.symbols ∙ mapped_length (typed (declared ss)) (firsts same_symbol (uses os)) in
    let found : length t.occurring.indexes.keys ≡ length (firsts same_index named) = sym (mapped_length Named t.occurring.indexes.keys) ∙ ap length are.named in
    let all : length t.declarations.sorts.keys + length t.occurring.symbols.entries + length t.occurring.indexes.keys ≤ length (declared_sorts ss) + length os =
    omega (arith, sorts, symbols, found, firsts_few same_sort (declared_sorts ss), firsts_few same_symbol (uses os), firsts_few same_index named, filter_few is_named (indexes os), parts_few os) in
    omega (arith, all, statements_few 1 ss, one_logic (logic_statements 1 ss) spec h)
