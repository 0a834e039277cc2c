-- The text of a tree, and the items of its tokens.
use Rattle.std.proofs.Common.{◌≡◌, ℕ, Bool, true, false, ◌&&◌, List, [], ◌∷◌, ◌++◌, length, Option, Some, None, refl, sym, ◌∙◌, append_assoc, append-nil}
use Rattle.std.specs.Prelude.{codes, nat_le}
use Rattle.std.specs.List.{join_by, list_all, AllByRecursion}
use Rattle.std.proofs.lemmas.Bool.{and_parts, true≢false}
use Rattle.nxf_tree.specs.declared.profile.Profile.{Profile}
use Rattle.nxf_terminals.specs.declared.sign.Sign.TheVariants as sign
use Rattle.nxf_terminals.specs.Input.{Item, Input}
use Rattle.nxf_tree.specs.Profiles.{Allowed}
use Rattle.nxf_base.specs.Bytes.{is_printable_text, is_variable_text, is_word_text}
use Rattle.nxf_tree.specs.declared.tree.Quantifier.{Quantifier}
use Rattle.nxf_tree.specs.declared.tree.Quantifier.TheVariants as quantifier
use Rattle.nxf_tree.specs.declared.tree.Op.{Op}
use Rattle.nxf_tree.specs.declared.tree.Op.TheVariants as op
use Rattle.nxf_tree.specs.declared.tree.SortName.{SortName}
use Rattle.nxf_tree.specs.declared.tree.SortName.TheVariants as sort
use Rattle.nxf_tree.specs.declared.tree.Term.{Term, Var, App', Row_of-Term, end_of-Term, more_of-Term}
use Rattle.nxf_tree.specs.declared.tree.Formula.{Formula, True, False, Atom, Same, Differ, And', Or', Distinct, Row_of-Formula, end_of-Formula, more_of-Formula}
use Rattle.nxf_tree.specs.declared.tree.Typing.{Typing}
use Rattle.nxf_tree.specs.declared.tree.Typing.TheVariants as typing
use Rattle.nxf_tree.specs.declared.tree.Role.{Role}
use Rattle.nxf_tree.specs.declared.tree.Body.{Body}
use Rattle.nxf_tree.specs.declared.tree.Body.TheVariants as body
use Rattle.nxf_tree.specs.declared.tree.Statement.TheVariants as statement
use Rattle.nxf_tree.specs.Shapes.{Not1, Pair2, Quant1, Modal1}
use Rattle.nxf_tree.specs.Text.{name_text, sort_text, term_text, arguments_text, more_arguments_text, application_text, operator_text, quantifier_text, has_brackets, in_brackets, formula_text, members_text, more_members_text, unit_text, result_text, type_text, typing_text, suffix_text, role_text, body_text}
use Rattle.nxf_tree.specs.RegularFormulas.{is_regular_sort, is_regular_term, are_regular_terms, terms_count, is_regular_list, is_regular_formula, are_regular_formulas, formulas_count}
use Rattle.nxf_tree.specs.Regular.{body_kind}
use Rattle.nxf_tree.specs.Regular.{is_regular_result, is_regular_typing, is_regular_suffix, is_regular_role, is_body_of, is_regular_body, is_regular_statement}
use Rattle.nxf_tree.specs.Profiles.{has_distinct}
use Rattle.printed_text_laws.proofs.Writes.{Writes, EndsWords, as_text, loosely, then_any, then_word, joined_writes}
use Rattle.printed_text_laws.proofs.Literals as literals
use Rattle.printed_text_laws.proofs.Items.{term_items, given_items, more_items, other_terms, arguments_items, op_item, quantifier_item, sort_items, bracketed, formula_items, members_items, next_items, result_items, type_items, typing_items, suffix_items, role_items, body_items, statement_items}

operator_ends : (o : Op) → EndsWords (operator_text o)
operator_ends op.Implies r = refl
operator_ends op.ImpliedBy r = refl
operator_ends op.Iff r = refl
operator_ends op.Xor r = refl
operator_ends op.Nor r = refl
operator_ends op.Nand r = refl

-- what a file may use where it has no modalities
pub record Fits (p : Profile) (l : Allowed) : Type 0 where
  pub no_modal : l.modal ≡ false
  pub distinct : l.distinct ≡ true → has_distinct p ≡ true

-- a statement without its end
abbrev pub front_text : List ℕ → Role → Body → List ℕ
front_text name role b = codes "tff(" ++ name_text name ++ codes "," ++ role_text role ++ codes "," ++ body_text b

module _ (p : Profile) (l : Allowed) (fits : Fits p l) where
  -- ---- terms

  mutual
    term_writes : (t : Term) → is_regular_term l t ≡ true → Writes p true (term_text t) (term_items t)
    term_writes (Var x) h = literals.variable p x h
    term_writes (App' f shape ts) h =
        let t = and_parts (is_printable_text f) (nat_le (terms_count ts) l.arguments && are_regular_terms l ts) h in
        let u = and_parts (nat_le (terms_count ts) l.arguments) (are_regular_terms l ts) t.1 in
        given_writes f ts t.0 u.1

    given_writes : {m : _} (f : List ℕ) (ts : Row_of-Term m) → is_printable_text f ≡ true → are_regular_terms l ts ≡ true → Writes p true (name_text f ++ arguments_text ts) (λ i. (sign.Name, name_text f) ∷ given_items ts i)
    given_writes f end_of-Term name h = as_text p (sym (append-nil (name_text f))) (literals.name p f name)
    given_writes f (more_of-Term t ts) name h =
        let u = and_parts (is_regular_term l t) (are_regular_terms l ts) h in
        then_word p (literals.name p f name) (λ r. refl) (loosely p (then_word p (then_any p (literals.open_mark p) (term_writes t u.0)) (more_end ts) (more_writes ts u.1)))

    more_writes : {m : _} (ts : Row_of-Term m) → are_regular_terms l ts ≡ true → Writes p false (more_arguments_text ts) (more_items ts)
    more_writes end_of-Term h = literals.close_mark p
    more_writes (more_of-Term t ts) h =
        let u = and_parts (is_regular_term l t) (are_regular_terms l ts) h in
        then_word p (then_any p (literals.comma p) (term_writes t u.0)) (more_end ts) (more_writes ts u.1)

    more_end : {m : _} (ts : Row_of-Term m) → EndsWords (more_arguments_text ts)
    more_end end_of-Term r = refl
    more_end (more_of-Term t ts) r = refl

  each_term : (ts : List Term) → is_regular_list l ts ≡ true → AllByRecursion (λ (t : Term). Writes p true (term_text t) (term_items t)) ts
  each_term [] h = tt
  each_term (t ∷ ts) h = let u = and_parts (is_regular_term l t) (is_regular_list l ts) h in (term_writes t u.0, each_term ts u.1)

  terms_writes : (t : Term) (ts : List Term) → is_regular_list l (t ∷ ts) ≡ true → Writes p true (join_by term_text (codes ",") (t ∷ ts)) (λ i. term_items t (other_terms ts i))
  terms_writes t ts h =
      let all = each_term (t ∷ ts) h in
      joined_writes p term_text term_items (codes ",") (sign.Comma, codes ",") (λ r. refl) (literals.comma p) t ts all.0 all.1

  application_writes : (f : List ℕ) (ts : List Term) → is_printable_text f ≡ true → is_regular_list l ts ≡ true → Writes p true (application_text f ts) (λ i. (sign.Name, name_text f) ∷ arguments_items ts i)
  application_writes f [] name h = literals.name p f name
  application_writes f (t ∷ ts) name h =
      loosely p (then_word p (then_any p (then_word p (literals.name p f name) (λ r. refl) (literals.open_mark p)) (terms_writes t ts h)) (λ r. refl) (literals.close_mark p))

  -- ---- formulas

  sort_writes : (s : SortName) → is_regular_sort s ≡ true → Writes p true (sort_text s) (sort_items s)
  sort_writes sort.Individual h = literals.individual_word p
  sort_writes (sort.User s) h = literals.name p s h

  bracket_writes : (b : Bool) (s : List ℕ) (g : Input → Input) → Writes p true s g → Writes p true (in_brackets b s) (bracketed b g)
  bracket_writes true s g h = loosely p (then_word p (then_any p (literals.open_blank p) h) (λ r. refl) (literals.blank_close p))
  bracket_writes false s g h = h

  operator_writes : (o : Op) → Writes p false (operator_text o) (λ i. op_item o ∷ i)
  operator_writes op.Implies = literals.implies_between p
  operator_writes op.ImpliedBy = literals.implied_between p
  operator_writes op.Iff = literals.iff_between p
  operator_writes op.Xor = literals.xor_between p
  operator_writes op.Nor = literals.nor_between p
  operator_writes op.Nand = literals.nand_between p

  binder_writes : (q : Quantifier) (x : List ℕ) → is_variable_text x ≡ true → Writes p true (quantifier_text q ++ x) (λ i. quantifier_item q ∷ (sign.LeftBracket, codes "[") ∷ (sign.Upper, x) ∷ i)
  binder_writes quantifier.All x h = literals.all_variable p x h
  binder_writes quantifier.Exists x h = literals.exists_variable p x h

  pair_writes : (o : Op) {a b : List ℕ} {g h : Input → Input} → Writes p true a g → Writes p true b h → Writes p true (a ++ operator_text o ++ b) (λ i. g (op_item o ∷ h i))
  pair_writes o first second = then_any p (then_word p first (operator_ends o) (operator_writes o)) second

  mutual
    formula_writes : (f : Formula) → is_regular_formula l f ≡ true → Writes p true (formula_text f) (formula_items f)
    formula_writes True h = literals.true_word p
    formula_writes False h = literals.false_word p
    formula_writes (Atom a ts) h =
        let t = and_parts (is_printable_text a) (nat_le (length ts) l.arguments && is_regular_list l ts) h in
        application_writes a ts t.0 (and_parts (nat_le (length ts) l.arguments) (is_regular_list l ts) t.1).1
    formula_writes (Same t u) h =
        let both = and_parts (is_regular_term l t) (is_regular_term l u) h in
        then_any p (then_word p (term_writes t both.0) (λ r. refl) (literals.equal_between p)) (term_writes u both.1)
    formula_writes (Differ t u) h =
        let both = and_parts (is_regular_term l t) (is_regular_term l u) h in
        then_any p (then_word p (term_writes t both.0) (λ r. refl) (literals.differ_between p)) (term_writes u both.1)
    formula_writes (Not1 f) h = then_any p (literals.not_blank p) (bracket_writes (has_brackets f) (formula_text f) (formula_items f) (formula_writes f h))
    formula_writes (And' shape fs) h = members_writes (codes " & ") (sign.And, codes "&") (λ r. refl) (literals.and_between p) fs (and_parts (nat_le 2 (formulas_count fs)) (are_regular_formulas l fs) h).0 (and_parts (nat_le 2 (formulas_count fs)) (are_regular_formulas l fs) h).1
    formula_writes (Or' shape fs) h = members_writes (codes " | ") (sign.Or, codes "|") (λ r. refl) (literals.or_between p) fs (and_parts (nat_le 2 (formulas_count fs)) (are_regular_formulas l fs) h).0 (and_parts (nat_le 2 (formulas_count fs)) (are_regular_formulas l fs) h).1
    formula_writes (Pair2 o f g) h =
        let both = and_parts (is_regular_formula l f) (is_regular_formula l g) h in
        pair_writes o (bracket_writes (has_brackets f) (formula_text f) (formula_items f) (formula_writes f both.0)) (bracket_writes (has_brackets g) (formula_text g) (formula_items g) (formula_writes g both.1))
    formula_writes (Quant1 q x s f) h =
        let t = and_parts (is_variable_text x) (is_regular_sort s && is_regular_formula l f) h in
        let u = and_parts (is_regular_sort s) (is_regular_formula l f) t.1 in
        then_any p
        (then_word p (then_any p (then_word p (binder_writes q x t.0) (λ r. refl) (literals.colon_blank p)) (sort_writes s u.0)) (λ r. refl) (literals.bracket_colon p))
        (bracket_writes (has_brackets f) (formula_text f) (formula_items f) (formula_writes f u.1))
    formula_writes (Modal1 m i f) h = absurd (true≢false (sym (and_parts l.modal _ h).0 ∙ fits.no_modal))
    formula_writes (Distinct []) h = absurd (true≢false (sym (and_parts l.distinct false h).1))
    formula_writes (Distinct (t ∷ ts)) h =
        let u = and_parts l.distinct (nat_le 1 (length (t ∷ ts)) && is_regular_list l (t ∷ ts)) h in
        loosely p (then_word p (then_any p (literals.distinct_open p (fits.distinct u.0)) (terms_writes t ts (and_parts (nat_le 1 (length (t ∷ ts))) (is_regular_list l (t ∷ ts)) u.1).1)) (λ r. refl) (literals.close_mark p))

    -- one member or more
    members_writes : {m : _} (operator : List ℕ) (joint : Item) → EndsWords operator → Writes p false operator (λ i. joint ∷ i) → (fs : Row_of-Formula m) → nat_le 2 (formulas_count fs) ≡ true → are_regular_formulas l fs ≡ true → Writes p true (members_text operator fs) (members_items joint fs)
    members_writes operator joint ends between end_of-Formula two h = absurd cc
    members_writes operator joint ends between (more_of-Formula f fs) two h =
        let u = and_parts (is_regular_formula l f) (are_regular_formulas l fs) h in
        next_writes operator joint ends between fs (bracket_writes (has_brackets f) (formula_text f) (formula_items f) (formula_writes f u.0)) u.1

    next_writes : {m : _} {s : List ℕ} {g : Input → Input} (operator : List ℕ) (joint : Item) → EndsWords operator → Writes p false operator (λ i. joint ∷ i) → (fs : Row_of-Formula m) → Writes p true s g → are_regular_formulas l fs ≡ true → Writes p true (s ++ more_members_text operator fs) (λ i. g (next_items joint fs i))
    next_writes {s = s} operator joint ends between end_of-Formula first h = as_text p (sym (append-nil s)) first
    next_writes {s = s} operator joint ends between (more_of-Formula f fs) first h =
        let u = and_parts (is_regular_formula l f) (are_regular_formulas l fs) h in
        as_text p (append_assoc s (operator ++ unit_text f) (more_members_text operator fs) ∙ refl)
        (next_writes operator joint ends between fs (as_text p (append_assoc s operator (unit_text f)) (then_any p (then_word p first ends between) (bracket_writes (has_brackets f) (formula_text f) (formula_items f) (formula_writes f u.0)))) u.1)

  -- ---- typings

  result_writes : (s : Option SortName) → is_regular_result s ≡ true → Writes p true (result_text s) (result_items s)
  result_writes None h = literals.truth_word p
  result_writes (Some s) h = sort_writes s h

  each_sort : (ss : List SortName) → list_all is_regular_sort ss ≡ true → AllByRecursion (λ (s : SortName). Writes p true (sort_text s) (sort_items s)) ss
  each_sort [] h = tt
  each_sort (s ∷ ss) h = let u = and_parts (is_regular_sort s) (list_all is_regular_sort ss) h in (sort_writes s u.0, each_sort ss u.1)

  type_writes : (ss : List SortName) (r : Option SortName) → list_all is_regular_sort ss ≡ true → is_regular_result r ≡ true → Writes p true (type_text ss r) (type_items ss r)
  type_writes [] r h gives = result_writes r gives
  type_writes (s ∷ []) r h gives = then_any p (then_word p (each_sort (s ∷ []) h).0 (λ q. refl) (literals.greater_between p)) (result_writes r gives)
  type_writes (s ∷ t ∷ ss) r h gives =
      let all = each_sort (s ∷ t ∷ ss) h in
      then_any p (then_word p (then_any p (literals.open_blank p) (joined_writes p sort_text sort_items (codes " * ") (sign.Star, codes "*") (λ q. refl) (literals.star_between p) s (t ∷ ss) all.0 all.1)) (λ q. refl) (literals.close_greater p)) (result_writes r gives)

  typing_writes : (t : Typing) → is_regular_typing l t ≡ true → Writes p true (typing_text t) (typing_items t)
  typing_writes typing.Individual h = literals.individual_sort p
  typing_writes (typing.Sort s) h = then_word p (literals.name p s h) (λ r. refl) (literals.colon_sort p)
  typing_writes (typing.Symbol f ss r) h =
      let t = and_parts (is_printable_text f) (nat_le (length ss) l.arguments && (list_all is_regular_sort ss && is_regular_result r)) h in
      let u = and_parts (nat_le (length ss) l.arguments) (list_all is_regular_sort ss && is_regular_result r) t.1 in
      let v = and_parts (list_all is_regular_sort ss) (is_regular_result r) u.1 in
      then_any p (then_word p (literals.name p f t.0) (λ q. refl) (literals.colon_blank p)) (type_writes ss r v.0 v.1)

  -- ---- statements

  suffixed_writes : (a : List ℕ) (s : Option (List ℕ)) → is_word_text a ≡ true → is_regular_suffix s ≡ true → Writes p true (a ++ suffix_text s) (λ i. (sign.Name, a) ∷ suffix_items s i)
  suffixed_writes a None word h = as_text p (sym (append-nil a)) (literals.word p a word)
  suffixed_writes a (Some b) word h = then_word p (literals.word p a word) (λ r. refl) (then_any p (literals.minus p) (literals.word p b h))

  role_writes : (r : Role) → is_regular_role r ≡ true → Writes p true (role_text r) (role_items r)
  role_writes r h =
      let u = and_parts (is_word_text r.word) (is_regular_suffix r.suffix) h in
      suffixed_writes r.word r.suffix u.0 u.1

  body_writes : (b : Body) → is_regular_body l b ≡ true → Writes p true (body_text b) (body_items b)
  body_writes (body.Formula f) h = formula_writes f h
  body_writes (body.Typing t) h = typing_writes t h
  body_writes (body.Logic s) h = absurd (true≢false (sym (and_parts l.modal _ h).0 ∙ fits.no_modal))

  pub front_writes : (name : List ℕ) (role : Role) (b : Body) → is_regular_statement l (statement.Annotated name role b) ≡ true → Writes p true (front_text name role b) (statement_items (statement.Annotated name role b))
  front_writes name role b h =
      let t = and_parts (is_printable_text name) (is_regular_role role && (is_body_of (body_kind role.word) b && is_regular_body l b)) h in
      let u = and_parts (is_regular_role role) (is_body_of (body_kind role.word) b && is_regular_body l b) t.1 in
      let v = and_parts (is_body_of (body_kind role.word) b) (is_regular_body l b) u.1 in
      then_any p
      (then_word p (then_any p (then_word p (then_any p (literals.statement_front p) (literals.name p name t.0)) (λ r. refl) (literals.comma p)) (role_writes role u.0)) (λ r. refl) (literals.comma p))
      (body_writes b v.1)
