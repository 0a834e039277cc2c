-- The grammar reads the items of a regular tree as that tree, wherever there are levels enough.
use Rattle.std.proofs.Common.{◌≡◌, ℕ, zero, suc, ◌≤◌, true, false, ◌&&◌, List, [], ◌∷◌, length, Some, refl, sym, ap, subst, ◌∙◌, arith}
use Rattle.std.specs.Prelude.{codes, nat_le}
use Rattle.std.proofs.lemmas.Bool.{and_parts, true≢false, leb-true}
use Rattle.tptp_lex.specs.Texts.{token_text}
use Rattle.nxf_terminals.specs.declared.sign.Sign.TheVariants as sign
use Rattle.nxf_terminals.specs.Input.{Spelling, Item, Input}
use Rattle.nxf_tree.specs.Profiles.{Allowed}
use Rattle.nxf_base.specs.Bytes.{is_printable_text, is_variable_text}
use Rattle.nxf_tree.specs.declared.tree.Quantifier.{Quantifier}
use Rattle.nxf_tree.specs.declared.tree.Quantifier.TheVariants as quantifier
use Rattle.nxf_tree.specs.declared.tree.Op.{Op}
use Rattle.nxf_tree.specs.declared.tree.Op.TheVariants as op
use Rattle.nxf_tree.specs.declared.tree.SortName.{SortName}
use Rattle.nxf_tree.specs.declared.tree.SortName.TheVariants as sort
use Rattle.nxf_tree.specs.declared.tree.Term.{Term, Var, App, App', Row_of-Term, end_of-Term, more_of-Term}
use Rattle.nxf_tree.specs.declared.tree.Term.TheBlock.{items-the_row-Term, items_shown-the_row-Term-0, backs-Term}
use Rattle.nxf_tree.specs.declared.tree.Formula.{Formula, True, False, Atom, Same, Differ, And, And', Or, Or', Distinct, Row_of-Formula, end_of-Formula, more_of-Formula}
use Rattle.nxf_tree.specs.declared.tree.Formula.TheBlock.{items-the_row-Formula, items_shown-the_row-Formula-1, backs-Formula}
use Rattle.nxf_tree.specs.Shapes.{Not1, Pair2, Quant1, Modal1, Not_is, Pair_is, Quant_is}
use Rattle.nxf_tree.specs.Text.{name_text}
use Rattle.syntax_definitions.specs.Operators.{operator}
use Rattle.syntax_definitions.specs.Formulas.{IsTerm, AreTerms, IsSort, IsUnit, IsQuantified, AreUnits, IsFormula}
use Rattle.syntax_definitions.specs.Formulas as g
use Rattle.nxf_tree.specs.RegularFormulas.{is_regular_sort, is_regular_term, are_regular_terms, terms_count, is_regular_list, is_regular_formula, are_regular_formulas, formulas_count}
use Rattle.syntax_definitions.specs.Levels.{term_levels, arguments_levels, list_levels, formula_levels, members_levels, unit_levels}
use Rattle.printed_text_laws.proofs.Spellings.{name_back}
use Rattle.printed_text_laws.proofs.Items.{name_item, term_items, given_items, more_items, other_terms, arguments_items, op_item, sort_item, formula_items, members_items, next_items, unit_items}

App_is : (a : Spelling) (shape : _) (ts : Row_of-Term _) → App a (items-the_row-Term _ ts) ≡ App' a shape ts
App_is a shape ts = ap (App a) (sym (items_shown-the_row-Term-0 shape ts)) ∙ backs-Term (App' a shape ts)

And_is : (shape : _) (fs : Row_of-Formula _) → And (items-the_row-Formula _ fs) ≡ And' shape fs
And_is shape fs = ap And (sym (items_shown-the_row-Formula-1 shape fs)) ∙ backs-Formula (And' shape fs)

Or_is : (shape : _) (fs : Row_of-Formula _) → Or (items-the_row-Formula _ fs) ≡ Or' shape fs
Or_is shape fs = ap Or (sym (items_shown-the_row-Formula-1 shape fs)) ∙ backs-Formula (Or' shape fs)

pub sort_reads : (s : SortName) (rest : Input) → IsSort (sort_item s ∷ rest) s rest
sort_reads sort.Individual rest = g.individual
sort_reads (sort.User s) rest = subst (λ (a : Spelling). IsSort (name_item s ∷ rest) (sort.User a) rest) (name_back s) g.user

op_reads : (o : Op) → operator (op_item o).0 ≡ Some o
op_reads op.Implies = refl
op_reads op.ImpliedBy = refl
op_reads op.Iff = refl
op_reads op.Xor = refl
op_reads op.Nor = refl
op_reads op.Nand = refl

module _ (l : Allowed) (no_modal : l.modal ≡ false) where
  -- ---- terms

  mutual
    term_reads : (t : Term) (n : ℕ) → is_regular_term l t ≡ true → term_levels t ≤ n → (rest : Input) → IsTerm l.arguments n (term_items t rest) t rest
    term_reads (Var v) n h low rest = g.variable
    term_reads (App' a shape ts) n h low rest =
        let t = and_parts (is_printable_text a) (nat_le (terms_count ts) l.arguments && are_regular_terms l ts) h in
        let u = and_parts (nat_le (terms_count ts) l.arguments) (are_regular_terms l ts) t.1 in
        subst (λ (t : Term). IsTerm l.arguments n (name_item a ∷ given_items ts rest) t rest) (ap (λ (b : Spelling). App b (items-the_row-Term _ ts)) (name_back a) ∙ App_is a shape ts)
        (given_reads a ts n u.1 (leb-true (terms_count ts) l.arguments u.0) low rest)

    given_reads : {m : _} (a : Spelling) (ts : Row_of-Term m) (n : ℕ) → are_regular_terms l ts ≡ true → terms_count ts ≤ l.arguments → arguments_levels ts ≤ n → (rest : Input) → IsTerm l.arguments n (name_item a ∷ given_items ts rest) (App (token_text (name_text a)) (items-the_row-Term _ ts)) rest
    given_reads a end_of-Term n h few low rest = g.constant
    given_reads a (more_of-Term t ts) zero h few low rest = absurd (omega (arith, low))
    given_reads a (more_of-Term t ts) (suc n) h few low rest =
        let u = and_parts (is_regular_term l t) (are_regular_terms l ts) h in
        g.call (more_reads t ts n l.arguments (term_reads t n u.0 (omega (arith, low))) u.1 few (omega (arith, low)) rest)

    more_reads : {m : _} (t : Term) (ts : Row_of-Term m) (n k : ℕ) → ((rest : Input) → IsTerm l.arguments n (term_items t rest) t rest) → are_regular_terms l ts ≡ true → suc (terms_count ts) ≤ k → arguments_levels ts ≤ suc n → (rest : Input) → AreTerms l.arguments n k (term_items t (more_items ts rest)) (t ∷ items-the_row-Term _ ts) rest
    more_reads t ts n zero first h few low rest = absurd (omega (arith, few))
    more_reads t end_of-Term n (suc k) first h few low rest = g.last_term (first ((sign.Close, codes ")") ∷ rest))
    more_reads t (more_of-Term u ts) n (suc k) first h few low rest =
        let both = and_parts (is_regular_term l u) (are_regular_terms l ts) h in
        g.more_terms (first ((sign.Comma, codes ",") ∷ term_items u (more_items ts rest))) (more_reads u ts n k (term_reads u n both.0 (omega (arith, low))) both.1 (omega (arith, few)) (omega (arith, low)) rest)

  each_reads : (t : Term) (ts : List Term) (n k : ℕ) → is_regular_list l (t ∷ ts) ≡ true → suc (length ts) ≤ k → list_levels (t ∷ ts) ≤ suc n → (rest : Input) → AreTerms l.arguments n k (term_items t (other_terms ts ((sign.Close, codes ")") ∷ rest))) (t ∷ ts) rest
  each_reads t ts n zero h few low rest = absurd (omega (arith, few))
  each_reads t [] n (suc k) h few low rest = g.last_term (term_reads t n (and_parts (is_regular_term l t) true h).0 (omega (arith, low)) ((sign.Close, codes ")") ∷ rest))
  each_reads t (u ∷ ts) n (suc k) h few low rest =
      let both = and_parts (is_regular_term l t) (is_regular_list l (u ∷ ts)) h in
      g.more_terms (term_reads t n both.0 (omega (arith, low)) ((sign.Comma, codes ",") ∷ term_items u (other_terms ts ((sign.Close, codes ")") ∷ rest)))) (each_reads u ts n k both.1 (omega (arith, few)) (omega (arith, low)) rest)

  atom_reads : (a : Spelling) (ts : List Term) (n : ℕ) → is_regular_list l ts ≡ true → length ts ≤ l.arguments → list_levels ts ≤ n → (rest : Input) → IsUnit l.arguments n (name_item a ∷ arguments_items ts rest) (Atom (token_text (name_text a)) ts) rest
  atom_reads a [] n h few low rest = g.atom
  atom_reads a (t ∷ ts) zero h few low rest = absurd (omega (arith, low))
  atom_reads a (t ∷ ts) (suc n) h few low rest = g.atom_of (each_reads t ts n l.arguments h few low rest)

  distinct_reads : (t : Term) (ts : List Term) (n : ℕ) → is_regular_list l (t ∷ ts) ≡ true → list_levels (t ∷ ts) ≤ n → (rest : Input) → IsUnit l.arguments n (formula_items (Distinct (t ∷ ts)) rest) (Distinct (t ∷ ts)) rest
  distinct_reads t ts zero h low rest = absurd (omega (arith, low))
  distinct_reads t ts (suc n) h low rest = g.distinct (each_reads t ts n (suc (length ts)) h (omega arith) low rest)

  -- ---- formulas

  pair_reads : (n : ℕ) (o : Op) (f h : Formula) → ((rest : Input) → IsUnit l.arguments n (unit_items f rest) f rest) → ((rest : Input) → IsUnit l.arguments n (unit_items h rest) h rest) → (rest : Input) → IsFormula l.arguments n (formula_items (Pair2 o f h) rest) (Pair2 o f h) rest
  pair_reads n o f h first second rest =
      subst (λ (x : Formula). IsFormula l.arguments n (formula_items (Pair2 o f h) rest) x rest) (Pair_is o f h) (g.pair {s = (op_item o).1} (first (op_item o ∷ unit_items h rest)) (op_reads o) (second rest))

  quant_reads : (n : ℕ) (q : Quantifier) (v : Spelling) (s : SortName) (f : Formula) → ((rest : Input) → IsUnit l.arguments n (unit_items f rest) f rest) → (rest : Input) → IsUnit l.arguments (suc n) (unit_items (Quant1 q v s f) rest) (Quant1 q v s f) rest
  quant_reads n quantifier.All v s f body rest =
      subst (λ (x : Formula). IsUnit l.arguments (suc n) (unit_items (Quant1 quantifier.All v s f) rest) x rest) (Quant_is quantifier.All v s f)
      (g.all (g.last_variable (g.with_sort (sort_reads s ((sign.RightBracket, codes "]") ∷ (sign.Colon, codes ":") ∷ unit_items f rest))) (body rest)))
  quant_reads n quantifier.Exists v s f body rest =
      subst (λ (x : Formula). IsUnit l.arguments (suc n) (unit_items (Quant1 quantifier.Exists v s f) rest) x rest) (Quant_is quantifier.Exists v s f)
      (g.exists (g.last_variable (g.with_sort (sort_reads s ((sign.RightBracket, codes "]") ∷ (sign.Colon, codes ":") ∷ unit_items f rest))) (body rest)))

  as_and : (shape : _) (fs : Row_of-Formula _) (n : ℕ) (rest : Input) → IsFormula l.arguments n (members_items (sign.And, codes "&") fs rest) (And (items-the_row-Formula _ fs)) rest → IsFormula l.arguments n (members_items (sign.And, codes "&") fs rest) (And' shape fs) rest
  as_and shape fs n rest d = subst (λ (x : Formula). IsFormula l.arguments n (members_items (sign.And, codes "&") fs rest) x rest) (And_is shape fs) d

  as_or : (shape : _) (fs : Row_of-Formula _) (n : ℕ) (rest : Input) → IsFormula l.arguments n (members_items (sign.Or, codes "|") fs rest) (Or (items-the_row-Formula _ fs)) rest → IsFormula l.arguments n (members_items (sign.Or, codes "|") fs rest) (Or' shape fs) rest
  as_or shape fs n rest d = subst (λ (x : Formula). IsFormula l.arguments n (members_items (sign.Or, codes "|") fs rest) x rest) (Or_is shape fs) d

  mutual
    unit_reads : (f : Formula) (n : ℕ) → is_regular_formula l f ≡ true → unit_levels f ≤ n → (rest : Input) → IsUnit l.arguments n (unit_items f rest) f rest
    unit_reads True n h low rest = g.true
    unit_reads False n h low rest = g.false
    unit_reads (Atom a ts) n h low rest =
        let t = and_parts (is_printable_text a) (nat_le (length ts) l.arguments && is_regular_list l ts) h in
        let u = and_parts (nat_le (length ts) l.arguments) (is_regular_list l ts) t.1 in
        subst (λ (b : Spelling). IsUnit l.arguments n (name_item a ∷ arguments_items ts rest) (Atom b ts) rest) (name_back a) (atom_reads a ts n u.1 (leb-true (length ts) l.arguments u.0) low rest)
    unit_reads (Same t u) n h low rest =
        let both = and_parts (is_regular_term l t) (is_regular_term l u) h in
        g.same (term_reads t n both.0 (omega (arith, low)) ((sign.Equal, codes "=") ∷ term_items u rest)) (term_reads u n both.1 (omega (arith, low)) rest)
    unit_reads (Differ t u) n h low rest =
        let both = and_parts (is_regular_term l t) (is_regular_term l u) h in
        g.differ (term_reads t n both.0 (omega (arith, low)) ((sign.Differ, codes "!=") ∷ term_items u rest)) (term_reads u n both.1 (omega (arith, low)) rest)
    unit_reads (Not1 f) zero h low rest = absurd (omega (arith, low))
    unit_reads (Not1 f) (suc n) h low rest = subst (λ (x : Formula). IsUnit l.arguments (suc n) (unit_items (Not1 f) rest) x rest) (Not_is f) (g.not (unit_reads f n h (omega (arith, low)) rest))
    unit_reads (And' shape fs) zero h low rest = absurd (omega (arith, low))
    unit_reads (And' shape fs) (suc n) h low rest =
        let t = and_parts (nat_le 2 (formulas_count fs)) (are_regular_formulas l fs) h in
        g.brackets (as_and shape fs n ((sign.Close, codes ")") ∷ rest) (and_row fs n (leb-true 2 (formulas_count fs) t.0) t.1 (omega (arith, low)) ((sign.Close, codes ")") ∷ rest)))
    unit_reads (Or' shape fs) zero h low rest = absurd (omega (arith, low))
    unit_reads (Or' shape fs) (suc n) h low rest =
        let t = and_parts (nat_le 2 (formulas_count fs)) (are_regular_formulas l fs) h in
        g.brackets (as_or shape fs n ((sign.Close, codes ")") ∷ rest) (or_row fs n (leb-true 2 (formulas_count fs) t.0) t.1 (omega (arith, low)) ((sign.Close, codes ")") ∷ rest)))
    unit_reads (Pair2 o f k) zero h low rest = absurd (omega (arith, low))
    unit_reads (Pair2 o f k) (suc n) h low rest =
        let both = and_parts (is_regular_formula l f) (is_regular_formula l k) h in
        g.brackets (pair_reads n o f k (unit_reads f n both.0 (omega (arith, low))) (unit_reads k n both.1 (omega (arith, low))) ((sign.Close, codes ")") ∷ rest))
    unit_reads (Quant1 q v s f) zero h low rest = absurd (omega (arith, low))
    unit_reads (Quant1 q v s f) (suc n) h low rest =
        let t = and_parts (is_variable_text v) (is_regular_sort s && is_regular_formula l f) h in
        quant_reads n q v s f (unit_reads f n (and_parts (is_regular_sort s) (is_regular_formula l f) t.1).1 (omega (arith, low))) rest
    unit_reads (Modal1 m i f) n h low rest = absurd (true≢false (sym (and_parts l.modal _ h).0 ∙ no_modal))
    unit_reads (Distinct []) n h low rest = absurd (true≢false (sym (and_parts l.distinct false h).1))
    unit_reads (Distinct (t ∷ ts)) n h low rest =
        let u = and_parts l.distinct (nat_le 1 (length (t ∷ ts)) && is_regular_list l (t ∷ ts)) h in
        distinct_reads t ts n (and_parts (nat_le 1 (length (t ∷ ts))) (is_regular_list l (t ∷ ts)) u.1).1 low rest

    and_row : {m : _} (fs : Row_of-Formula m) (n : ℕ) → 2 ≤ formulas_count fs → are_regular_formulas l fs ≡ true → members_levels fs ≤ n → (rest : Input) → IsFormula l.arguments n (members_items (sign.And, codes "&") fs rest) (And (items-the_row-Formula _ fs)) rest
    and_row end_of-Formula n two h low rest = absurd (omega (arith, two))
    and_row (more_of-Formula f end_of-Formula) n two h low rest = absurd (omega (arith, two))
    and_row (more_of-Formula f (more_of-Formula k fs)) n two h low rest =
        let t = and_parts (is_regular_formula l f) (is_regular_formula l k && are_regular_formulas l fs) h in
        let u = and_parts (is_regular_formula l k) (are_regular_formulas l fs) t.1 in
        g.and (unit_reads f n t.0 (omega (arith, low)) ((sign.And, codes "&") ∷ unit_items k (next_items (sign.And, codes "&") fs rest))) (others_read (sign.And, codes "&") k fs n (unit_reads k n u.0 (omega (arith, low))) u.1 (omega (arith, low)) rest)

    or_row : {m : _} (fs : Row_of-Formula m) (n : ℕ) → 2 ≤ formulas_count fs → are_regular_formulas l fs ≡ true → members_levels fs ≤ n → (rest : Input) → IsFormula l.arguments n (members_items (sign.Or, codes "|") fs rest) (Or (items-the_row-Formula _ fs)) rest
    or_row end_of-Formula n two h low rest = absurd (omega (arith, two))
    or_row (more_of-Formula f end_of-Formula) n two h low rest = absurd (omega (arith, two))
    or_row (more_of-Formula f (more_of-Formula k fs)) n two h low rest =
        let t = and_parts (is_regular_formula l f) (is_regular_formula l k && are_regular_formulas l fs) h in
        let u = and_parts (is_regular_formula l k) (are_regular_formulas l fs) t.1 in
        g.or (unit_reads f n t.0 (omega (arith, low)) ((sign.Or, codes "|") ∷ unit_items k (next_items (sign.Or, codes "|") fs rest))) (others_read (sign.Or, codes "|") k fs n (unit_reads k n u.0 (omega (arith, low))) u.1 (omega (arith, low)) rest)

    others_read : {m : _} (joint : Item) (f : Formula) (fs : Row_of-Formula m) (n : ℕ) → ((rest : Input) → IsUnit l.arguments n (unit_items f rest) f rest) → are_regular_formulas l fs ≡ true → members_levels fs ≤ n → (rest : Input) → AreUnits l.arguments joint.0 n (unit_items f (next_items joint fs rest)) (f ∷ items-the_row-Formula _ fs) rest
    others_read joint f end_of-Formula n first h low rest = g.last_unit (first rest)
    others_read joint f (more_of-Formula k fs) n first h low rest =
        let t = and_parts (is_regular_formula l k) (are_regular_formulas l fs) h in
        g.more_units (first (joint ∷ unit_items k (next_items joint fs rest))) (others_read joint k fs n (unit_reads k n t.0 (omega (arith, low))) t.1 (omega (arith, low)) rest)

  -- the items of a formula are read as it
  pub formula_reads : (f : Formula) (n : ℕ) → is_regular_formula l f ≡ true → formula_levels f ≤ n → (rest : Input) → IsFormula l.arguments n (formula_items f rest) f rest
  formula_reads (And' shape fs) n h low rest =
      let t = and_parts (nat_le 2 (formulas_count fs)) (are_regular_formulas l fs) h in
      as_and shape fs n rest (and_row fs n (leb-true 2 (formulas_count fs) t.0) t.1 low rest)
  formula_reads (Or' shape fs) n h low rest =
      let t = and_parts (nat_le 2 (formulas_count fs)) (are_regular_formulas l fs) h in
      as_or shape fs n rest (or_row fs n (leb-true 2 (formulas_count fs) t.0) t.1 low rest)
  formula_reads (Pair2 o f k) n h low rest =
      let both = and_parts (is_regular_formula l f) (is_regular_formula l k) h in
      pair_reads n o f k (unit_reads f n both.0 (omega (arith, low))) (unit_reads k n both.1 (omega (arith, low))) rest
  formula_reads True n h low rest = g.alone (unit_reads True n h low rest)
  formula_reads False n h low rest = g.alone (unit_reads False n h low rest)
  formula_reads (Atom a ts) n h low rest = g.alone (unit_reads (Atom a ts) n h low rest)
  formula_reads (Same t u) n h low rest = g.alone (unit_reads (Same t u) n h low rest)
  formula_reads (Differ t u) n h low rest = g.alone (unit_reads (Differ t u) n h low rest)
  formula_reads (Not1 f) n h low rest = g.alone (unit_reads (Not1 f) n h low rest)
  formula_reads (Quant1 q v s f) n h low rest = g.alone (unit_reads (Quant1 q v s f) n h low rest)
  formula_reads (Modal1 m i f) n h low rest = absurd (true≢false (sym (and_parts l.modal _ h).0 ∙ no_modal))
  formula_reads (Distinct ts) n h low rest = g.alone (unit_reads (Distinct ts) n h low rest)
