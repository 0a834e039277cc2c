-- Regular formulas: their names, variables and numbers of members are those that the grammar can spell, and they use
-- what the file may use.
use Rattle.std.specs.Prelude.{ℕ, suc, Bool, true, ◌&&◌, nat_le, List, [], ◌∷◌, length}
use Rattle.nxf_tree.specs.Profiles.{Allowed}
use Rattle.nxf_base.specs.Bytes.{is_printable_text, is_variable_text}
use Rattle.nxf_tree.specs.declared.tree.Term.{Term, Var, App', Row_of-Term, end_of-Term, more_of-Term}
use Rattle.nxf_tree.specs.declared.tree.Formula.{Formula, True, False, Atom, Same, Differ, And', Or', Distinct, Row_of-Formula, end_of-Formula, more_of-Formula}
use Rattle.nxf_tree.specs.declared.tree.SortName.{SortName}
use Rattle.nxf_tree.specs.declared.tree.SortName.TheVariants as sort
use Rattle.nxf_tree.specs.declared.tree.IndexName.{IndexName}
use Rattle.nxf_tree.specs.declared.tree.IndexName.TheVariants as index
use Rattle.nxf_tree.specs.Shapes.{Not1, Pair2, Quant1, Modal1}

abbrev pub is_regular_sort : SortName → Bool
is_regular_sort sort.Individual = true
is_regular_sort (sort.User s) = is_printable_text s

abbrev pub is_regular_index : IndexName → Bool
is_regular_index index.Plain = true
is_regular_index (index.Named a) = is_printable_text a

abbrev pub terms_count : {m : _} → Row_of-Term m → ℕ
terms_count end_of-Term = 0
terms_count (more_of-Term t ts) = suc (terms_count ts)

abbrev mutual
  pub is_regular_term : Allowed → Term → Bool
  is_regular_term allowed (Var x) = is_variable_text x
  is_regular_term allowed (App' f shape ts) = is_printable_text f && (nat_le (terms_count ts) allowed.arguments && are_regular_terms allowed ts)

  pub are_regular_terms : {m : _} → Allowed → Row_of-Term m → Bool
  are_regular_terms allowed end_of-Term = true
  are_regular_terms allowed (more_of-Term t ts) = is_regular_term allowed t && are_regular_terms allowed ts

abbrev pub is_regular_list : Allowed → List Term → Bool
is_regular_list allowed [] = true
is_regular_list allowed (t ∷ ts) = is_regular_term allowed t && is_regular_list allowed ts

abbrev pub formulas_count : {m : _} → Row_of-Formula m → ℕ
formulas_count end_of-Formula = 0
formulas_count (more_of-Formula f fs) = suc (formulas_count fs)

abbrev mutual
  pub is_regular_formula : Allowed → Formula → Bool
  is_regular_formula allowed True = true
  is_regular_formula allowed False = true
  is_regular_formula allowed (Atom p ts) = is_printable_text p && (nat_le (length ts) allowed.arguments && is_regular_list allowed ts)
  is_regular_formula allowed (Same t u) = is_regular_term allowed t && is_regular_term allowed u
  is_regular_formula allowed (Differ t u) = is_regular_term allowed t && is_regular_term allowed u
  is_regular_formula allowed (Not1 f) = is_regular_formula allowed f
  is_regular_formula allowed (And' shape fs) = nat_le 2 (formulas_count fs) && are_regular_formulas allowed fs
  is_regular_formula allowed (Or' shape fs) = nat_le 2 (formulas_count fs) && are_regular_formulas allowed fs
  is_regular_formula allowed (Pair2 op f g) = is_regular_formula allowed f && is_regular_formula allowed g
  is_regular_formula allowed (Quant1 q x s f) = is_variable_text x && (is_regular_sort s && is_regular_formula allowed f)
  is_regular_formula allowed (Modal1 m i f) = allowed.modal && (is_regular_index i && is_regular_formula allowed f)
  is_regular_formula allowed (Distinct ts) = allowed.distinct && (nat_le 1 (length ts) && is_regular_list allowed ts)

  pub are_regular_formulas : {m : _} → Allowed → Row_of-Formula m → Bool
  are_regular_formulas allowed end_of-Formula = true
  are_regular_formulas allowed (more_of-Formula f fs) = is_regular_formula allowed f && are_regular_formulas allowed fs

abbrev pub is_regular_formula_list : Allowed → List Formula → Bool
is_regular_formula_list allowed [] = true
is_regular_formula_list allowed (f ∷ fs) = is_regular_formula allowed f && is_regular_formula_list allowed fs
