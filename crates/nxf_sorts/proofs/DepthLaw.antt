-- The depth of a file is at most its weight.
use Rattle.std.proofs.Common.{◌≤◌, List, [], ◌∷◌, arith}
use Rattle.nxf_tree.specs.declared.tree.Term.{Term, Var, App', Row_of-Term, end_of-Term, more_of-Term}
use Rattle.nxf_tree.specs.declared.tree.Formula.{Formula, True, False, Atom, Same, Differ, And', Or', Distinct, Row_of-Formula, end_of-Formula, more_of-Formula}
use Rattle.nxf_tree.specs.declared.tree.Body.TheVariants.{Formula as IsFormula, Typing as IsTyping, Logic as IsLogic}
use Rattle.nxf_tree.specs.declared.tree.Statement.{Statement}
use Rattle.nxf_tree.specs.declared.tree.Statement.TheVariants.{Annotated, Include}
use Rattle.nxf_tree.specs.Shapes.{Not1, Pair2, Quant1, Modal1}
use Rattle.nxf_tree.specs.Depth.{term_depth, terms_depth, list_depth, formula_depth, formulas_depth}
use Rattle.nxf_tree.specs.FileDepth.{statement_list_depth}
use Rattle.nxf_tree.specs.Weight.{term_weight, terms_weight, list_weight, formula_weight, formulas_weight, statement_list_weight}

mutual
  term_shallow : (t : Term) → term_depth t ≤ term_weight t
  term_shallow (Var x) = omega arith
  term_shallow (App' f shape ts) = omega (arith, row_shallow ts)

  row_shallow : {m : _} (ts : Row_of-Term m) → terms_depth ts ≤ terms_weight ts
  row_shallow end_of-Term = omega arith
  row_shallow (more_of-Term t ts) = omega (arith, term_shallow t, row_shallow ts)

list_shallow : (ts : List Term) → list_depth ts ≤ list_weight ts
list_shallow [] = omega arith
list_shallow (t ∷ ts) = omega (arith, term_shallow t, list_shallow ts)

mutual
  formula_shallow : (f : Formula) → formula_depth f ≤ formula_weight f
  formula_shallow True = omega arith
  formula_shallow False = omega arith
  formula_shallow (Atom p ts) = omega (arith, list_shallow ts)
  formula_shallow (Same t u) = omega (arith, term_shallow t, term_shallow u)
  formula_shallow (Differ t u) = omega (arith, term_shallow t, term_shallow u)
  formula_shallow (Not1 f) = omega (arith, formula_shallow f)
  formula_shallow (And' shape fs) = omega (arith, formulas_shallow fs)
  formula_shallow (Or' shape fs) = omega (arith, formulas_shallow fs)
  formula_shallow (Pair2 op f g) = omega (arith, formula_shallow f, formula_shallow g)
  formula_shallow (Quant1 q x s f) = omega (arith, formula_shallow f)
  formula_shallow (Modal1 m i f) = omega (arith, formula_shallow f)
  formula_shallow (Distinct ts) = omega (arith, list_shallow ts)

  formulas_shallow : {m : _} (fs : Row_of-Formula m) → formulas_depth fs ≤ formulas_weight fs
  formulas_shallow end_of-Formula = omega arith
  formulas_shallow (more_of-Formula f fs) = omega (arith, formula_shallow f, formulas_shallow fs)

pub statements_shallow : (ss : List Statement) → statement_list_depth ss ≤ statement_list_weight ss
statements_shallow [] = omega arith
statements_shallow (Annotated name role (IsFormula f) ∷ ss) = omega (arith, formula_shallow f, statements_shallow ss)
statements_shallow (Annotated name role (IsTyping t) ∷ ss) = omega (arith, statements_shallow ss)
statements_shallow (Annotated name role (IsLogic l) ∷ ss) = omega (arith, statements_shallow ss)
statements_shallow (Include file names ∷ ss) = omega (arith, statements_shallow ss)
