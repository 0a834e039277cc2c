-- The weight of a file: the number of its statements, formulas, terms, specification entries and specification words.
use Rattle.std.specs.Prelude.{ℕ, ◌+◌, List, [], ◌∷◌}
use Rattle.nxf_tree.specs.declared.tree.Term.{Term, Var, App', Row_of-Term, end_of-Term, more_of-Term}
use Rattle.nxf_tree.specs.declared.tree.Formula.{Formula, True, False, Atom, Same, Differ, And', Or', Distinct, Row_of-Formula, end_of-Formula, more_of-Formula}
use Rattle.nxf_tree.specs.declared.tree.SpecValue.{SpecValue, Items'}
use Rattle.nxf_tree.specs.declared.tree.SpecValue as value
use Rattle.nxf_tree.specs.declared.tree.SpecItem.{SpecItem, Entry'}
use Rattle.nxf_tree.specs.declared.tree.SpecItem.TheBlock.{Row_of-SpecItem, end_of-SpecItem, more_of-SpecItem}
use Rattle.nxf_tree.specs.declared.tree.SpecItem as item
use Rattle.nxf_tree.specs.declared.tree.SpecEntry.{SpecEntry}
use Rattle.nxf_tree.specs.declared.tree.LogicSpec.{LogicSpec}
use Rattle.nxf_tree.specs.declared.tree.Body.{Body}
use Rattle.nxf_tree.specs.declared.tree.Body.TheVariants as body
use Rattle.nxf_tree.specs.declared.tree.Statement.{Statement}
use Rattle.nxf_tree.specs.declared.tree.Statement.TheVariants as statement
use Rattle.nxf_tree.specs.declared.tree.File.{File}
use Rattle.nxf_tree.specs.Shapes.{Not1, Pair2, Quant1, Modal1}

abbrev mutual
  pub term_weight : Term → ℕ
  term_weight (Var x) = 1
  term_weight (App' f shape ts) = terms_weight ts + 1

  pub terms_weight : {m : _} → Row_of-Term m → ℕ
  terms_weight end_of-Term = 0
  terms_weight (more_of-Term t ts) = term_weight t + terms_weight ts

abbrev pub list_weight : List Term → ℕ
list_weight [] = 0
list_weight (t ∷ ts) = term_weight t + list_weight ts

abbrev mutual
  pub formula_weight : Formula → ℕ
  formula_weight True = 1
  formula_weight False = 1
  formula_weight (Atom p ts) = list_weight ts + 1
  formula_weight (Same t u) = term_weight t + term_weight u + 1
  formula_weight (Differ t u) = term_weight t + term_weight u + 1
  formula_weight (Not1 f) = formula_weight f + 1
  formula_weight (And' shape fs) = formulas_weight fs + 1
  formula_weight (Or' shape fs) = formulas_weight fs + 1
  formula_weight (Pair2 op f g) = formula_weight f + formula_weight g + 1
  formula_weight (Quant1 q x s f) = formula_weight f + 1
  formula_weight (Modal1 m i f) = formula_weight f + 1
  formula_weight (Distinct ts) = list_weight ts + 1

  pub formulas_weight : {m : _} → Row_of-Formula m → ℕ
  formulas_weight end_of-Formula = 0
  formulas_weight (more_of-Formula f fs) = formula_weight f + formulas_weight fs

abbrev pub formula_list_weight : List Formula → ℕ
formula_list_weight [] = 0
formula_list_weight (f ∷ fs) = formula_weight f + formula_list_weight fs

abbrev mutual
  pub value_weight : SpecValue → ℕ
  value_weight (value.Word w) = 1
  value_weight (Items' shape items) = row_weight items

  pub item_weight : SpecItem → ℕ
  item_weight (item.Word w) = 1
  item_weight (Entry' k v) = value_weight v + 1

  pub row_weight : {m : _} → Row_of-SpecItem m → ℕ
  row_weight end_of-SpecItem = 0
  row_weight (more_of-SpecItem i is) = item_weight i + row_weight is

abbrev pub entry_weight : SpecEntry → ℕ
entry_weight e = value_weight e.value + 1

abbrev pub item_list_weight : List SpecItem → ℕ
item_list_weight [] = 0
item_list_weight (i ∷ is) = item_weight i + item_list_weight is

abbrev pub entry_list_weight : List SpecEntry → ℕ
entry_list_weight [] = 0
entry_list_weight (e ∷ es) = entry_weight e + entry_list_weight es

abbrev pub body_weight : Body → ℕ
body_weight (body.Formula f) = formula_weight f
body_weight (body.Typing t) = 0
body_weight (body.Logic l) = entry_list_weight l.entries

abbrev pub statement_weight : Statement → ℕ
statement_weight (statement.Annotated name role b) = body_weight b + 1
statement_weight (statement.Include file names) = 1

abbrev pub statement_list_weight : List Statement → ℕ
statement_list_weight [] = 0
statement_list_weight (s ∷ ss) = statement_weight s + statement_list_weight ss

abbrev pub file_weight : File → ℕ
file_weight file = statement_list_weight file.statements
