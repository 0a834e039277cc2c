-- What prepared formulas are: formulas with their roles over a well-formed classical signature, and the cells that stand for them.
use Rattle.std.specs.Prelude.{◌≡◌, ℕ, true, max, List, [], ◌∷◌, map, Option, None, Some}
use Rattle.std.specs.List.{All}
use Rattle.nxf_tree.specs.declared.tree.ClassicalSignature.{ClassicalSignature}
use Rattle.nxf_tree.specs.declared.tree.Formula.{Formula, True}
use Rattle.nxf_tree.specs.Depth.{formula_depth}
use Rattle.nxf_tree.specs.Sorting.{classical_language}
use Rattle.numbered_definitions.specs.declared.node.Node.{Node}
use Rattle.numbered_definitions.specs.declared.node.Numbered.{Numbered}
use Rattle.formula_cells.specs.Stored.{Stored, formulas_in}
use Rattle.classical_evaluation_definitions.specs.ClassicalFaults.{RoleFormula}
use Rattle.classical_evaluation_definitions.specs.ClassicalForm.{named_form}
use Rattle.classical_evaluation_definitions.specs.ClassicalSorting.{is_classical, IsWellFormedClassical}

-- the signature, the formulas with their roles in the order of the file, and the cells
pub record PreparedFormulas : Type 0 where
  pub signature : ClassicalSignature
  pub formulas : List RoleFormula
  pub stored : Stored

-- the depth of the deepest of the formulas
abbrev pub deepest : List RoleFormula → ℕ
deepest [] = 0
deepest (f ∷ fs) = max (formula_depth f.formula) (deepest fs)

-- the formula, or `$true` where there is none
abbrev pub or_true : Option Formula → Formula
or_true None = True
or_true (Some f) = f

-- the formula that a numbered one stands for
abbrev pub meant_by : ClassicalSignature → Node → Formula
meant_by csig n = or_true (named_form csig [] n)

-- the same with its role, whose word is kept as the name of the numbered formula
abbrev pub role_formula : ClassicalSignature → Numbered → RoleFormula
role_formula csig n = record { word = n.name; formula = meant_by csig n.node }

abbrev pub prepared_of : ClassicalSignature → Stored → PreparedFormulas
prepared_of csig stored = record { signature = csig; formulas = map (role_formula csig) (formulas_in stored); stored = stored }

-- the numbered formula stands for this one, which is closed and well sorted over the signature
pub record StandsFor (csig : ClassicalSignature) (n : Node) (f : Formula) : Type 0 where
  pub named : named_form csig [] n ≡ Some f
  pub sorted : is_classical (classical_language csig) [] f ≡ true

-- what is true of the parts of all prepared formulas
pub record IsPrepared (csig : ClassicalSignature) (stored : Stored) (depth : ℕ) : Type 0 where
  pub well_formed : IsWellFormedClassical csig
  pub stand : All (λ (n : Numbered). StandsFor csig n.node (meant_by csig n.node)) (formulas_in stored)
  pub deepest : depth ≡ deepest (map (role_formula csig) (formulas_in stored))
