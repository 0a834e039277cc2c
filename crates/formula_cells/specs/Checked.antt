-- What a checked file is: a well-formed signature, and formulas with numbers that are closed and well sorted over it.
use Rattle.std.specs.Prelude.{◌≡◌, ℕ, max, List, [], ◌∷◌, Some}
use Rattle.std.specs.List.{All}
use Rattle.nxf_tree.specs.declared.tree.Signature.{Signature}
use Rattle.nxf_tree.specs.Depth.{formula_depth}
use Rattle.nxf_tree.specs.WellFormed.{IsWellFormed}
use Rattle.numbered_definitions.specs.declared.node.Numbered.{Numbered}
use Rattle.numbered_definitions.specs.NamedForm.{FormulaStatement, all_named, IsSortedFormula}
use Rattle.formula_cells.specs.Stored.{Stored}

-- the signature of a file, its formulas in file order, and the cells that stand for them
pub record CheckedFile : Type 0 where
  pub signature : Signature
  pub formulas : List Numbered
  pub stored : Stored

-- the depth of the deepest of the formulas
abbrev pub deepest : List FormulaStatement → ℕ
deepest [] = 0
deepest (f ∷ fs) = max (formula_depth f.formula) (deepest fs)

-- the number is the depth of the deepest formula
abbrev pub GreatestDepth : Signature → List Numbered → ℕ → Type 0
GreatestDepth sig formulas depth = (fs : List FormulaStatement) → all_named sig formulas ≡ Some fs → depth ≡ deepest fs

-- what is true of the parts of every checked file
pub record IsChecked (sig : Signature) (formulas : List Numbered) (depth : ℕ) : Type 0 where
  pub well_formed : IsWellFormed sig
  pub sorted : All (λ (n : Numbered). IsSortedFormula sig n.node) formulas
  pub deepest : GreatestDepth sig formulas depth
