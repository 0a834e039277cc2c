-- What an evaluator has room for, and what its answers say of a file.
use Rattle.std.specs.Prelude.{◌≡◌, ◌↔◌, ℕ, ◌≤◌, slice_get, Option, None, Some}
use Rattle.nxf_tree.specs.declared.tree.ClassicalSignature.{ClassicalSignature}
use Rattle.nxf_tree.specs.declared.tree.File.{File}
use Rattle.nxf_tree.specs.Countermodels.{IsClassicalCountermodel}
use Rattle.nxf_tree.specs.Depth.{formula_depth}
use Rattle.fin_struct.specs.StructureTables.{StructureTables, classical_structure}
use Rattle.classical_evaluation_definitions.specs.ClassicalFaults.{RoleFormula, role_formulas}
use Rattle.classical_numbering.specs.Prepared.{PreparedFormulas}

-- the depth of the deepest formula that an evaluator has room for
pub record Room : Type 0 where
  pub depth : ℕ

-- there is room for the formula at a place, and for each
abbrev pub HasRoomAt : Room → PreparedFormulas → ℕ → Type 0
HasRoomAt room prepared at = (entry : RoleFormula) → slice_get prepared.formulas at ≡ Some entry → formula_depth entry.formula ≤ room.depth

abbrev pub HasRoomForAll : Room → PreparedFormulas → Type 0
HasRoomForAll room prepared = (at : ℕ) → HasRoomAt room prepared at

-- so it is of the signature and of each file that has the prepared formulas
abbrev pub OfItsProblem : PreparedFormulas → (ClassicalSignature → File → Type 0) → Type 0
OfItsProblem prepared IsSo = (file : File) → prepared.formulas ≡ role_formulas file.statements → IsSo prepared.signature file

-- None exactly where the structure is a countermodel of the file
abbrev pub TellsCountermodel : StructureTables → Option ℕ → ClassicalSignature → File → Type 0
TellsCountermodel view found csig file = (found ≡ None) ↔ IsClassicalCountermodel csig file (classical_structure view)
