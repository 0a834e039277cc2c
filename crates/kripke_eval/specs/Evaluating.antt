-- What an evaluator has room for, and the formula at a place among checked ones.
use Rattle.std.specs.Prelude.{◌≡◌, ℕ, ◌≤◌, Bool, [], slice_get, Option, None, Some}
use Rattle.std.specs.Option.{option_map}
use Rattle.nxf_tree.specs.declared.tree.Signature.{Signature}
use Rattle.nxf_tree.specs.declared.tree.File.{File}
use Rattle.nxf_tree.specs.declared.tree.Formula.{Formula}
use Rattle.nxf_tree.specs.Depth.{formula_depth}
use Rattle.nxf_tree.specs.Kripke.{sat}
use Rattle.fin_struct.specs.declared.condition.Condition.{Condition}
use Rattle.fin_struct.specs.FirstFault.{IsFirstFailing}
use Rattle.fin_struct.specs.KripkeTables.{KripkeTables}
use Rattle.numbered_definitions.specs.declared.node.Numbered.{Numbered}
use Rattle.numbered_definitions.specs.NamedForm.{named_form}
use Rattle.formula_cells.specs.Checked.{CheckedFile}
use Rattle.kripke_evaluation_definitions.specs.FileConditions.{model_of, meets_by_file, part_conditions}

-- what a numbered formula stands for, if there is one
abbrev pub stands_for : Signature → Option Numbered → Option Formula
stands_for sig None = None
stands_for sig (Some n) = named_form sig [] n.node

-- the formula that stands at a place among those of a checked file, counted from 0
abbrev pub formula_at : CheckedFile → ℕ → Option Formula
formula_at checked at = stands_for checked.signature (slice_get checked.formulas at)

-- whether it holds at a world of a structure, if there is one
abbrev pub truth_at : CheckedFile → KripkeTables → ℕ → ℕ → Option Bool
truth_at checked view world at = option_map (sat (model_of checked.signature view) world []) (formula_at checked at)

-- the structure's first condition that fails, of those that a file asks by its parts
abbrev pub IsFirstUnmet : KripkeTables → Option Condition → Signature → File → Type 0
IsFirstUnmet view result sig file = IsFirstFailing (meets_by_file sig file view) (part_conditions file) result

-- the depth of the deepest formula that an evaluator has room for
pub record Room : Type 0 where
  pub depth : ℕ

-- there is room for the formula at a place, and for each
abbrev pub HasRoomAt : Room → CheckedFile → ℕ → Type 0
HasRoomAt room checked at = (f : Formula) → formula_at checked at ≡ Some f → formula_depth f ≤ room.depth

abbrev pub HasRoomForAll : Room → CheckedFile → Type 0
HasRoomForAll room checked = (at : ℕ) → HasRoomAt room checked at
