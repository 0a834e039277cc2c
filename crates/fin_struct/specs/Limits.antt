-- The number of cells of a structure, and the limits on structures.
use Rattle.std.specs.Prelude.{◌≡◌, ℕ, ◌+◌, ◌<◌, ◌≤◌, min, List, [], ◌∷◌}
use Rattle.nxf_tree.specs.declared.tree.ClassicalSignature.{ClassicalSignature}
use Rattle.nxf_tree.specs.Rows.{Shape, size_at}
use Rattle.nxf_tree.specs.Structures.{table_shapes}
use Rattle.fin_struct.specs.declared.limits.ShapeError.{ShapeError}
use Rattle.fin_struct.specs.declared.limits.ShapeError.TheVariants.{TooManyWorlds, TooBig, Memory}
use Rattle.fin_struct.specs.Places.{rows_count}

-- the sum over the tables of the products of the sizes of their arguments' sorts
abbrev pub cells_in : List Shape → ℕ
cells_in [] = 0
cells_in (shape ∷ shapes) = rows_count shape.sizes + cells_in shapes

-- the same for a classical signature and sizes of its sorts, or `u64::MAX` where that is greater
abbrev pub cells_of : ClassicalSignature → List ℕ → ℕ
cells_of csig sizes = min (cells_in (table_shapes sizes csig.tables)) 18446744073709551615

-- at most 65,535 worlds and 4,194,304 cells
pub record IsWithin (worlds cells : ℕ) : Type 0 where
  pub few_worlds : worlds ≤ 65535
  pub few_cells : cells ≤ 4194304

-- why a structure is refused: too many worlds, else too many cells, else want of memory
abbrev pub IsRefusal : ℕ → ℕ → ShapeError → Type 0
IsRefusal worlds cells (TooManyWorlds n) = (n ≡ worlds) × (65535 < worlds)
IsRefusal worlds cells (TooBig c) = (c ≡ cells) × (worlds ≤ 65535) × (4194304 < cells)
IsRefusal worlds cells Memory = IsWithin worlds cells

-- the same of the structures over a classical signature with these sizes of its sorts
abbrev pub RefusesShape : ClassicalSignature → List ℕ → ShapeError → Type 0
RefusesShape csig sizes = IsRefusal (size_at sizes 0) (cells_of csig sizes)
