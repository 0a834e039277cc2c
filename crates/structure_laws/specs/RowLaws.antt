-- The rows of a table in their order, and its cells.
use Rattle.std.specs.Prelude.{◌≡◌, ℕ, ◌<◌, List, length, slice_get, Some}
use Rattle.nxf_tree.specs.Rows.{all_rows}
use Rattle.fin_struct.specs.Places.{rows_count, InRange, place}
use Rattle.fin_struct.specs.Cells.{CellTable, bound_of, cell}
use Rattle.fin_struct.specs.RowLists.{IsFilled}

-- there are as many rows as the product of the sizes, and the row at a number has it as its place
pub record RowsStand (sizes : List ℕ) : Type 0 where
  pub count : length (all_rows sizes) ≡ rows_count sizes
  pub in_range : (k : ℕ) (row : List ℕ) → slice_get (all_rows sizes) k ≡ Some row → InRange sizes row
  pub places : (k : ℕ) (row : List ℕ) → slice_get (all_rows sizes) k ≡ Some row → place sizes row ≡ k

abbrev pub RowsStandLaw : Type 0
RowsStandLaw = (sizes : List ℕ) → RowsStand sizes

-- what a table has at a row is below its bound
abbrev pub CellsBelowLaw : Type 0
CellsBelowLaw = (table : CellTable) (row : List ℕ) → IsFilled table → InRange table.sizes row → cell table row < bound_of table.values
