-- Tables of cells, as contracts see them.
use Rattle.std.specs.Prelude.{◌≡◌, ℕ, zero, suc, ◌+◌, ◌<◌, List, [], ◌∷◌, take, drop, replicate, slice_index, slice_index_or, slice_set, Option, None, Some}
use Rattle.nxf_tree.specs.Rows.{Shape}
use Rattle.fin_struct.specs.declared.grid.GridShape.{GridShape}
use Rattle.fin_struct.specs.Places.{rows_count, place, InRange}

-- a table: the sizes of its arguments, for a function the size of the sort of its values, and the cells, row-major
pub record CellTable : Type 0 where
  pub sizes : List ℕ
  pub values : Option ℕ
  pub cells : List ℕ

-- a number above each cell: a predicate has 0 and 1
abbrev pub bound_of : Option ℕ → ℕ
bound_of None = 2
bound_of (Some size) = size

-- a table without cells
abbrev pub no_table : CellTable
no_table = record { sizes = []; values = None; cells = [] }

-- table t
abbrev pub table_at : List CellTable → ℕ → CellTable
table_at tables t = slice_index_or tables t no_table

-- what the table has at a row
abbrev pub cell : CellTable → List ℕ → ℕ
cell table row = slice_index table.cells (place table.sizes row)

-- the table with one cell changed
abbrev pub with_cell : CellTable → List ℕ → ℕ → CellTable
with_cell table row value = record { sizes = table.sizes; values = table.values; cells = slice_set table.cells (place table.sizes row) value }

-- the tables with one cell changed, that of a row of a table
abbrev pub with_row : List CellTable → ℕ → List ℕ → ℕ → List CellTable
with_row tables t row value = slice_set tables t (with_cell (table_at tables t) row value)

-- each cell but that of this row of this table is as before
abbrev pub OthersStay : List CellTable → List CellTable → ℕ → List ℕ → Type 0
OthersStay old new table row =
    (t : ℕ) (r : List ℕ) → InRange (table_at old t).sizes r → ¬ ((t ≡ table) × (r ≡ row)) → cell (table_at new t) r ≡ cell (table_at old t) r

-- each table has the sizes and the values that it had
abbrev pub ShapesStay : List CellTable → List CellTable → Type 0
ShapesStay old new = (t : ℕ) → ((table_at new t).sizes ≡ (table_at old t).sizes) × ((table_at new t).values ≡ (table_at old t).values)

-- what the table is, without where its list of sizes lies
abbrev pub grid_shape : GridShape → Shape
grid_shape shape = record { sizes = shape.sizes.items; values = shape.values }

abbrev pub shape_rows : GridShape → ℕ
shape_rows shape = rows_count shape.sizes.items

-- the sizes of table t's arguments, and the size of its values
abbrev pub sizes_at : List GridShape → ℕ → List ℕ
sizes_at [] t = []
sizes_at (shape ∷ shapes) zero = shape.sizes.items
sizes_at (shape ∷ shapes) (suc t) = sizes_at shapes t

abbrev pub values_at : List GridShape → ℕ → Option ℕ
values_at [] t = None
values_at (shape ∷ shapes) zero = shape.values
values_at (shape ∷ shapes) (suc t) = values_at shapes t

-- where table t begins
abbrev pub start_of : List GridShape → ℕ → ℕ
start_of [] t = 0
start_of (shape ∷ shapes) zero = 0
start_of (shape ∷ shapes) (suc t) = shape_rows shape + start_of shapes t

-- the cells of all tables together
abbrev pub total_rows : List GridShape → ℕ
total_rows [] = 0
total_rows (shape ∷ shapes) = shape_rows shape + total_rows shapes

-- a table of this shape, from the first cells of a list
abbrev pub table_of : GridShape → List ℕ → CellTable
table_of shape cells = record { sizes = shape.sizes.items; values = shape.values; cells = take (shape_rows shape) cells }

-- tables with these shapes and these cells, one table after the other
abbrev pub tables_of : List GridShape → List ℕ → List CellTable
tables_of [] cells = []
tables_of (shape ∷ shapes) cells = table_of shape cells ∷ tables_of shapes (drop (shape_rows shape) cells)

-- tables with these shapes, all cells 0
abbrev pub blank_tables : List GridShape → List CellTable
blank_tables [] = []
blank_tables (shape ∷ shapes) = record { sizes = shape.sizes.items; values = shape.values; cells = replicate (shape_rows shape) 0 } ∷ blank_tables shapes

-- where each table's cells begin
abbrev pub starts_of : ℕ → List GridShape → List ℕ
starts_of at [] = []
starts_of at (shape ∷ shapes) = at ∷ starts_of (at + shape_rows shape) shapes

-- every cell is below its table's bound
abbrev pub Bounded : List GridShape → List ℕ → Type 0
Bounded [] cells = Unit {0}
Bounded (shape ∷ shapes) cells = ((k : ℕ) → k < shape_rows shape → slice_index cells k < bound_of shape.values) × Bounded shapes (drop (shape_rows shape) cells)

-- every table has room for the number 0
abbrev pub AllPositive : List GridShape → Type 0
AllPositive [] = Unit {0}
AllPositive (shape ∷ shapes) = (0 < bound_of shape.values) × AllPositive shapes

-- shapes that differ at most in where their lists of sizes lie
abbrev pub SameShapes : List GridShape → List GridShape → Type 0
SameShapes [] [] = Unit {0}
SameShapes [] (y ∷ ys) = ⊥
SameShapes (x ∷ xs) [] = ⊥
SameShapes (x ∷ xs) (y ∷ ys) = ((x.sizes.items ≡ y.sizes.items) × (x.values ≡ y.values)) × SameShapes xs ys
