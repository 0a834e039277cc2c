-- The lists of rows that tables of cells stand for: the tables of the definitions.
use Rattle.std.specs.Prelude.{◌≡◌, ℕ, ◌<◌, Bool, nat_eq, if◌then◌else◌, List, [], ◌∷◌, map, length, replicate, slice_index, Option, None, Some}
use Rattle.nxf_tree.specs.Rows.{Table, Rows, Values, Shape, all_rows, has_row, value_of_row, beside, IsTable}
use Rattle.fin_struct.specs.Places.{rows_count, InRange}
use Rattle.fin_struct.specs.Cells.{CellTable, bound_of, cell, table_at}

-- of the rows, those whose cell is 1
abbrev pub marked : List (List ℕ) → List ℕ → List (List ℕ)
marked [] cells = []
marked (row ∷ rows) [] = []
marked (row ∷ rows) (c ∷ cells) = if nat_eq c 1 then row ∷ marked rows cells else marked rows cells

-- the rows of a table whose cells are 1
abbrev pub true_rows : CellTable → List (List ℕ)
true_rows table = marked (all_rows table.sizes) table.cells

-- the true rows of a predicate, or each row of a function beside its value
abbrev pub rows_of : Option ℕ → List (List ℕ) → List ℕ → Table
rows_of None rows cells = Rows (marked rows cells)
rows_of (Some size) rows cells = Values (beside rows cells)

-- the cell of a row that is true, or isn't
abbrev pub bit_of : Bool → ℕ
bit_of b = if b then 1 else 0

-- the table of the definitions
abbrev pub listed : CellTable → Table
listed table = rows_of table.values (all_rows table.sizes) table.cells

abbrev pub shape_of : CellTable → Shape
shape_of table = record { sizes = table.sizes; values = table.values }

-- what a table of the definitions has at a row: 1 for a true row of a predicate and 0 for another, or the value of a function
abbrev pub entry : Table → List ℕ → ℕ
entry (Rows rows) row = bit_of (has_row row rows)
entry (Values rows) row = value_of_row row rows

-- as many cells as rows, each below the bound
pub record IsFilled (table : CellTable) : Type 0 where
  pub count : length table.cells ≡ rows_count table.sizes
  pub below : (k : ℕ) → k < length table.cells → slice_index table.cells k < bound_of table.values

-- each of the tables is filled
abbrev pub AreFilled : List CellTable → Type 0
AreFilled tables = (t : ℕ) → t < length tables → IsFilled (table_at tables t)

-- the shapes of tables
abbrev pub shapes_of : List CellTable → List Shape
shapes_of = map shape_of

-- a table of this shape, all cells 0
abbrev pub blank : Shape → CellTable
blank shape = record { sizes = shape.sizes; values = shape.values; cells = replicate (rows_count shape.sizes) 0 }

-- tables of these shapes, all cells 0
abbrev pub blanks : List Shape → List CellTable
blanks = map blank

-- the list has at a row what its cell is
abbrev pub ListsTell : Type 0
ListsTell = (table : CellTable) (row : List ℕ) → IsFilled table → InRange table.sizes row → entry (listed table) row ≡ cell table row

-- the rows stand in row-major order without repeats, and each value is below its size
abbrev pub ListsFit : Type 0
ListsFit = (table : CellTable) → IsFilled table → IsTable (shape_of table) (listed table)

-- tables of one shape with equal lists have equal cells
abbrev pub ListsDetermine : Type 0
ListsDetermine = (table other : CellTable) → IsFilled table → IsFilled other → shape_of table ≡ shape_of other → listed table ≡ listed other → table ≡ other
