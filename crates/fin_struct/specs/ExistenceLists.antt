-- Who exists where, by the lists of rows that the tables of a Kripke structure stand for.
use Rattle.std.specs.Prelude.{ℕ, Bool, true, List, [], ◌∷◌, Option, None, Some}
use Rattle.nxf_tree.specs.Rows.{has_row}
use Rattle.fin_struct.specs.Cells.{CellTable, table_at}
use Rattle.fin_struct.specs.RowLists.{true_rows}
use Rattle.fin_struct.specs.KripkeTables.{KripkeTables, existence_number}

-- the pair stands in the list of the table with the number; with no table each does
abbrev pub stands_listed : List CellTable → Option ℕ → List ℕ → Bool
stands_listed tables None row = true
stands_listed tables (Some t) row = has_row row (true_rows (table_at tables t))

-- the element of the sort is listed as one that exists at the world; in a constant sort each counts as listed
abbrev pub listed_to_exist : KripkeTables → ℕ → ℕ → ℕ → Bool
listed_to_exist view sort world element = stands_listed view.tables (existence_number view sort) (world ∷ element ∷ [])
