-- The tables of a structure as they are filled from the map of rows.
use Rattle.std.specs.Prelude.{◌≡◌, ◌≢◌, ℕ, ◌+◌, ◌<◌, Bool, false, ◌&&◌, ◌||◌, not, nat_eq, nat_lt, if◌then◌else◌, List, [], ◌∷◌, drop, length, slice_index_or, Option, None, Some, is_some, unwrap_or}
use Rattle.std.specs.List.{list_any, list_all}
use Rattle.std.specs.Map.{lookup}
use Rattle.std.specs.Option.{option_map}
use Rattle.nxf_tree.specs.declared.tree.ClassicalSignature.{ClassicalSignature}
use Rattle.nxf_tree.specs.declared.tree.TableEntry.{TableEntry}
use Rattle.nxf_tree.specs.Names.{same_text}
use Rattle.nxf_tree.specs.Rows.{all_rows, size_at}
use Rattle.nxf_tree.specs.Structures.{table_shapes}
use Rattle.fin_struct.specs.Cells.{bound_of, cell, table_at}
use Rattle.fin_struct.specs.Places.{InRange, place, rows_count}
use Rattle.fin_struct.specs.RowLists.{AreFilled, shapes_of}
use Rattle.fin_struct.specs.StructureTables.{StructureTables}
use Rattle.interpretation_definitions.specs.Interpretation.{GivenRows}

-- the value of a row in the map
abbrev pub row_value : List (List ℕ × ℕ) → ℕ → List ℕ → Option ℕ
row_value entries k row = lookup (same_text (k ∷ row)) entries

-- the same, or 0
abbrev pub row_value_or_0 : List (List ℕ × ℕ) → ℕ → List ℕ → ℕ
row_value_or_0 entries k row = unwrap_or (row_value entries k row) 0

-- whether a key begins with the number of a symbol
abbrev pub begins_at : ℕ → List ℕ → Bool
begins_at k [] = false
begins_at k (p ∷ row) = nat_eq k p

-- the same for the key of an entry, if there is one
abbrev pub begins_in : ℕ → Option (List ℕ × ℕ) → Bool
begins_in k None = false
begins_in k (Some entry) = begins_at k entry.0

-- whether some row of the symbol with the number is in the map
abbrev pub has_place : List (List ℕ × ℕ) → ℕ → Bool
has_place entries k = list_any (λ entry. begins_at k entry.0) entries

-- the rows of the map
abbrev pub rows_in : List (List ℕ × ℕ) → GivenRows
rows_in entries = record { any = has_place entries; value = row_value entries }

-- whether all rows of the symbol with the number are in the map
abbrev pub has_all : List (List ℕ × ℕ) → ℕ → List (List ℕ) → Bool
has_all entries k rows = list_all (λ row. is_some (row_value entries k row)) rows

-- whether some of the rows are in the map, and others aren't
abbrev pub is_half_given : List (List ℕ × ℕ) → ℕ → List (List ℕ) → Bool
is_half_given entries k rows = has_place entries k && not (has_all entries k rows)

-- whether none of the rows is in the map, or all are
abbrev pub are_settled : List (List ℕ × ℕ) → ℕ → List (List ℕ) → Bool
are_settled entries k rows = not (is_half_given entries k rows)

-- the numbers are those with which keys begin
abbrev pub ArePlaces : List ℕ → List (List ℕ × ℕ) → Type 0
ArePlaces places entries = (k : ℕ) → list_any (nat_eq k) places ≡ has_place entries k

-- the new numbers are the old ones, and those that pass
abbrev pub AddsPlaces : List ℕ → (ℕ → Bool) → List ℕ → Type 0
AddsPlaces old more new = (k : ℕ) → list_any (nat_eq k) new ≡ list_any (nat_eq k) old || more k

-- the rows of table t, of which all cells may be 0
abbrev pub rows_at : StructureTables → ℕ → List (List ℕ)
rows_at S t = all_rows (table_at S.tables t).sizes

abbrev pub IsBlankAt : StructureTables → ℕ → Type 0
IsBlankAt S t = (row : List ℕ) → InRange (table_at S.tables t).sizes row → cell (table_at S.tables t) row ≡ 0

-- each value of the table's rows in the map is below its bound
abbrev pub FitsTable : List (List ℕ × ℕ) → StructureTables → ℕ → Type 0
FitsTable entries S t =
    (row : List ℕ) (value : ℕ) → row_value entries (t + 1) row ≡ Some value → value < bound_of (table_at S.tables t).values

-- each value in the map is below the size of its sort, or below 2
pub record AreBelow (csig : ClassicalSignature) (sizes : List ℕ) (entries : List (List ℕ × ℕ)) : Type 0 where
  pub worlds : (value : ℕ) → row_value entries 0 [] ≡ Some value → value < size_at sizes 0
  pub values : (t : ℕ) (d : TableEntry) (row : List ℕ) (value : ℕ) → t < length csig.tables
      → row_value entries (t + 1) row ≡ Some value → value < bound_of (option_map (size_at sizes) (slice_index_or csig.tables t d).gives)

-- the actual world is what its row says
abbrev pub SetsActual : List (List ℕ × ℕ) → StructureTables → StructureTables → Type 0
SetsActual entries old new = old.actual ≡ 0 → new ≡ record old { actual = row_value_or_0 entries 0 [] }

-- what a table has where its rows are filled, and others aren't
abbrev pub filled_below : ℕ → List (List ℕ × ℕ) → ℕ → List ℕ → ℕ
filled_below n entries t row = if nat_lt t n then row_value_or_0 entries (t + 1) row else 0

-- the tables before number n are filled, and the others are blank
pub record IsFilledBelow (csig : ClassicalSignature) (sizes : List ℕ) (entries : List (List ℕ × ℕ)) (n : ℕ)
    (S : StructureTables) : Type 0 where
  pub sizes_are : S.sizes ≡ sizes
  pub actual_is : S.actual ≡ row_value_or_0 entries 0 []
  pub shapes : shapes_of S.tables ≡ table_shapes sizes csig.tables
  pub whole : AreFilled S.tables
  pub cells : (t : ℕ) (row : List ℕ) → t < length S.tables → InRange (table_at S.tables t).sizes row
      → cell (table_at S.tables t) row ≡ filled_below n entries t row

-- of one table the rows before a place are filled, and all else stays
pub record IsFilledTo (entries : List (List ℕ × ℕ)) (t : ℕ) (at : ℕ) (old new : StructureTables) : Type 0 where
  pub sizes_stay : new.sizes ≡ old.sizes
  pub actual_stays : new.actual ≡ old.actual
  pub shapes_stay : shapes_of new.tables ≡ shapes_of old.tables
  pub whole_stays : AreFilled old.tables → AreFilled new.tables
  pub filled : (row : List ℕ) → InRange (table_at old.tables t).sizes row → place (table_at old.tables t).sizes row < at
      → cell (table_at new.tables t) row ≡ row_value_or_0 entries (t + 1) row
  pub others : (u : ℕ) (row : List ℕ) → u ≢ t → InRange (table_at old.tables u).sizes row
      → cell (table_at new.tables u) row ≡ cell (table_at old.tables u) row

-- all rows of the table are filled
abbrev pub FillsTable : List (List ℕ × ℕ) → ℕ → StructureTables → StructureTables → Type 0
FillsTable entries t old new = IsFilledTo entries t (rows_count (table_at old.tables t).sizes) old new

-- a walk over the rows of a table: those that it has passed are in the map, and filled
pub record IsAt (entries : List (List ℕ × ℕ)) (t : ℕ) (walk : List (List ℕ)) (old new : StructureTables) : Type 0 where
  pub at : ℕ
  pub left : walk ≡ drop at (all_rows (table_at old.tables t).sizes)
  pub filled : IsFilledTo entries t at old new
  pub all : has_all entries (t + 1) (all_rows (table_at old.tables t).sizes) ≡ has_all entries (t + 1) walk
