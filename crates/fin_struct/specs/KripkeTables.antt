-- A finite Kripke structure, as contracts see it, and the structure of the definitions that it is.
use Rattle.std.specs.Prelude.{◌≡◌, ℕ, suc, ◌+◌, ◌<◌, Bool, true, false, nat_eq, if◌then◌else◌, List, [], ◌∷◌, ◌++◌, map, length, take, drop, slice_index_or, Option, None, Some}
use Rattle.nxf_tree.specs.declared.tree.Signature.{Signature}
use Rattle.nxf_tree.specs.declared.tree.SortEntry.{SortEntry}
use Rattle.nxf_tree.specs.Signature.{constant_regime, takes_world, existence_sorts}
use Rattle.nxf_tree.specs.Rows.{Shape, size_at, AreSizes}
use Rattle.nxf_tree.specs.Structures.{KripkeStructure, relation_shapes, existence_shapes, symbol_shapes}
use Rattle.fin_struct.specs.Cells.{with_row, OthersStay, CellTable, cell, table_at}
use Rattle.fin_struct.specs.RowLists.{true_rows, listed, shape_of, shapes_of, blanks, AreFilled}
use Rattle.fin_struct.specs.Limits.{IsWithin, cells_in}

-- the tables of the relations come first, then those of existence, then those of the symbols
pub record KripkeTables : Type 0 where
  pub worlds : ℕ
  pub actual : ℕ
  -- for each sort the number of its elements
  pub sizes : List ℕ
  -- how many relations there are
  pub indexes : ℕ
  -- for each sort the number of its table of existence, and none where the sort is constant
  pub existence : List (Option ℕ)
  -- the number of the first symbol's table
  pub first_symbol : ℕ
  -- for each symbol whether its rows have a world in front
  pub world_first : List Bool
  pub tables : List CellTable

-- the table of the relation with the number
abbrev pub relation_table : KripkeTables → ℕ → CellTable
relation_table view index = table_at view.tables index

-- whether the second world is reached from the first
abbrev pub related_in : KripkeTables → ℕ → ℕ → ℕ → Bool
related_in view index from to = nat_eq (cell (relation_table view index) (from ∷ to ∷ [])) 1

-- the number of a sort's table of existence, where it has one
abbrev pub existence_number : KripkeTables → ℕ → Option ℕ
existence_number view sort = slice_index_or view.existence sort None

-- the same number, and 0 where there is none
abbrev pub place_or_zero : Option ℕ → ℕ
place_or_zero None = 0
place_or_zero (Some t) = t

abbrev pub existence_place : KripkeTables → ℕ → ℕ
existence_place view sort = place_or_zero (existence_number view sort)

-- whether a pair stands in the table with the number; with no table each does
abbrev pub stands_in : List CellTable → Option ℕ → List ℕ → Bool
stands_in tables None row = true
stands_in tables (Some t) row = nat_eq (cell (table_at tables t) row) 1

-- whether the element of the sort exists at the world; in a constant sort each does
abbrev pub exists_in : KripkeTables → ℕ → ℕ → ℕ → Bool
exists_in view sort world element = stands_in view.tables (existence_number view sort) (world ∷ element ∷ [])

-- the number of a symbol's table, and the table
abbrev pub symbol_number : KripkeTables → ℕ → ℕ
symbol_number view symbol = view.first_symbol + symbol

abbrev pub symbol_table : KripkeTables → ℕ → CellTable
symbol_table view symbol = table_at view.tables (symbol_number view symbol)

-- whether the symbol's rows have a world in front
abbrev pub takes_world_in : KripkeTables → ℕ → Bool
takes_world_in view symbol = slice_index_or view.world_first symbol false

-- the symbol's row for these arguments at the world
abbrev pub symbol_row : KripkeTables → ℕ → ℕ → List ℕ → List ℕ
symbol_row view symbol world args = if takes_world_in view symbol then world ∷ args else args

-- the value of a function at the world for these arguments
abbrev pub value_in : KripkeTables → ℕ → ℕ → List ℕ → ℕ
value_in view symbol world args = cell (symbol_table view symbol) (symbol_row view symbol world args)

-- whether a predicate holds at the world of these arguments
abbrev pub predicate_in : KripkeTables → ℕ → ℕ → List ℕ → Bool
predicate_in view symbol world args = nat_eq (cell (symbol_table view symbol) (world ∷ args)) 1

-- the shape of a table of pairs
abbrev pub pairs_shape : ℕ → ℕ → Shape
pairs_shape first second = record { sizes = first ∷ second ∷ []; values = None }

-- the numbers of tables go up by one from `from`, and end before `to`
abbrev pub AreNumbered : ℕ → ℕ → List (Option ℕ) → Type 0
AreNumbered from to [] = from ≡ to
AreNumbered from to (None ∷ numbers) = AreNumbered from to numbers
AreNumbered from to (Some t ∷ numbers) = (t ≡ from) × AreNumbered (suc from) to numbers

-- the structure is within the limits, each table stands in its place and has its cells, and the tables of pairs have their shapes
pub record IsKripke (view : KripkeTables) : Type 0 where
  pub actual_in : view.actual < view.worlds
  pub within : IsWithin view.worlds (cells_in (shapes_of view.tables))
  pub filled : AreFilled view.tables
  pub relations : (i : ℕ) → i < view.indexes → shape_of (relation_table view i) ≡ pairs_shape view.worlds view.worlds
  pub numbered : AreNumbered view.indexes view.first_symbol view.existence
  pub existing : (s t : ℕ) → existence_number view s ≡ Some t → shape_of (table_at view.tables t) ≡ pairs_shape view.worlds (size_at view.sizes s)
  pub symbols : view.first_symbol + length view.world_first ≡ length view.tables

-- for each sort the number of its table of existence, from `from` on
abbrev pub numbers_from : ℕ → List SortEntry → List (Option ℕ)
numbers_from from [] = []
numbers_from from (entry ∷ entries) =
    if constant_regime entry.regime then None ∷ numbers_from from entries
    else Some from ∷ numbers_from (suc from) entries

-- the shapes of the tables: relations, existence, symbols
abbrev pub kripke_shapes : Signature → ℕ → List ℕ → List Shape
kripke_shapes sig worlds sizes =
    relation_shapes worlds sig.indexes ++ (existence_shapes worlds sizes 0 sig.sorts ++ symbol_shapes worlds sizes sig.symbols)

-- elements in each sort, and the tables that the signature names
pub record IsKripkeFor (sig : Signature) (view : KripkeTables) : Type 0 where
  pub sorts : AreSizes sig.sorts view.sizes
  pub indexes : view.indexes ≡ length sig.indexes
  pub existence : view.existence ≡ numbers_from (length sig.indexes) sig.sorts
  pub world_first : view.world_first ≡ map takes_world sig.symbols
  pub shapes : shapes_of view.tables ≡ kripke_shapes sig view.worlds view.sizes

-- a structure for the signature with these tables
abbrev pub with_tables : Signature → ℕ → ℕ → List ℕ → List CellTable → KripkeTables
with_tables sig worlds actual sizes tables = record {
  worlds = worlds;
  actual = actual;
  sizes = sizes;
  indexes = length sig.indexes;
  existence = numbers_from (length sig.indexes) sig.sorts;
  first_symbol = length sig.indexes + length (existence_sorts sig.sorts);
  world_first = map takes_world sig.symbols;
  tables = tables;
}

-- a structure for the signature with these sizes: no pair, nobody exists in a sort that isn't constant, each function gives element 0, no row is true
abbrev pub blank_kripke : Signature → ℕ → List ℕ → KripkeTables
blank_kripke sig worlds sizes = with_tables sig worlds 0 sizes (blanks (kripke_shapes sig worlds sizes))

-- all sizes but the first
abbrev pub others_of : List ℕ → List ℕ
others_of [] = []
others_of (size ∷ sizes) = sizes

-- the pairs of the tables with these numbers
abbrev pub existing_rows : List CellTable → List (Option ℕ) → List (List (List ℕ))
existing_rows tables [] = []
existing_rows tables (None ∷ numbers) = existing_rows tables numbers
existing_rows tables (Some t ∷ numbers) = true_rows (table_at tables t) ∷ existing_rows tables numbers

-- the structure of the definitions: each table as its list of rows
abbrev pub kripke_structure : KripkeTables → KripkeStructure
kripke_structure view = record {
  worlds = view.worlds;
  actual = view.actual;
  relations = map true_rows (take view.indexes view.tables);
  sizes = view.sizes;
  existing = existing_rows view.tables view.existence;
  symbols = map listed (drop view.first_symbol view.tables);
}

-- the structure with one cell of a table changed
abbrev pub with_written : KripkeTables → ℕ → List ℕ → ℕ → KripkeTables
with_written view t row value = record view { tables = with_row view.tables t row value }

-- the same of the row of a function for these arguments at the world
abbrev pub with_value : KripkeTables → ℕ → ℕ → List ℕ → ℕ → KripkeTables
with_value view symbol world args element = with_written view (symbol_number view symbol) (symbol_row view symbol world args) element

-- each cell but that of this row of this table is as before
abbrev pub WrittenAlone : KripkeTables → KripkeTables → ℕ → List ℕ → Type 0
WrittenAlone old new table row = OthersStay old.tables new.tables table row
