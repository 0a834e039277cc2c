-- A finite classical structure, as contracts see it, and the structure of the definitions that it is.
use Rattle.std.specs.Prelude.{◌≡◌, ℕ, ◌<◌, List, map}
use Rattle.nxf_tree.specs.declared.tree.ClassicalSignature.{ClassicalSignature}
use Rattle.nxf_tree.specs.Rows.{size_at, AreSizes}
use Rattle.nxf_tree.specs.Structures.{ClassicalStructure, IsOverClassical, table_shapes}
use Rattle.fin_struct.specs.Cells.{CellTable}
use Rattle.fin_struct.specs.RowLists.{listed, AreFilled, shapes_of, blanks}
use Rattle.fin_struct.specs.Limits.{IsWithin, cells_in}

-- the value of `mk_actual`, the size of each sort, `mk_world` first, and the tables
pub record StructureTables : Type 0 where
  pub actual : ℕ
  pub sizes : List ℕ
  pub tables : List CellTable

-- the structure of the definitions: each table as its list of rows
abbrev pub classical_structure : StructureTables → ClassicalStructure
classical_structure view = record { actual = view.actual; sizes = view.sizes; tables = map listed view.tables }

-- the structure is within the limits, and each table has its cells
pub record IsStructure (view : StructureTables) : Type 0 where
  pub actual_in : view.actual < size_at view.sizes 0
  pub within : IsWithin (size_at view.sizes 0) (cells_in (shapes_of view.tables))
  pub filled : AreFilled view.tables

-- elements in each sort, and the tables that the classical signature names
pub record IsFor (csig : ClassicalSignature) (view : StructureTables) : Type 0 where
  pub sorts : AreSizes csig.sorts view.sizes
  pub shapes : shapes_of view.tables ≡ table_shapes view.sizes csig.tables

-- all cells 0, actual world 0
abbrev pub blank_structure : ClassicalSignature → List ℕ → StructureTables
blank_structure csig sizes = record { actual = 0; sizes = sizes; tables = blanks (table_shapes sizes csig.tables) }

-- a structure for a classical signature is over it, as the definitions have it
abbrev pub StructureLaw : Type 0
StructureLaw = (csig : ClassicalSignature) (view : StructureTables) → IsStructure view → IsFor csig view → IsOverClassical csig (classical_structure view)

-- structures for one classical signature with equal lists of rows are equal
abbrev pub StructuresDetermine : Type 0
StructuresDetermine =
    (csig : ClassicalSignature) (view other : StructureTables) → IsStructure view → IsStructure other → IsFor csig view → IsFor csig other
    → classical_structure view ≡ classical_structure other → view ≡ other
