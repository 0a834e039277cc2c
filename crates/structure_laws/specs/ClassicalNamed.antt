-- What the printed names stand for in a classical structure.
use Rattle.std.specs.Prelude.{◌≡◌, ℕ, List, nat_eq, slice_get, None, Some}
use Rattle.std.specs.Option.{IsSome}
use Rattle.nxf_tree.specs.declared.tree.ClassicalSignature.{ClassicalSignature}
use Rattle.nxf_tree.specs.declared.tree.TableEntry.{TableEntry}
use Rattle.nxf_tree.specs.declared.tree.SortName.{SortName}
use Rattle.nxf_tree.specs.Names.{actual_name}
use Rattle.nxf_tree.specs.Rows.{size_at}
use Rattle.nxf_tree.specs.Classical.{ClassicalModel}
use Rattle.nxf_tree.specs.Structures.{classical_model}
use Rattle.name_laws.specs.NameLaws.{HasDifferentClassicalNames}
use Rattle.fin_struct.specs.Places.{InRange}
use Rattle.fin_struct.specs.Cells.{cell, table_at}
use Rattle.fin_struct.specs.StructureTables.{StructureTables, IsStructure, IsFor, classical_structure}

-- what a model says of a printed name is what the structure has under its number; `mk_actual` is the actual world
pub record ReadsByPrintedName (csig : ClassicalSignature) (view : StructureTables) (S : ClassicalModel) : Type 0 where
  pub size : (s : ℕ) (name : SortName) → slice_get csig.sorts s ≡ Some name → S.size name ≡ size_at view.sizes s
  pub actual : (args : List ℕ) → S.value actual_name args ≡ view.actual
  pub value : (t : ℕ) (entry : TableEntry) (args : List ℕ) → slice_get csig.tables t ≡ Some entry → IsSome entry.gives → InRange (table_at view.tables t).sizes args → S.value entry.name args ≡ cell (table_at view.tables t) args
  pub holds : (t : ℕ) (entry : TableEntry) (args : List ℕ) → slice_get csig.tables t ≡ Some entry → entry.gives ≡ None → InRange (table_at view.tables t).sizes args → S.holds entry.name args ≡ nat_eq (cell (table_at view.tables t) args) 1

-- in a structure for a classical signature whose names differ
abbrev pub PrintedNamesLaw : Type 0
PrintedNamesLaw =
    (csig : ClassicalSignature) (view : StructureTables) → HasDifferentClassicalNames csig → IsStructure view → IsFor csig view
    → ReadsByPrintedName csig view (classical_model csig (classical_structure view))
