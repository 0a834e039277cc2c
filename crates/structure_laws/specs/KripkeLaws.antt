-- Kripke structures as contracts see them, beside those of the definitions.
use Rattle.std.specs.Prelude.{◌≡◌, ℕ, ◌<◌, ◌≤◌, true, false, List, ◌∷◌, length, slice_get, None, Some}
use Rattle.std.specs.Option.{IsSome}
use Rattle.nxf_tree.specs.declared.tree.Signature.{Signature}
use Rattle.nxf_tree.specs.declared.tree.SortEntry.{SortEntry}
use Rattle.nxf_tree.specs.declared.tree.SymbolEntry.{SymbolEntry}
use Rattle.nxf_tree.specs.declared.tree.IndexEntry.{IndexEntry}
use Rattle.nxf_tree.specs.Signature.{constant_regime, takes_world}
use Rattle.nxf_tree.specs.Rows.{size_at}
use Rattle.nxf_tree.specs.Kripke.{KripkeModel}
use Rattle.nxf_tree.specs.Structures.{IsOver, symbol_shape, kripke_model}
use Rattle.nxf_tree.specs.WellFormed.{HasDifferentNames}
use Rattle.fin_struct.specs.Places.{InRange}
use Rattle.fin_struct.specs.RowLists.{shape_of}
use Rattle.fin_struct.specs.KripkeTables.{KripkeTables, IsKripke, IsKripkeFor, related_in, existence_number, exists_in, takes_world_in, symbol_table, symbol_row, value_in, predicate_in, kripke_structure}

-- what stands in the structure under the number of a sort or a symbol is what the signature has there
pub record HasPlaces (sig : Signature) (view : KripkeTables) : Type 0 where
  pub sorts : length view.existence ≡ length sig.sorts
  pub constant : (s : ℕ) (entry : SortEntry) → slice_get sig.sorts s ≡ Some entry → constant_regime entry.regime ≡ true → existence_number view s ≡ None
  pub varying : (s : ℕ) (entry : SortEntry) → slice_get sig.sorts s ≡ Some entry → constant_regime entry.regime ≡ false → IsSome (existence_number view s)
  pub symbols : length view.world_first ≡ length sig.symbols
  pub world_first : (y : ℕ) (entry : SymbolEntry) → slice_get sig.symbols y ≡ Some entry → takes_world_in view y ≡ takes_world entry
  pub shapes : (y : ℕ) (entry : SymbolEntry) → slice_get sig.symbols y ≡ Some entry → shape_of (symbol_table view y) ≡ symbol_shape view.worlds view.sizes entry

-- in a structure for a signature
abbrev pub PlacesLaw : Type 0
PlacesLaw = (sig : Signature) (view : KripkeTables) → IsKripke view → IsKripkeFor sig view → HasPlaces sig view

-- what a model says of a name of the signature is what the structure has under its number
pub record ReadsByName (sig : Signature) (view : KripkeTables) (K : KripkeModel) : Type 0 where
  pub size : (s : ℕ) (entry : SortEntry) → slice_get sig.sorts s ≡ Some entry → K.size entry.name ≡ size_at view.sizes s
  pub related : (i : ℕ) (entry : IndexEntry) (w v : ℕ) → slice_get sig.indexes i ≡ Some entry → w < view.worlds → v < view.worlds → K.related entry.name w v ≡ related_in view i w v
  pub present : (s : ℕ) (entry : SortEntry) (w a : ℕ) → slice_get sig.sorts s ≡ Some entry → w < view.worlds → a < size_at view.sizes s → K.present entry.name w a ≡ exists_in view s w a
  pub value : (y : ℕ) (entry : SymbolEntry) (w : ℕ) (args : List ℕ) → slice_get sig.symbols y ≡ Some entry → IsSome entry.gives → InRange (symbol_table view y).sizes (symbol_row view y w args) → K.value entry.name w args ≡ value_in view y w args
  pub holds : (y : ℕ) (entry : SymbolEntry) (w : ℕ) (args : List ℕ) → slice_get sig.symbols y ≡ Some entry → entry.gives ≡ None → InRange (symbol_table view y).sizes (w ∷ args) → K.holds entry.name w args ≡ predicate_in view y w args

-- in a structure for a signature whose names differ
abbrev pub NamesLaw : Type 0
NamesLaw =
    (sig : Signature) (view : KripkeTables) → HasDifferentNames sig → IsKripke view → IsKripkeFor sig view
    → ReadsByName sig view (kripke_model sig (kripke_structure view))

-- a Kripke structure for a signature is over it, as the definitions have it
abbrev pub KripkeLaw : Type 0
KripkeLaw = (sig : Signature) (view : KripkeTables) → IsKripke view → IsKripkeFor sig view → IsOver sig (kripke_structure view)

-- Kripke structures for one signature with equal lists of rows are equal
abbrev pub KripkesDetermine : Type 0
KripkesDetermine =
    (sig : Signature) (view other : KripkeTables) → IsKripke view → IsKripke other → IsKripkeFor sig view → IsKripkeFor sig other
    → kripke_structure view ≡ kripke_structure other → view ≡ other

-- the numbers of tables are different for different relations, sorts and symbols
pub record HasOwnTables (view : KripkeTables) : Type 0 where
  pub existing : (s t : ℕ) → existence_number view s ≡ Some t → (view.indexes ≤ t) × (t < view.first_symbol)
  pub different : (s r t : ℕ) → existence_number view s ≡ Some t → existence_number view r ≡ Some t → s ≡ r

abbrev pub OwnTablesLaw : Type 0
OwnTablesLaw = (view : KripkeTables) → IsKripke view → HasOwnTables view
