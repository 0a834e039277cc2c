-- What stays where one cell of a Kripke structure is written.
use Rattle.std.specs.Prelude.{◌≡◌, ℕ, ◌<◌, List, [], ◌∷◌, length, Some}
use Rattle.nxf_tree.specs.Rows.{size_at}
use Rattle.fin_struct.specs.Places.{InRange}
use Rattle.fin_struct.specs.Cells.{cell}
use Rattle.fin_struct.specs.KripkeTables.{KripkeTables, IsKripke, related_in, existence_number, exists_in, symbol_number, symbol_table, value_in, predicate_in}
use Rattle.fin_struct.specs.KripkeTables.{with_written}

-- what is read of relations, of existence and of symbols is the same
abbrev pub SameRelated : KripkeTables → KripkeTables → Type 0
SameRelated old new = (i w v : ℕ) → i < old.indexes → related_in new i w v ≡ related_in old i w v

abbrev pub SameExists : KripkeTables → KripkeTables → Type 0
SameExists old new = (s w a : ℕ) → exists_in new s w a ≡ exists_in old s w a

abbrev pub SameSymbols : KripkeTables → KripkeTables → Type 0
SameSymbols old new = (y w : ℕ) (args : List ℕ) → (value_in new y w args ≡ value_in old y w args) × (predicate_in new y w args ≡ predicate_in old y w args)

-- a pair of a relation is written: other pairs, existence and symbols stay
pub record OnePairWritten (old new : KripkeTables) (index from to : ℕ) : Type 0 where
  pub related : (i w v : ℕ) → i < old.indexes → w < old.worlds → v < old.worlds → ¬ ((i ≡ index) × (w ≡ from) × (v ≡ to)) → related_in new i w v ≡ related_in old i w v
  pub exists : SameExists old new
  pub symbols : SameSymbols old new

-- a pair of a world and an element is written: other pairs, relations and symbols stay
pub record OneExistenceWritten (old new : KripkeTables) (sort world element : ℕ) : Type 0 where
  pub related : SameRelated old new
  pub exists : (s w a : ℕ) → w < old.worlds → a < size_at old.sizes s → ¬ ((s ≡ sort) × (w ≡ world) × (a ≡ element)) → exists_in new s w a ≡ exists_in old s w a
  pub symbols : SameSymbols old new

-- a row of a symbol is written: other rows, relations and existence stay
pub record OneRowWritten (old new : KripkeTables) (symbol : ℕ) (row : List ℕ) : Type 0 where
  pub related : SameRelated old new
  pub exists : SameExists old new
  pub rows : (y : ℕ) (r : List ℕ) → InRange (symbol_table old y).sizes r → ¬ ((y ≡ symbol) × (r ≡ row)) → cell (symbol_table new y) r ≡ cell (symbol_table old y) r

abbrev pub PairLaw : Type 0
PairLaw =
    (view : KripkeTables) (index from to value : ℕ) → IsKripke view → index < view.indexes → from < view.worlds → to < view.worlds
    → OnePairWritten view (with_written view index (from ∷ to ∷ []) value) index from to

abbrev pub ExistenceLaw : Type 0
ExistenceLaw =
    (view : KripkeTables) (sort t world element value : ℕ) → IsKripke view → existence_number view sort ≡ Some t → world < view.worlds → element < size_at view.sizes sort
    → OneExistenceWritten view (with_written view t (world ∷ element ∷ []) value) sort world element

abbrev pub RowLaw : Type 0
RowLaw =
    (view : KripkeTables) (symbol : ℕ) (row : List ℕ) (value : ℕ) → IsKripke view → symbol < length view.world_first → InRange (symbol_table view symbol).sizes row
    → OneRowWritten view (with_written view (symbol_number view symbol) row value) symbol row
