-- What stays where one cell of a Kripke structure is written.
use Rattle.std.proofs.Common.{◌≡◌, ◌≢◌, ℕ, ◌<◌, ◌≤◌, nat_eq, List, [], ◌∷◌, get_or, Option, None, Some, refl, ◌∙◌, ap, arith}
use Rattle.std.proofs.lemmas.List.{get_or-set_other}
use Rattle.fin_struct.specs.Cells.{CellTable, no_table, cell, with_cell, table_at}
use Rattle.fin_struct.specs.KripkeTables.{KripkeTables, stands_in, existence_number, symbol_number, symbol_row}
use Rattle.fin_struct.specs.KripkeTables.{with_written}
use Rattle.structure_laws.specs.KripkeWrites.{SameRelated, SameExists, SameSymbols, PairLaw, ExistenceLaw, RowLaw}
use Rattle.fin_struct.proofs.CallerLemmas.{written_alone, numbers_end, relation_in, existence_in, symbol_in}
use Rattle.structure_laws.proofs.KripkeLists.{own-tables}

-- another table stays
other-table : (view : KripkeTables) (t : ℕ) (row : List ℕ) (value u : ℕ) → u ≢ t → table_at (with_written view t row value).tables u ≡ table_at view.tables u
other-table view t row value u ne = get_or-set_other view.tables t u (with_cell (table_at view.tables t) row value) no_table ne

stands-same : (tables others : List CellTable) (n : Option ℕ) (row : List ℕ) → ((t : ℕ) → n ≡ Some t → cell (table_at others t) row ≡ cell (table_at tables t) row) → stands_in others n row ≡ stands_in tables n row
stands-same tables others None row h = refl
stands-same tables others (Some t) row h = ap (λ (c : ℕ). nat_eq c 1) (h t refl)

same-related : (view : KripkeTables) (t : ℕ) (row : List ℕ) (value : ℕ) → view.indexes ≤ t → SameRelated view (with_written view t row value)
same-related view t row value later i w v h = ap (λ (x : CellTable). nat_eq (cell x (w ∷ v ∷ [])) 1) (other-table view t row value i (omega arith))

same-exists : (view : KripkeTables) (t : ℕ) (row : List ℕ) (value : ℕ) → ((s u : ℕ) → existence_number view s ≡ Some u → u ≢ t) → SameExists view (with_written view t row value)
same-exists view t row value apart s w a =
    stands-same view.tables (with_written view t row value).tables (existence_number view s) (w ∷ a ∷ []) (λ u number. ap (λ (x : CellTable). cell x (w ∷ a ∷ [])) (other-table view t row value u (apart s u number)))

same-symbols : (view : KripkeTables) (t : ℕ) (row : List ℕ) (value : ℕ) → t < view.first_symbol → SameSymbols view (with_written view t row value)
same-symbols view t row value before y w args =
    let same = other-table view t row value (symbol_number view y) (omega arith) in
    (ap (λ (x : CellTable). cell x (symbol_row view y w args)) same, ap (λ (x : CellTable). nat_eq (cell x (w ∷ args)) 1) same)

first-of : (a b c d : ℕ) → a ∷ b ∷ [] ≡ c ∷ d ∷ [] → (a ≡ c) × (b ≡ d)
first-of a b c d e = (ap (λ (xs : List ℕ). get_or xs 0 0) e, ap (λ (xs : List ℕ). get_or xs 1 0) e)

pub pair-law : PairLaw
pair-law view index from to value is h f g =
    let p = relation_in view index from to is h f g in
    let ends = numbers_end view.existence view.indexes view.first_symbol is.numbered in
    record {
      related = λ i w v i_in w_in v_in ne.
          let q = relation_in view i w v is i_in w_in v_in in
          ap (λ (c : ℕ). nat_eq c 1) (written_alone view.tables index (from ∷ to ∷ []) value p.table_in p.row_in i (w ∷ v ∷ []) q.row_in (λ e. let same = first-of w v from to e.1 in ne (e.0, same.0, same.1)));
      exists = same-exists view index (from ∷ to ∷ []) value (λ s u number. let between = (own-tables view is).existing s u number in omega arith);
      symbols = same-symbols view index (from ∷ to ∷ []) value (omega arith);
    }

pub existence-law : ExistenceLaw
existence-law view sort t world element value is number f g =
    let p = existence_in view sort t world element is number f g in
    let own = own-tables view is in
    let between = own.existing sort t number in
    record {
      related = same-related view t (world ∷ element ∷ []) value between.0;
      exists = λ s w a w_in a_in ne.
          stands-same view.tables (with_written view t (world ∷ element ∷ []) value).tables (existence_number view s) (w ∷ a ∷ []) (λ u other.
          let q = existence_in view s u w a is other w_in a_in in
          written_alone view.tables t (world ∷ element ∷ []) value p.table_in p.row_in u (w ∷ a ∷ []) q.row_in (λ e.
          let there : existence_number view s ≡ Some t = other ∙ ap Some e.0 in
          let same = first-of w a world element e.1 in
          ne (own.different s sort t there number, same.0, same.1)));
      symbols = same-symbols view t (world ∷ element ∷ []) value between.1;
    }

pub row-law : RowLaw
row-law view symbol row value is h in_row =
    let below = symbol_in view symbol is h in
    let ends = numbers_end view.existence view.indexes view.first_symbol is.numbered in
    record {
      related = same-related view (symbol_number view symbol) row value (omega arith);
      exists = same-exists view (symbol_number view symbol) row value (λ s u number. let between = (own-tables view is).existing s u number in omega arith);
      rows = λ y r r_in ne. written_alone view.tables (symbol_number view symbol) row value below in_row (symbol_number view y) r r_in (λ e. ne (omega (arith, e.0), e.1));
    }
