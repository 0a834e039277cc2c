-- Who exists where, by tables and by their lists.
use Rattle.std.proofs.Common.{◌≡◌, ℕ, ◌<◌, nat_eq, List, [], ◌∷◌, length, get_or, Option, None, Some, sym, ◌∙◌, ap}
use Rattle.nxf_tree.specs.Rows.{size_at, has_row}
use Rattle.fin_struct.specs.Cells.{CellTable, cell, table_at}
use Rattle.fin_struct.specs.RowLists.{true_rows, AreFilled}
use Rattle.fin_struct.specs.KripkeTables.{KripkeTables, IsKripke, existence_number}
use Rattle.fin_struct.specs.ExistenceLists.{stands_listed, listed_to_exist}
use Rattle.fin_struct.proofs.RowListsLemmas.{true_row-cell}
use Rattle.fin_struct.proofs.KripkeLemmas.{PairIn, existence_in, existence_read, seen_kripke}

-- an element of a sort that isn't constant exists exactly where the list has the pair
varying-listed : (number : Option ℕ) (tables : List CellTable) (row : List ℕ) (t x : ℕ) → number ≡ Some t → AreFilled tables → PairIn tables t row → x ≡ cell (table_at tables t) row → nat_eq x 1 ≡ stands_listed tables number row
varying-listed None tables row t x e filled p read = absurd cc
varying-listed (Some u) tables row t x e filled p read =
    let same : u ≡ t = cc in
    ap (λ (n : ℕ). nat_eq n 1) read
    ∙ sym (true_row-cell (table_at tables t) row (filled t p.table_in) p.row_in)
    ∙ ap (λ (n : ℕ). has_row row (true_rows (table_at tables n))) (sym same)

pub someone-listed : (view now : KripkeTables) (s t w a c : ℕ) (x : Option ℕ) → IsKripke view → view ≡ now → s < length now.existence → x ≡ get_or view.existence s x → x ≡ Some t → w < now.worlds → a < size_at now.sizes s → c ≡ cell (table_at view.tables t) (w ∷ a ∷ []) → nat_eq c 1 ≡ listed_to_exist now s w a
someone-listed view now s t w a c x k same below read is world element got =
    let kripke = seen_kripke view now k same in
    let number = existence_read view now s t x same below read is in
    varying-listed (existence_number now s) now.tables (w ∷ a ∷ []) t c number kripke.filled (existence_in now s t w a kripke number world element)
    (got ∙ ap (λ (y : KripkeTables). cell (table_at y.tables t) (w ∷ a ∷ [])) same)
