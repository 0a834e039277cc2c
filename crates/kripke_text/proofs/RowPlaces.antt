-- Rows and their places.
use Rattle.std.proofs.Common.{◌≡◌, ℕ, zero, suc, ◌+◌, ◌<◌, ◌≤◌, List, [], ◌∷◌, length, drop, get_or, refl, sym, ap, subst, ◌∙◌, arith}
use Rattle.std.proofs.lemmas.List.{drop_more, length-drop}
use Rattle.nxf_tree.specs.Rows.{all_rows}
use Rattle.fin_struct.specs.Places.{rows_count, InRange, place}
use Rattle.fin_struct.specs.Cells.{CellTable, table_at}
use Rattle.fin_struct.specs.Limits.{cells_in}
use Rattle.fin_struct.specs.RowLists.{shapes_of}
use Rattle.fin_struct.proofs.CallerLemmas.{row_at, row_at-in_range, place-row_at, length-all_rows, all_rows-at}

-- a table has no more rows than there are cells
pub rows_few : (tables : List CellTable) (t : ℕ) → t < length tables → rows_count (table_at tables t).sizes ≤ cells_in (shapes_of tables)
rows_few [] t h = absurd (omega arith)
rows_few (table ∷ tables) zero h = omega arith
rows_few (table ∷ tables) (suc t) h = omega (arith, rows_few tables t (omega arith))

-- the rows of pairs
pub pair_parts : (m n : ℕ) (sizes row : List ℕ) → sizes ≡ m ∷ n ∷ [] → InRange sizes row → (length row ≡ 2) × (get_or row 0 0 < m) × (get_or row 1 0 < n) × (row ≡ get_or row 0 0 ∷ get_or row 1 0 ∷ [])
pair_parts m n sizes row e h = pair_of m n row (rw e at h)
  where
    pair_of : (m n : ℕ) (row : List ℕ) → InRange (m ∷ n ∷ []) row → (length row ≡ 2) × (get_or row 0 0 < m) × (get_or row 1 0 < n) × (row ≡ get_or row 0 0 ∷ get_or row 1 0 ∷ [])
    pair_of m n [] h = absurd h
    pair_of m n (x ∷ []) h = absurd h.1
    pair_of m n (x ∷ y ∷ []) h = (refl, h.0, h.1.0, refl)
    pair_of m n (x ∷ y ∷ z ∷ row) h = absurd h.1.1

-- ---- the rows from a place on

pub row_at_place : (sizes : List ℕ) (k : ℕ) (row : List ℕ) → k < length (all_rows sizes) → get_or (all_rows sizes) k [] ≡ row → InRange sizes row × (place sizes row ≡ k)
row_at_place sizes k row h e =
    let in_count : k < rows_count sizes = omega (arith, length-all_rows sizes) in
    let at = place-row_at sizes k in_count in
    let range = row_at-in_range sizes k in_count in
    let is : get_or (all_rows sizes) k [] ≡ row_at sizes k = ap (λ (i : ℕ). get_or (all_rows sizes) i []) (sym at) ∙ all_rows-at sizes (row_at sizes k) range in
    let same : row_at sizes k ≡ row = sym is ∙ e in
    (subst (InRange sizes) same range, ap (place sizes) (sym same) ∙ at)

some_left : (all rows : List (List ℕ)) (at : ℕ) (row : List ℕ) → rows ≡ drop at all → rows ≡ row ∷ drop 1 rows → at < length all
some_left all rows at row e f = omega (arith, ap length e, ap length f, length-drop at all)

heads_same : (r s : List ℕ) (rs ss : List (List ℕ)) → r ∷ rs ≡ s ∷ ss → (r ≡ s) × (rs ≡ ss)
heads_same r s rs ss e = ((cc), (cc))

-- the first of the rows that are still to come stands at this place
pub record NextRow (sizes : List ℕ) (at : ℕ) (rows : List (List ℕ)) (row : List ℕ) : Type 0 where
  pub below : at < length (all_rows sizes)
  pub is_row : get_or (all_rows sizes) at [] ≡ row
  pub rest : drop 1 rows ≡ drop (at + 1) (all_rows sizes)
  pub place_is : place sizes row ≡ at
  pub in_range : InRange sizes row

pub next_row : (sizes : List ℕ) (rows : List (List ℕ)) (at : ℕ) (row : List ℕ) → rows ≡ drop at (all_rows sizes) → rows ≡ row ∷ drop 1 rows → NextRow sizes at rows row
next_row sizes rows at row rows_are first =
    let all = all_rows sizes in
    let below = some_left all rows at row rows_are first in
    let both = heads_same row (get_or all at []) (drop 1 rows) (drop (at + 1) all) (sym first ∙ rows_are ∙ drop_more all at [] below) in
    let there = row_at_place sizes at row below (sym both.0) in
    record { below = below; is_row = sym both.0; rest = both.1; place_is = there.1; in_range = there.0 }

pub all_taken : (all rows : List (List ℕ)) (at : ℕ) → rows ≡ drop at all → rows ≡ [] → length all ≤ at
all_taken all rows at e f = omega (arith, ap length e, ap length f, length-drop at all)
