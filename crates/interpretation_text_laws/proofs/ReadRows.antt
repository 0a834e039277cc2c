-- The rows that an interpretation that is printed gives.
use Rattle.std.proofs.Common.{◌≡◌, ℕ, suc, ◌<◌, ◌≤◌, true, false, cond, List, [], ◌∷◌, ◌++◌, map, length, get_or, None, Some, refl, sym, ap, ◌∙◌, append_assoc, arith}
use Rattle.std.specs.Prelude.{nat_eq, is_some, unwrap_or, ◌&&◌, not}
use Rattle.std.specs.List.{list_any, list_all, AllByRecursion}
use Rattle.std.proofs.Math.Bool.{and-false}
use Rattle.std.proofs.lemmas.Bool.{eq-eqb, eqb-true}
use Rattle.nxf_tree.specs.declared.tree.TableEntry.{TableEntry}
use Rattle.nxf_tree.specs.Names.{same_text}
use Rattle.nxf_tree.specs.Rows.{Shape, all_rows, beside}
use Rattle.nxf_tree.specs.Structures.{table_shape, table_shapes}
use Rattle.name_laws.proofs.Spelling.{same_text-refl, never}
use Rattle.fin_struct.specs.Places.{rows_count, place}
use Rattle.fin_struct.specs.Cells.{CellTable}
use Rattle.fin_struct.specs.RowLists.{shape_of, shapes_of, IsFilled, AreFilled}
use Rattle.fin_struct.proofs.CallerLemmas.{all_rows-at, length-all_rows, place-row_at, row_at, row_at-in_range, filled_tail}
use Rattle.interpretation_definitions.specs.Given.{Given, value_in, row_given}
use Rattle.interpretation_definitions.specs.Interpretation.{rows_given, rows_of, is_incomplete, incomplete_from, value_or_0, table_given, tables_from}
use Rattle.interpretation_text_laws.proofs.Lookups.{texts_apart}

-- ---- rows that differ

abbrev pub RowsApart : List (List ℕ) → Type 0
RowsApart [] = Unit {0}
RowsApart (r ∷ rs) = AllByRecursion (λ q. same_text r q ≡ false) rs × RowsApart rs

apart_by_places : (rs : List (List ℕ)) → ((i j : ℕ) → i < j → j < length rs → get_or rs i [] ≡ get_or rs j [] → ⊥) → RowsApart rs
apart_by_places [] h = tt
apart_by_places (r ∷ rs) h = (others rs (λ j l e. h 0 (suc j) (omega arith) (omega arith) e), apart_by_places rs (λ i j l b e. h (suc i) (suc j) (omega arith) (omega arith) e))
  where
    others : (qs : List (List ℕ)) → ((j : ℕ) → j < length qs → r ≡ get_or qs j [] → ⊥) → AllByRecursion (λ q. same_text r q ≡ false) qs
    others [] g = tt
    others (q ∷ qs) g = (texts_apart r q (λ e. g 0 (omega arith) e), others qs (λ j l e. g (suc j) (omega arith) e))

row_is : (sizes : List ℕ) (k : ℕ) → k < length (all_rows sizes) → get_or (all_rows sizes) k [] ≡ row_at sizes k
row_is sizes k h =
    let below : k < rows_count sizes = omega (arith, length-all_rows sizes) in
    ap (λ n. get_or (all_rows sizes) n []) (sym (place-row_at sizes k below)) ∙ all_rows-at sizes (row_at sizes k) (row_at-in_range sizes k below)

pub rows_apart : (sizes : List ℕ) → RowsApart (all_rows sizes)
rows_apart sizes = apart_by_places (all_rows sizes) (λ i j l b e.
    let many = length-all_rows sizes in
    let same : row_at sizes i ≡ row_at sizes j = sym (row_is sizes i (omega arith)) ∙ e ∙ row_is sizes j b in
    let here = place-row_at sizes i (omega arith) in
    let there = place-row_at sizes j (omega arith) in
    absurd (omega (arith, here, there, ap (place sizes) same)))

-- ---- rows given

-- each row of a table with its value
abbrev pub table_rows : ℕ → List (List ℕ × ℕ) → List Given
table_rows t ps = map (λ (p : List ℕ × ℕ). record { place = t; row = p.0; value = p.1 }) ps

abbrev pub tables_rows : ℕ → List TableEntry → List CellTable → List Given
tables_rows t [] tables = []
tables_rows t (entry ∷ entries) [] = []
tables_rows t (entry ∷ entries) (table ∷ tables) = table_rows t (beside (all_rows table.sizes) table.cells) ++ tables_rows (suc t) entries tables

-- each row is of a symbol before number t
abbrev pub AreBefore : ℕ → List Given → Type 0
AreBefore t = AllByRecursion (λ (g : Given). g.place < t)

pub none_before : (gs more : List Given) (t u : ℕ) (row : List ℕ) → AreBefore t gs → t ≤ u → value_in (gs ++ more) u row ≡ value_in more u row
none_before [] more t u row h l = refl
none_before (g ∷ gs) more t u row h l =
    let other : nat_eq g.place u ≡ false = never (nat_eq g.place u) (λ e. absurd (omega (arith, h.0, eqb-true g.place u e))) in
    (λ i. cond (other i && same_text g.row row) (Some g.value) (value_in (gs ++ more) u row)) ∙ none_before gs more t u row h.1 l

-- the first row of a table, and those behind it
first_value : (t : ℕ) (row : List ℕ) (v : ℕ) (more : List Given) → value_in (row_given t row v ++ more) t row ≡ Some v
first_value t row v more = λ i. cond (eq-eqb t t refl i && same_text-refl row i) (Some v) (value_in more t row)

other_value : (t : ℕ) (row other : List ℕ) (v : ℕ) (more : List Given) → same_text row other ≡ false → value_in (row_given t row v ++ more) t other ≡ value_in more t other
other_value t row other v more h =
    (λ i. cond (nat_eq t t && h i) (Some v) (value_in more t other)) ∙ (λ i. cond (and-false (nat_eq t t) i) (Some v) (value_in more t other))

-- what is given of a table is its cells
cells_given : (t : ℕ) (rows : List (List ℕ)) (cells : List ℕ) (more : List Given) → RowsApart rows → length cells ≡ length rows
    → map (λ row. unwrap_or (value_in (table_rows t (beside rows cells) ++ more) t row) 0) rows ≡ cells
cells_given t [] [] more apart len = refl
cells_given t [] (c ∷ cells) more apart len = absurd (omega arith)
cells_given t (r ∷ rows) [] more apart len = absurd (omega arith)
cells_given t (r ∷ rows) (c ∷ cells) more apart len =
    let rest = table_rows t (beside rows cells) ++ more in
    (λ i. unwrap_or (first_value t r c rest i) 0 ∷ behind rows apart.0 i) ∙ ap (λ cs. c ∷ cs) (cells_given t rows cells more apart.1 (omega arith))
  where
    behind : (qs : List (List ℕ)) → AllByRecursion (λ q. same_text r q ≡ false) qs
        → map (λ row. unwrap_or (value_in (row_given t r c ++ (table_rows t (beside rows cells) ++ more)) t row) 0) qs ≡ map (λ row. unwrap_or (value_in (table_rows t (beside rows cells) ++ more) t row) 0) qs
    behind [] h = refl
    behind (q ∷ qs) h = λ i. unwrap_or (other_value t r q c (table_rows t (beside rows cells) ++ more) h.0 i) 0 ∷ behind qs h.1 i

-- and each row of it is given
all_given : (t : ℕ) (rows : List (List ℕ)) (cells : List ℕ) (more : List Given) → RowsApart rows → length cells ≡ length rows
    → list_all (λ row. is_some (value_in (table_rows t (beside rows cells) ++ more) t row)) rows ≡ true
all_given t [] cells more apart len = refl
all_given t (r ∷ rows) [] more apart len = absurd (omega arith)
all_given t (r ∷ rows) (c ∷ cells) more apart len =
    let rest = table_rows t (beside rows cells) ++ more in
    (λ i. is_some (first_value t r c rest i) && behind rows apart.0 i) ∙ all_given t rows cells more apart.1 (omega arith)
  where
    behind : (qs : List (List ℕ)) → AllByRecursion (λ q. same_text r q ≡ false) qs
        → list_all (λ row. is_some (value_in (row_given t r c ++ (table_rows t (beside rows cells) ++ more)) t row)) qs ≡ list_all (λ row. is_some (value_in (table_rows t (beside rows cells) ++ more) t row)) qs
    behind [] h = refl
    behind (q ∷ qs) h = λ i. is_some (other_value t r q c (table_rows t (beside rows cells) ++ more) h.0 i) && behind qs h.1 i

pub before_more : (t : ℕ) (gs : List Given) (ps : List (List ℕ × ℕ)) → AreBefore t gs → AreBefore (suc t) (gs ++ table_rows t ps)
before_more t [] [] h = tt
before_more t [] (p ∷ ps) h = (omega arith, before_more t [] ps tt)
before_more t (g ∷ gs) ps h = (omega (arith, h.0), before_more t gs ps h.1)

-- ---- the structure

-- where what is given of other tables stands before
module _ (sizes : List ℕ) where
  abbrev same_rows : (entry : TableEntry) (table : CellTable) → shape_of table ≡ table_shape sizes entry → rows_of sizes entry ≡ all_rows table.sizes
  same_rows entry table e = ap (λ (s : Shape). all_rows s.sizes) (sym e)

  table_back : (gs more : List Given) (t : ℕ) (entry : TableEntry) (table : CellTable) → AreBefore t gs → shape_of table ≡ table_shape sizes entry → IsFilled table
      → table_given sizes (rows_given (gs ++ (table_rows t (beside (all_rows table.sizes) table.cells) ++ more))) t entry ≡ table
  table_back gs more t entry table before shape filled =
      let rows = all_rows table.sizes in
      let own = table_rows t (beside rows table.cells) ++ more in
      let cells : map (value_or_0 (rows_given (gs ++ own)) t) (rows_of sizes entry) ≡ table.cells =
      ap (map (value_or_0 (rows_given (gs ++ own)) t)) (same_rows entry table shape)
      ∙ skipped rows
      ∙ cells_given t rows table.cells more (rows_apart table.sizes) (omega (arith, filled.count, length-all_rows table.sizes)) in
      (λ i. record { sizes = (sym shape i).sizes; values = (sym shape i).values; cells = cells i })
    where
      skipped : (rs : List (List ℕ)) → map (λ row. unwrap_or (value_in (gs ++ (table_rows t (beside (all_rows table.sizes) table.cells) ++ more)) t row) 0) rs
          ≡ map (λ row. unwrap_or (value_in (table_rows t (beside (all_rows table.sizes) table.cells) ++ more) t row) 0) rs
      skipped [] = refl
      skipped (r ∷ rs) = λ i. unwrap_or (none_before gs (table_rows t (beside (all_rows table.sizes) table.cells) ++ more) t t r before (omega arith) i) 0 ∷ skipped rs i

  table_whole : (gs more : List Given) (t : ℕ) (entry : TableEntry) (table : CellTable) → AreBefore t gs → shape_of table ≡ table_shape sizes entry → IsFilled table
      → is_incomplete sizes (rows_given (gs ++ (table_rows t (beside (all_rows table.sizes) table.cells) ++ more))) t entry ≡ false
  table_whole gs more t entry table before shape filled =
      let rows = all_rows table.sizes in
      let own = table_rows t (beside rows table.cells) ++ more in
      let all : list_all (λ row. is_some (value_in (gs ++ own) t row)) (rows_of sizes entry) ≡ true =
      ap (list_all (λ row. is_some (value_in (gs ++ own) t row))) (same_rows entry table shape)
      ∙ skipped rows
      ∙ all_given t rows table.cells more (rows_apart table.sizes) (omega (arith, filled.count, length-all_rows table.sizes)) in
      let any = list_any (λ (g : Given). nat_eq g.place t) (gs ++ own) in
      (λ i. any && not (all i)) ∙ and-false any
    where
      skipped : (rs : List (List ℕ)) → list_all (λ row. is_some (value_in (gs ++ (table_rows t (beside (all_rows table.sizes) table.cells) ++ more)) t row)) rs
          ≡ list_all (λ row. is_some (value_in (table_rows t (beside (all_rows table.sizes) table.cells) ++ more) t row)) rs
      skipped [] = refl
      skipped (r ∷ rs) = λ i. is_some (none_before gs (table_rows t (beside (all_rows table.sizes) table.cells) ++ more) t t r before (omega arith) i) && skipped rs i

  pub tables_back : (gs : List Given) (t : ℕ) (entries : List TableEntry) (tables : List CellTable) → AreBefore t gs → shapes_of tables ≡ table_shapes sizes entries → AreFilled tables
      → tables_from t sizes (rows_given (gs ++ tables_rows t entries tables)) entries ≡ tables
  tables_back gs t [] [] before shapes filled = refl
  tables_back gs t [] (table ∷ tables) before shapes filled = absurd cc
  tables_back gs t (entry ∷ entries) [] before shapes filled = absurd cc
  tables_back gs t (entry ∷ entries) (table ∷ tables) before shapes filled =
      let first : shape_of table ≡ table_shape sizes entry = cc in
      let rest : shapes_of tables ≡ table_shapes sizes entries = cc in
      let own = table_rows t (beside (all_rows table.sizes) table.cells) in
      let more = tables_rows (suc t) entries tables in
      let regrouped = sym (append_assoc gs own more) in
      (λ i. table_back gs more t entry table before first (filled 0 (omega arith)) i ∷ tables_from (suc t) sizes (rows_given (regrouped i)) entries)
      ∙ ap (λ ts. table ∷ ts) (tables_back (gs ++ own) (suc t) entries tables (before_more t gs (beside (all_rows table.sizes) table.cells) before) rest (filled_tail table tables filled))

  pub tables_whole : (gs : List Given) (t : ℕ) (entries : List TableEntry) (tables : List CellTable) → AreBefore t gs → shapes_of tables ≡ table_shapes sizes entries → AreFilled tables
      → incomplete_from t sizes (rows_given (gs ++ tables_rows t entries tables)) entries ≡ None
  tables_whole gs t [] tables before shapes filled = refl
  tables_whole gs t (entry ∷ entries) [] before shapes filled = absurd cc
  tables_whole gs t (entry ∷ entries) (table ∷ tables) before shapes filled =
      let first : shape_of table ≡ table_shape sizes entry = cc in
      let rest : shapes_of tables ≡ table_shapes sizes entries = cc in
      let own = table_rows t (beside (all_rows table.sizes) table.cells) in
      let more = tables_rows (suc t) entries tables in
      let given = rows_given (gs ++ (own ++ more)) in
      (λ i. cond (table_whole gs more t entry table before first (filled 0 (omega arith)) i) (Some entry.name) (incomplete_from (suc t) sizes given entries))
      ∙ ap (λ hs. incomplete_from (suc t) sizes (rows_given hs) entries) (sym (append_assoc gs own more))
      ∙ tables_whole (gs ++ own) (suc t) entries tables (before_more t gs (beside (all_rows table.sizes) table.cells) before) rest (filled_tail table tables filled)
