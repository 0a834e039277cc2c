-- The structure whose tables are all filled is the one that the rows give.
use Rattle.std.proofs.Common.{◌≡◌, ◌≢◌, ◌<◌, ◌⊎◌, inl, inr, ℕ, zero, suc, ◌+◌, Bool, true, false, List, [], ◌∷◌, map, length, replicate, get_or, eqb, nat_lt, Option, refl, ap, ap₂, ◌∙◌, sym, subst, arith}
use Rattle.std.specs.Prelude.{not, if◌then◌else◌}
use Rattle.std.specs.Option.{option_map}
use Rattle.std.proofs.lemmas.Bool.{le-ltb, lt-ltb, ltb-false, ltb-true}
use Rattle.std.proofs.lemmas.Bool.Decides.{eqb_tells}
use Rattle.std.proofs.lemmas.List.{ext_get_or, get_or-map, length-map}
use Rattle.nxf_tree.specs.declared.tree.TableEntry.{TableEntry}
use Rattle.nxf_tree.specs.declared.tree.ClassicalSignature.{ClassicalSignature}
use Rattle.nxf_tree.specs.Rows.{AreSizes, Shape, all_rows, size_at}
use Rattle.nxf_tree.specs.Structures.{table_shape, table_shapes}
use Rattle.fin_struct.specs.Cells.{CellTable, bound_of, cell, no_table, table_at}
use Rattle.fin_struct.specs.Places.{InRange, place, rows_count}
use Rattle.fin_struct.specs.RowLists.{AreFilled, IsFilled, blanks, shape_of, shapes_of}
use Rattle.fin_struct.specs.StructureTables.{StructureTables, IsFor, blank_structure}
use Rattle.fin_struct.proofs.CallerLemmas.{place_below, all_rows-at, length-all_rows, place-row_at, row_at, row_at-in_range, filled_tail, shapes_blank}
use Rattle.interpretation_definitions.specs.Interpretation.{GivenRows, is_incomplete, structure_given, table_given, tables_from, value_or_0}
use Rattle.interp_reader.specs.steps.Filling.{filled_below, is_half_given, rows_at, rows_in, AreBelow, FitsTable, IsBlankAt, IsFilledBelow, IsFilledTo, row_value_or_0}
use Rattle.interp_reader.proofs.TableWalks.{same_sizes, same_count, shape_at}

-- the shape of table t is that of its entry
pub entry_shape : (tables : List CellTable) (sizes : List ℕ) (entries : List TableEntry) (t : ℕ) (d : TableEntry) → shapes_of tables ≡ table_shapes sizes entries → t < length entries
    → shape_of (table_at tables t) ≡ table_shape sizes (get_or entries t d)
entry_shape tables sizes entries t d h lt =
    sym (shape_at tables t) ∙ ap (λ ss. get_or ss t (shape_of no_table)) h ∙ get_or-map (table_shape sizes) entries t d (shape_of no_table) lt

pub entry_sizes : (tables : List CellTable) (sizes : List ℕ) (entries : List TableEntry) (t : ℕ) (d : TableEntry) → shapes_of tables ≡ table_shapes sizes entries → t < length entries
    → (table_at tables t).sizes ≡ map (size_at sizes) (get_or entries t d).args
entry_sizes tables sizes entries t d h lt = ap (λ (s : Shape). s.sizes) (entry_shape tables sizes entries t d h lt)

pub entry_values : (tables : List CellTable) (sizes : List ℕ) (entries : List TableEntry) (t : ℕ) (d : TableEntry) → shapes_of tables ≡ table_shapes sizes entries → t < length entries
    → (table_at tables t).values ≡ option_map (size_at sizes) (get_or entries t d).gives
entry_values tables sizes entries t d h lt = ap (λ (s : Shape). s.values) (entry_shape tables sizes entries t d h lt)

pub entry_count : (tables : List CellTable) (sizes : List ℕ) (entries : List TableEntry) → shapes_of tables ≡ table_shapes sizes entries → length tables ≡ length entries
entry_count tables sizes entries h = sym (length-map tables shape_of) ∙ ap length h ∙ length-map entries (table_shape sizes)

below_more : (t n : ℕ) → t ≢ n → nat_lt t n ≡ nat_lt t (n + 1)
below_more t n other = by (nat_lt t n) refl
  where
    by : (b : Bool) → nat_lt t n ≡ b → nat_lt t n ≡ nat_lt t (n + 1)
    by true h = h ∙ sym (lt-ltb t (n + 1) (omega (arith, ltb-true t n h)))
    by false h = h ∙ sym (le-ltb t (n + 1) (omega (arith, ltb-false t n h, other)))

-- one table more
pub filled_next : (csig : ClassicalSignature) (sizes : List ℕ) (entries : List (List ℕ × ℕ)) (n : ℕ) (S new : StructureTables) → IsFilledBelow csig sizes entries n S
    → IsFilledTo entries n (rows_count (table_at S.tables n).sizes) S new → IsFilledBelow csig sizes entries (n + 1) new
filled_next csig sizes entries n S new before to = record {
  sizes_are = to.sizes_stay ∙ before.sizes_are;
  actual_is = to.actual_stays ∙ before.actual_is;
  shapes = to.shapes_stay ∙ before.shapes;
  whole = to.whole_stays before.whole;
  cells = λ t row lt in_range. by t row (omega (arith, lt, same_count new.tables S.tables to.shapes_stay)) (subst (λ s. InRange s row) (same_sizes new.tables S.tables t to.shapes_stay) in_range) (eqb_tells t n);
}
  where
    at_n : (row : List ℕ) → InRange (table_at S.tables n).sizes row → cell (table_at new.tables n) row ≡ filled_below (n + 1) entries n row
    at_n row in_range =
        to.filled row in_range (place_below (table_at S.tables n).sizes row in_range)
        ∙ ap (λ b. if b then row_value_or_0 entries (n + 1) row else 0) (sym (lt-ltb n (n + 1) (omega arith)))

    by : (t : ℕ) (row : List ℕ) → t < length S.tables → InRange (table_at S.tables t).sizes row → ((eqb t n ≡ true) × (t ≡ n)) ⊎ ((eqb t n ≡ false) × (t ≢ n)) → cell (table_at new.tables t) row ≡ filled_below (n + 1) entries t row
    by t row lt in_range (inl h) =
        subst (λ k. InRange (table_at S.tables k).sizes row → cell (table_at new.tables k) row ≡ filled_below (n + 1) entries k row) (sym h.1) (at_n row) in_range
    by t row lt in_range (inr h) = to.others t row h.1 in_range ∙ before.cells t row lt in_range ∙ ap (λ b. if b then row_value_or_0 entries (t + 1) row else 0) (below_more t n h.1)

-- a table whose cells are the values of the rows
table_is : (sizes : List ℕ) (given : GivenRows) (k : ℕ) (x : CellTable) (entry : TableEntry) → shape_of x ≡ table_shape sizes entry → IsFilled x
    → ((row : List ℕ) → InRange x.sizes row → cell x row ≡ value_or_0 given k row) → x ≡ table_given sizes given k entry
table_is sizes given k x entry shape whole cells =
    ap (λ (c : List ℕ). record { sizes = x.sizes; values = x.values; cells = c }) all_cells ∙ ap with_rows shape
  where
    value : List ℕ → ℕ
    value = value_or_0 given k

    with_rows : Shape → CellTable
    with_rows s = record { sizes = s.sizes; values = s.values; cells = map value (all_rows s.sizes) }

    count : length x.cells ≡ length (map value (all_rows x.sizes))
    count = whole.count ∙ sym (length-all_rows x.sizes) ∙ sym (length-map (all_rows x.sizes) value)

    at_place : (i : ℕ) → i < rows_count x.sizes → get_or x.cells i 0 ≡ get_or (map value (all_rows x.sizes)) i 0
    at_place i lt =
        let row = row_at x.sizes i in
        let in_range = row_at-in_range x.sizes i lt in
        let there : get_or (all_rows x.sizes) i [] ≡ row = ap (λ j. get_or (all_rows x.sizes) j []) (sym (place-row_at x.sizes i lt)) ∙ all_rows-at x.sizes row in_range in
        ap (λ j. get_or x.cells j 0) (sym (place-row_at x.sizes i lt)) ∙ cells row in_range ∙ ap value (sym there)
        ∙ sym (get_or-map value (all_rows x.sizes) i [] 0 (omega (arith, lt, length-all_rows x.sizes)))

    all_cells : x.cells ≡ map value (all_rows x.sizes)
    all_cells = ext_get_or 0 x.cells (map value (all_rows x.sizes)) count (λ i lt. at_place i (omega (arith, lt, whole.count)))

abbrev first_shape : Shape → List Shape → Shape
first_shape d [] = d
first_shape d (s ∷ ss) = s

abbrev rest_shapes : List Shape → List Shape
rest_shapes [] = []
rest_shapes (s ∷ ss) = ss

tables_are : (sizes : List ℕ) (given : GivenRows) (k : ℕ) (tables : List CellTable) (entries : List TableEntry) → shapes_of tables ≡ table_shapes sizes entries → AreFilled tables
    → ((t : ℕ) (row : List ℕ) → t < length tables → InRange (table_at tables t).sizes row → cell (table_at tables t) row ≡ value_or_0 given (t + k) row)
    → tables ≡ tables_from k sizes given entries
tables_are sizes given k [] [] shapes whole cells = refl
tables_are sizes given k [] (entry ∷ entries) shapes whole cells = absurd (omega (arith, ap length shapes))
tables_are sizes given k (x ∷ tables) [] shapes whole cells = absurd (omega (arith, ap length shapes))
tables_are sizes given k (x ∷ tables) (entry ∷ entries) shapes whole cells =
    ap₂ ◌∷◌
    (table_is sizes given k x entry (ap (first_shape (shape_of x)) shapes) (whole 0 (omega arith)) (λ row in_range. cells 0 row (omega arith) in_range ∙ ap (λ n. value_or_0 given n row) (omega arith)))
    (tables_are sizes given (suc k) tables entries (ap rest_shapes shapes) (filled_tail x tables whole)
    (λ t row lt in_range. cells (suc t) row (omega (arith, lt)) in_range ∙ ap (λ n. value_or_0 given n row) (omega arith)))

-- all tables are filled
pub filled_is : (csig : ClassicalSignature) (sizes : List ℕ) (entries : List (List ℕ × ℕ)) (n : ℕ) (S : StructureTables) → n ≡ length csig.tables → IsFilledBelow csig sizes entries n S
    → S ≡ structure_given sizes (rows_in entries) csig.tables
filled_is csig sizes entries n S all before =
    ap (λ (a : ℕ). record { actual = a; sizes = S.sizes; tables = S.tables }) before.actual_is
    ∙ ap (λ (ss : List ℕ). record { actual = row_value_or_0 entries 0 []; sizes = ss; tables = S.tables }) before.sizes_are
    ∙ ap (λ (ts : List CellTable). record { actual = row_value_or_0 entries 0 []; sizes = sizes; tables = ts }) tables
  where
    tables : S.tables ≡ tables_from 1 sizes (rows_in entries) csig.tables
    tables = tables_are sizes (rows_in entries) 1 S.tables csig.tables before.shapes before.whole
        (λ t row lt in_range. before.cells t row lt in_range
        ∙ ap (λ b. if b then row_value_or_0 entries (t + 1) row else 0) (lt-ltb t n (omega (arith, lt, all, entry_count S.tables sizes csig.tables before.shapes))))

zero_there : (n k : ℕ) → ◌≡◌ {A = ℕ} (get_or (replicate n 0) k 0) 0
zero_there zero k = refl
zero_there (suc n) zero = refl
zero_there (suc n) (suc k) = zero_there n k

blank_cell : (shapes : List Shape) (t : ℕ) (row : List ℕ) → cell (table_at (blanks shapes) t) row ≡ 0
blank_cell [] t row = refl
blank_cell (s ∷ shapes) zero row = zero_there (rows_count s.sizes) (place s.sizes row)
blank_cell (s ∷ shapes) (suc t) row = blank_cell shapes t row

-- a blank structure with its actual world
pub filled_first : (csig : ClassicalSignature) (sizes : List ℕ) (entries : List (List ℕ × ℕ)) (made new : StructureTables) → made ≡ blank_structure csig sizes → AreFilled made.tables
    → new ≡ record made { actual = row_value_or_0 entries 0 [] } → IsFilledBelow csig sizes entries 0 new
filled_first csig sizes entries made new blank whole set = record {
  sizes_are = ap (λ (s : StructureTables). s.sizes) set ∙ ap (λ (s : StructureTables). s.sizes) blank;
  actual_is = ap (λ (s : StructureTables). s.actual) set;
  shapes = ap shapes_of tables ∙ shapes_blank (table_shapes sizes csig.tables);
  whole = subst AreFilled (sym (ap (λ (s : StructureTables). s.tables) set)) whole;
  cells = λ t row lt in_range. ap (λ ts. cell (table_at ts t) row) tables ∙ blank_cell (table_shapes sizes csig.tables) t row
      ∙ ap (λ b. if b then row_value_or_0 entries (t + 1) row else 0) (sym (le-ltb t 0 (omega arith)));
}
  where
    tables : new.tables ≡ blanks (table_shapes sizes csig.tables)
    tables = ap (λ (s : StructureTables). s.tables) set ∙ ap (λ (s : StructureTables). s.tables) blank

-- a table that isn't filled yet is blank, and the rows of the map fit it
pub blank_at : (csig : ClassicalSignature) (sizes : List ℕ) (entries : List (List ℕ × ℕ)) (n : ℕ) (S : StructureTables) → IsFilledBelow csig sizes entries n S → n < length csig.tables → IsBlankAt S n
blank_at csig sizes entries n S before lt row in_range =
    before.cells n row (omega (arith, lt, entry_count S.tables sizes csig.tables before.shapes)) in_range
    ∙ ap (λ b. if b then row_value_or_0 entries (n + 1) row else 0) (le-ltb n n (omega arith))

pub fits_at : (csig : ClassicalSignature) (sizes : List ℕ) (entries : List (List ℕ × ℕ)) (n : ℕ) (S : StructureTables) (d : TableEntry) → AreBelow csig sizes entries → IsFilledBelow csig sizes entries n S → n < length csig.tables → FitsTable entries S n
fits_at csig sizes entries n S d below before lt row value is =
    subst (λ (o : Option ℕ). value < bound_of o) (sym (entry_values S.tables sizes csig.tables n d before.shapes lt)) (below.values n d row value lt is)

-- whether a symbol is incomplete, by the rows of its table
pub half_is : (csig : ClassicalSignature) (sizes : List ℕ) (entries : List (List ℕ × ℕ)) (n : ℕ) (S : StructureTables) (d : TableEntry) → IsFilledBelow csig sizes entries n S → n < length csig.tables
    → is_incomplete sizes (rows_in entries) (n + 1) (get_or csig.tables n d) ≡ is_half_given entries (n + 1) (rows_at S n)
half_is csig sizes entries n S d before lt =
    ap (λ ss. is_half_given entries (n + 1) (all_rows ss)) (sym (entry_sizes S.tables sizes csig.tables n d before.shapes lt))

pub half_false : (half complete : Bool) → complete ≡ not half → complete ≡ true → half ≡ false
half_false false complete h is = refl
half_false true complete h is = cc

pub half_true : (half complete : Bool) → complete ≡ not half → complete ≡ false → half ≡ true
half_true true complete h is = refl
half_true false complete h is = cc

-- the structure that rows give has what the signature names
given_shapes : (sizes : List ℕ) (given : GivenRows) (k : ℕ) (entries : List TableEntry) → shapes_of (tables_from k sizes given entries) ≡ table_shapes sizes entries
given_shapes sizes given k [] = refl
given_shapes sizes given k (entry ∷ entries) = ap (λ ss. table_shape sizes entry ∷ ss) (given_shapes sizes given (suc k) entries)

pub given_fits : (csig : ClassicalSignature) (sizes : List ℕ) (given : GivenRows) (S : StructureTables) → AreSizes csig.sorts sizes → S ≡ structure_given sizes given csig.tables → IsFor csig S
given_fits csig sizes given S sorts is = subst (IsFor csig) (sym is) (record { sorts = sorts; shapes = given_shapes sizes given 1 csig.tables })
