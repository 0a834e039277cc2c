-- The parts of tables are read without faults, and give the rows of the tables.
use Rattle.std.proofs.Common.{◌≡◌, ℕ, zero, suc, ◌<◌, inl, inr, Bool, true, false, cond, List, [], ◌∷◌, ◌++◌, map, length, get_or, Option, None, Some, refl, sym, ap, subst, ◌∙◌, append_assoc, append-nil, arith}
use Rattle.std.specs.Prelude.{flat_map, nat_eq, ◌&&◌}
use Rattle.std.specs.List.{AllByRecursion}
use Rattle.std.specs.Option.{option_map}
use Rattle.std.proofs.lemmas.Bool.{cases_Bool}
use Rattle.std.proofs.lemmas.Grind.{flat_map-append}
use Rattle.nxf_tree.specs.declared.tree.TableEntry.{TableEntry}
use Rattle.nxf_tree.specs.declared.tree.ClassicalSignature.{ClassicalSignature}
use Rattle.nxf_tree.specs.declared.tree.Typing.{Typing}
use Rattle.nxf_tree.specs.declared.tree.Typing.TheVariants.{Symbol}
use Rattle.nxf_tree.specs.Names.{same_text}
use Rattle.nxf_tree.specs.Rows.{Shape, AllBelow, all_rows, beside, size_at}
use Rattle.nxf_tree.specs.Structures.{table_shape, table_shapes}
use Rattle.nxf_tree.specs.Problem.{classical_sort_at}
use Rattle.classical_signature_laws.specs.ClassicalSignatures.{GivesBelow}
use Rattle.name_laws.specs.NameLaws.{HasDifferentClassicalNames}
use Rattle.fin_struct.specs.Places.{InRange, rows_count}
use Rattle.fin_struct.specs.Cells.{CellTable, bound_of}
use Rattle.fin_struct.specs.RowLists.{shape_of, shapes_of, IsFilled, AreFilled}
use Rattle.fin_struct.proofs.CallerLemmas.{all_rows-at, length-all_rows, place-row_at, row_at, row_at-in_range, filled_tail}
use Rattle.interpretation_definitions.specs.Parts.{Part, Declares}
use Rattle.interpretation_definitions.specs.Context.{Context, symbols_of, element}
use Rattle.interpretation_definitions.specs.Given.{Given, value_in, row_given, row_of, row_with, valued_row, bit, stated, own_row, own_rows_from, own_rows, given_by}
use Rattle.interpretation_definitions.specs.Judging.{part_fault}
use Rattle.interpretation_text_laws.specs.ElementsApart.{HasElementsApart}
use Rattle.interpretation_text_laws.proofs.ReadParts.{row_arguments, literal_part, row_part, table_parts}
use Rattle.interpretation_text_laws.proofs.ReadNames.{own_context, element_is}
use Rattle.interpretation_text_laws.proofs.ReadSymbols.{symbol_known}
use Rattle.interpretation_text_laws.proofs.ReadFaults.{symbol_declared, row_read, atom_read, equation_read}
use Rattle.interpretation_text_laws.proofs.ReadRows.{RowsApart, rows_apart, table_rows, tables_rows, AreBefore, none_before, before_more}
use Rattle.interpretation_text_laws.proofs.ReadWalk.{AreClean, clean_both}

-- ---- facts of each in a list

pub all_by_places : {A : Type 0} (P : A → Type 0) (xs : List A) (d : A) → ((k : ℕ) → k < length xs → P (get_or xs k d)) → AllByRecursion P xs
all_by_places P [] d h = tt
all_by_places P (x ∷ xs) d h = (h 0 (omega arith), all_by_places P xs d (λ k l. h (suc k) (omega arith)))

-- a row that the table has, with what its cell may have
pub record IsRow (columns : List ℕ) (bound : ℕ) (p : List ℕ × ℕ) : Type 0 where
  pub in_range : InRange columns p.0
  pub below : p.1 < bound

rows_with_cells : (columns : List ℕ) (bound : ℕ) (rows : List (List ℕ)) (cells : List ℕ) → ((k : ℕ) → k < length rows → InRange columns (get_or rows k [])) → ((k : ℕ) → k < length cells → get_or cells k 0 < bound)
    → AllByRecursion (IsRow columns bound) (beside rows cells)
rows_with_cells columns bound [] cells r c = tt
rows_with_cells columns bound (row ∷ rows) [] r c = tt
rows_with_cells columns bound (row ∷ rows) (cell ∷ cells) r c =
    (record { in_range = r 0 (omega arith); below = c 0 (omega arith) }, rows_with_cells columns bound rows cells (λ k l. r (suc k) (omega arith)) (λ k l. c (suc k) (omega arith)))

pub table_has_rows : (table : CellTable) → IsFilled table → AllByRecursion (IsRow table.sizes (bound_of table.values)) (beside (all_rows table.sizes) table.cells)
table_has_rows table filled =
    rows_with_cells table.sizes (bound_of table.values) (all_rows table.sizes) table.cells
    (λ k l.
    let below : k < rows_count table.sizes = omega (arith, length-all_rows table.sizes) in
    let inside = row_at-in_range table.sizes k below in
    subst (InRange table.sizes) (sym (all_rows-at table.sizes (row_at table.sizes k) inside) ∙ ap (λ n. get_or (all_rows table.sizes) n []) (place-row_at table.sizes k below)) inside)
    filled.below

-- the rows of pairs differ
apart_beside : (rows : List (List ℕ)) (cells : List ℕ) → RowsApart rows → RowsApart (map (λ (p : List ℕ × ℕ). p.0) (beside rows cells))
apart_beside [] cells h = tt
apart_beside (r ∷ rows) [] h = tt
apart_beside (r ∷ rows) (c ∷ cells) h = (fewer rows cells h.0, apart_beside rows cells h.1)
  where
    fewer : (qs : List (List ℕ)) (cs : List ℕ) → AllByRecursion (λ q. same_text r q ≡ false) qs → AllByRecursion (λ q. same_text r q ≡ false) (map (λ (p : List ℕ × ℕ). p.0) (beside qs cs))
    fewer [] cs g = tt
    fewer (q ∷ qs) [] g = tt
    fewer (q ∷ qs) (d ∷ cs) g = (g.0, fewer qs cs g.1)

-- what isn't given by the first rows is what the others give
none_then : (gs more : List Given) (t : ℕ) (row : List ℕ) → value_in gs t row ≡ None → value_in (gs ++ more) t row ≡ value_in more t row
none_then [] more t row h = refl
none_then (g ∷ gs) more t row h = elim (cases_Bool (nat_eq g.place t && same_text g.row row)) [
  | inl found ↦ let some : Some g.value ≡ None = sym (ap (λ b. cond b (Some g.value) (value_in gs t row)) found) ∙ h in absurd cc
  | inr isn't ↦ ap (λ b. cond b (Some g.value) (value_in (gs ++ more) t row)) isn't ∙ none_then gs more t row (sym (ap (λ b. cond b (Some g.value) (value_in gs t row)) isn't) ∙ h)
]

bit_is : (c : ℕ) → c < 2 → bit (nat_eq c 1) ≡ c
bit_is zero h = refl
bit_is (suc zero) h = refl
bit_is (suc (suc c)) h = absurd (omega arith)

module _ (csig : ClassicalSignature) (sizes : List ℕ) (apart : HasElementsApart csig) (different : HasDifferentClassicalNames csig) (declared : List (List ℕ)) where
  abbrev C : Context
  C = own_context csig sizes apart different declared

  -- a symbol at its place, over the sorts
  pub record IsEntry (t : ℕ) (entry : TableEntry) : Type 0 where
    pub there : t < length (symbols_of csig)
    pub is : get_or (symbols_of csig) t entry ≡ entry
    pub args : AllBelow (length csig.sorts) entry.args
    pub gives : GivesBelow (length csig.sorts) entry.gives

  -- ---- rows

  row_stated_by : (t : ℕ) (entry : TableEntry) (gives : Option ℕ) (row : List ℕ) (c : ℕ) → IsEntry t entry → entry.gives ≡ gives → GivesBelow (length csig.sorts) gives
      → InRange (map (size_at sizes) entry.args) row → c < bound_of (option_map (size_at sizes) gives)
      → stated C (literal_part csig.sorts entry.name (row_arguments csig.sorts entry.args row) gives c) ≡ row_given t row c
  row_stated_by t entry None row c h e g r l =
      let read = row_read csig sizes apart different declared entry.args row h.args r in
      let known = symbol_known csig sizes apart different t entry h.there h.is in
      λ i. row_of (known i) (read.numbers i) (bit_is c l i)
  row_stated_by t entry (Some sort) row c h e g r l =
      let read = row_read csig sizes apart different declared entry.args row h.args r in
      let known = symbol_known csig sizes apart different t entry h.there h.is in
      let value = element_is csig sizes apart different declared sort c g l in
      (λ i. valued_row (known i) (read.numbers i) (value i)) ∙ (λ i. row_with (t, entry) (e i) row (Some (record { sort = sort; number = c })))

  row_clean_by : (before : List Part) (t : ℕ) (entry : TableEntry) (gives : Option ℕ) (row : List ℕ) (c : ℕ) → IsEntry t entry → entry.gives ≡ gives → GivesBelow (length csig.sorts) gives
      → InRange (map (size_at sizes) entry.args) row → c < bound_of (option_map (size_at sizes) gives) → value_in (given_by C before) t row ≡ None
      → part_fault C before (literal_part csig.sorts entry.name (row_arguments csig.sorts entry.args row) gives c) ≡ None
  row_clean_by before t entry None row c h e g r l new =
      atom_read csig sizes apart different declared before (nat_eq c 1) t entry row h.there h.is e (row_read csig sizes apart different declared entry.args row h.args r) new
  row_clean_by before t entry (Some sort) row c h e g r l new =
      equation_read csig sizes apart different declared before t entry row sort c h.there h.is e g l (row_read csig sizes apart different declared entry.args row h.args r) new

  -- the columns of a symbol, and a number above each of its cells
  abbrev IsRowOf : TableEntry → List ℕ × ℕ → Type 0
  IsRowOf entry = IsRow (map (size_at sizes) entry.args) (bound_of (option_map (size_at sizes) entry.gives))

  pub row_stated : (t : ℕ) (entry : TableEntry) (p : List ℕ × ℕ) → IsEntry t entry → IsRowOf entry p → stated C (row_part csig.sorts entry p) ≡ row_given t p.0 p.1
  row_stated t entry p h r = row_stated_by t entry entry.gives p.0 p.1 h refl h.gives r.in_range r.below

  rows_stated : (t : ℕ) (entry : TableEntry) (ps : List (List ℕ × ℕ)) → IsEntry t entry → AllByRecursion (IsRowOf entry) ps → flat_map (stated C) (map (row_part csig.sorts entry) ps) ≡ table_rows t ps
  rows_stated t entry [] h r = refl
  rows_stated t entry (p ∷ ps) h r = λ i. row_stated t entry p h r.0 i ++ rows_stated t entry ps h r.1 i

  given_more : (before : List Part) (p : Part) → given_by C (before ++ p ∷ []) ≡ given_by C before ++ stated C p
  given_more before p =
      ap (λ gs. own_rows C ++ gs) (flat_map-append (stated C) before (p ∷ []) ∙ ap (λ last. flat_map (stated C) before ++ last) (append-nil (stated C p)))
      ∙ sym (append_assoc (own_rows C) (flat_map (stated C) before) (stated C p))

  rows_clean : (before : List Part) (t : ℕ) (entry : TableEntry) (ps : List (List ℕ × ℕ)) → IsEntry t entry → AllByRecursion (IsRowOf entry) ps → RowsApart (map (λ (p : List ℕ × ℕ). p.0) ps)
      → AllByRecursion (λ (p : List ℕ × ℕ). value_in (given_by C before) t p.0 ≡ None) ps → AreClean C before (map (row_part csig.sorts entry) ps)
  rows_clean before t entry [] h r apart_rows new = tt
  rows_clean before t entry (p ∷ ps) h r apart_rows new = (
    row_clean_by before t entry entry.gives p.0 p.1 h refl h.gives r.0.in_range r.0.below new.0,
    rows_clean (before ++ row_part csig.sorts entry p ∷ []) t entry ps h r.1 apart_rows.1 (still_new ps apart_rows.0 new.1),
  )
    where
      still_new : (qs : List (List ℕ × ℕ)) → AllByRecursion (λ q. same_text p.0 q ≡ false) (map (λ (q : List ℕ × ℕ). q.0) qs) → AllByRecursion (λ (q : List ℕ × ℕ). value_in (given_by C before) t q.0 ≡ None) qs
          → AllByRecursion (λ (q : List ℕ × ℕ). value_in (given_by C (before ++ row_part csig.sorts entry p ∷ [])) t q.0 ≡ None) qs
      still_new [] a n = tt
      still_new (q ∷ qs) a n = (
        (λ i. value_in (given_more before (row_part csig.sorts entry p) i) t q.0) ∙ none_then (given_by C before) (stated C (row_part csig.sorts entry p)) t q.0 n.0
            ∙ (λ i. value_in (row_stated t entry p h r.0 i) t q.0) ∙ last_other (nat_eq t t) (a.0),
        still_new qs a.1 n.1,
      )
        where
          last_other : (b : Bool) → same_text p.0 q.0 ≡ false → cond (b && same_text p.0 q.0) (Some p.1) None ≡ None
          last_other true e = ap (λ c. cond c (Some p.1) None) e
          last_other false e = refl

  -- ---- tables

  table_is_row : (entry : TableEntry) (table : CellTable) → shape_of table ≡ table_shape sizes entry → IsFilled table → AllByRecursion (IsRowOf entry) (beside (all_rows table.sizes) table.cells)
  table_is_row entry table shape filled =
      subst (λ (s : Shape). AllByRecursion (IsRow s.sizes (bound_of s.values)) (beside (all_rows table.sizes) table.cells)) shape (table_has_rows table filled)

  table_stated : (t : ℕ) (entry : TableEntry) (table : CellTable) → IsEntry t entry → shape_of table ≡ table_shape sizes entry → IsFilled table
      → flat_map (stated C) (table_parts csig.sorts entry table) ≡ table_rows t (beside (all_rows table.sizes) table.cells)
  table_stated t entry table h shape filled = rows_stated t entry (beside (all_rows table.sizes) table.cells) h (table_is_row entry table shape filled)

  table_clean : (before : List Part) (t : ℕ) (entry : TableEntry) (table : CellTable) → IsEntry t entry → shape_of table ≡ table_shape sizes entry → IsFilled table → AreBefore t (given_by C before)
      → AreClean C before (table_parts csig.sorts entry table)
  table_clean before t entry table h shape filled earlier =
      let type = Symbol entry.name (map (classical_sort_at csig.sorts) entry.args) (option_map (classical_sort_at csig.sorts) entry.gives) in
      let ps = beside (all_rows table.sizes) table.cells in (
        symbol_declared csig sizes apart different declared before t entry h.there h.is h.args h.gives,
        rows_clean (before ++ Declares type ∷ []) t entry ps h (table_is_row entry table shape filled) (apart_beside (all_rows table.sizes) table.cells (rows_apart table.sizes)) (all_new type ps),
      )
    where
      all_new : (type : Typing) (qs : List (List ℕ × ℕ)) → AllByRecursion (λ (q : List ℕ × ℕ). value_in (given_by C (before ++ Declares type ∷ [])) t q.0 ≡ None) qs
      all_new type [] = tt
      all_new type (q ∷ qs) = ((λ i. value_in (given_more before (Declares type) i) t q.0) ∙ none_before (given_by C before) [] t t q.0 earlier (omega arith), all_new type qs)

  -- symbols from number t on, one for each table
  abbrev pub AreEntries : ℕ → List TableEntry → Type 0
  AreEntries t [] = Unit {0}
  AreEntries t (entry ∷ entries) = IsEntry t entry × AreEntries (suc t) entries

  abbrev pub tables_parts : List TableEntry → List CellTable → List Part
  tables_parts entries tables = flat_map (λ (p : TableEntry × CellTable). table_parts csig.sorts p.0 p.1) (beside entries tables)

  pub tables_stated : (t : ℕ) (entries : List TableEntry) (tables : List CellTable) → AreEntries t entries → shapes_of tables ≡ table_shapes sizes entries → AreFilled tables
      → flat_map (stated C) (tables_parts entries tables) ≡ tables_rows t entries tables
  tables_stated t [] tables h shapes filled = refl
  tables_stated t (entry ∷ entries) [] h shapes filled = refl
  tables_stated t (entry ∷ entries) (table ∷ tables) h shapes filled =
      let first : shape_of table ≡ table_shape sizes entry = cc in
      let rest : shapes_of tables ≡ table_shapes sizes entries = cc in
      flat_map-append (stated C) (table_parts csig.sorts entry table) (tables_parts entries tables)
      ∙ (λ i. table_stated t entry table h.0 first (filled 0 (omega arith)) i ++ tables_stated (suc t) entries tables h.1 rest (filled_tail table tables filled) i)

  pub given_after : (before ps : List Part) → given_by C (before ++ ps) ≡ given_by C before ++ flat_map (stated C) ps
  given_after before ps = ap (λ gs. own_rows C ++ gs) (flat_map-append (stated C) before ps) ∙ sym (append_assoc (own_rows C) (flat_map (stated C) before) (flat_map (stated C) ps))

  pub tables_clean : (before : List Part) (t : ℕ) (entries : List TableEntry) (tables : List CellTable) → AreEntries t entries → shapes_of tables ≡ table_shapes sizes entries → AreFilled tables
      → AreBefore t (given_by C before) → AreClean C before (tables_parts entries tables)
  tables_clean before t [] tables h shapes filled earlier = tt
  tables_clean before t (entry ∷ entries) [] h shapes filled earlier = tt
  tables_clean before t (entry ∷ entries) (table ∷ tables) h shapes filled earlier =
      let first : shape_of table ≡ table_shape sizes entry = cc in
      let rest : shapes_of tables ≡ table_shapes sizes entries = cc in
      let parts = table_parts csig.sorts entry table in
      let rows = beside (all_rows table.sizes) table.cells in
      let own = table_stated t entry table h.0 first (filled 0 (omega arith)) in
      let now : given_by C (before ++ parts) ≡ given_by C before ++ table_rows t rows = given_after before parts ∙ ap (λ gs. given_by C before ++ gs) own in
      clean_both C before parts (tables_parts entries tables) (table_clean before t entry table h.0 first (filled 0 (omega arith)) earlier)
      (tables_clean (before ++ parts) (suc t) entries tables h.1 rest (filled_tail table tables filled) (subst (AreBefore (suc t)) (sym now) (before_more t (given_by C before) rows earlier)))

  -- ---- no constant is an element

  pub own_none : (t : ℕ) (entries : List TableEntry) → AllByRecursion (λ (e : TableEntry). element C e.name ≡ None) entries → own_rows_from t C entries ≡ []
  own_none t [] h = refl
  own_none t (e ∷ entries) h = (λ i. own_row t e.args e.gives (h.0 i) ++ own_rows_from (suc t) C entries) ∙ own_none (suc t) entries h.1
