-- Reading the statement of a table: the loop over its rows, and what it says of any table of this shape.
use Rattle.std.proofs.Common.{◌≡◌, ℕ, suc, ◌+◌, ◌<◌, ◌≤◌, Bool, true, false, cond, List, [], ◌∷◌, ◌++◌, map, length, take, drop, get_or, Option, None, Some, refl, sym, ap, ap₂, subst, ◌∙◌, append_assoc, arith}
use Rattle.std.specs.Prelude.{nat_eq, IsSome}
use Rattle.std.specs.List.{fold}
use Rattle.std.proofs.Math.ListN.{set}
use Rattle.std.proofs.lemmas.List.{drop_all, take_all, length-map, get_or-set_same, set-set, set-get_or}
use Rattle.std.proofs.lemmas.Bool.{true≢false}
use Rattle.std.proofs.lemmas.Grind.{flat_map-append}
use Rattle.nxf_tree.specs.declared.tree.Signature.{Signature}
use Rattle.nxf_tree.specs.Rows.{Table, Rows, Values, IsTableOf, AllBelow, all_rows, beside, has_row, those_in}
use Rattle.fin_struct.specs.Places.{InRange, place}
use Rattle.fin_struct.specs.Cells.{CellTable, no_table, table_at, with_cell}
use Rattle.fin_struct.specs.RowLists.{bit_of, marked, rows_of, listed}
use Rattle.fin_struct.specs.KripkeTables.{KripkeTables, IsKripke, IsKripkeFor, with_written}
use Rattle.fin_struct.proofs.CallerLemmas.{small_bit, length-all_rows}
use Rattle.plain_tokens.specs.PlainTokens.{Plain}
use Rattle.plain_tokens.specs.Marks.{Mark, plains, mark_plains}
use Rattle.kripke_text_definitions.specs.KripkeText as text
use Rattle.kripke_text_definitions.specs.KripkeText.{Label}
use Rattle.kripke_text_laws.specs.steps.Labels.{row_length}
use Rattle.kripke_text_laws.proofs.Fits.{HaveLength, all_have}
use Rattle.kripke_text.specs.declared.subject.Subject.{Subject}
use Rattle.kripke_text.specs.declared.subject.Subject.TheVariants.{Relation, Existence, Symbol}
use Rattle.kripke_text.specs.steps.Comparing.{matched}
use Rattle.kripke_text.specs.steps.Taking.{truth_marks, opening_marks, closing_marks}
use Rattle.kripke_text.specs.steps.Lines.{lines, none_of, lines_in, none_in}
use Rattle.kripke_text.specs.steps.Subjects.{IsIn, label_of, number_of, table_of}
use Rattle.kripke_text.specs.steps.Reading.{cell_of, IsBlank, TakesLine, Writes, ReadsRow, ReadsLine, ReadsTable, with_cells}
use Rattle.kripke_text.proofs.LinesLaw.{table_body, table_put}
use Rattle.kripke_text.proofs.Matching.{fold_comes, done_is}
use Rattle.kripke_text.proofs.ReadLines.{Suits, NotIn, AllApart, body_from, end_of}
use Rattle.kripke_text.proofs.ReadLoop.{AllCells, ReadsLines, Steps, reads_step, no_value_here}
use Rattle.kripke_text.proofs.RowPlaces.{NextRow, next_row, row_at_place, all_taken}
use Rattle.kripke_text.proofs.SubjectReads.{table_filled, table_columns, number_in}
use Rattle.kripke_text.proofs.TakeLines.{table_suits}

-- ---- any table is that of some cells

abbrev bits : List (List ℕ) → List (List ℕ) → List ℕ
bits list [] = []
bits list (row ∷ rows) = bit_of (has_row row list) ∷ bits list rows

bits_by : (row : List ℕ) (b : Bool) (ms ts : List (List ℕ)) → ms ≡ ts → cond (nat_eq (bit_of b) 1) (row ∷ ms) ms ≡ cond b (row ∷ ts) ts
bits_by row true ms ts e = ap (λ (r : List (List ℕ)). row ∷ r) e
bits_by row false ms ts e = e

bits_marked : (list rows : List (List ℕ)) → marked rows (bits list rows) ≡ those_in list rows
bits_marked list [] = refl
bits_marked list (row ∷ rows) = bits_by row (has_row row list) _ _ (bits_marked list rows)

bits_long : (list rows : List (List ℕ)) → length (bits list rows) ≡ length rows
bits_long list [] = refl
bits_long list (row ∷ rows) = ap suc (bits_long list rows)

bits_small : (list rows : List (List ℕ)) → AllCells None (bits list rows)
bits_small list [] = tt
bits_small list (row ∷ rows) = (small_bit (has_row row list), bits_small list rows)

both_back : (rs : List (List ℕ × ℕ)) → beside (map (λ (row : List ℕ × ℕ). row.0) rs) (map (λ (row : List ℕ × ℕ). row.1) rs) ≡ rs
both_back [] = refl
both_back (r ∷ rs) = ap (λ (rest : List (List ℕ × ℕ)). r ∷ rest) (both_back rs)

below_cells : (n : ℕ) (xs : List ℕ) → AllBelow n xs → AllCells (Some n) xs
below_cells n [] h = tt
below_cells n (x ∷ xs) h = (h.0, below_cells n xs h.1)

pub record CellsOf (values : Option ℕ) (rows : List (List ℕ)) (t : Table) : Type 0 where
  pub cells : List ℕ
  pub count : length cells ≡ length rows
  pub good : AllCells values cells
  pub is : t ≡ rows_of values rows cells

pub has_cells : (sizes : List ℕ) (values : Option ℕ) (t : Table) → IsTableOf sizes values t → CellsOf values (all_rows sizes) t
has_cells sizes None (Rows rows) h = record {
  cells = bits rows (all_rows sizes);
  count = bits_long rows (all_rows sizes);
  good = bits_small rows (all_rows sizes);
  is = ap Rows (h ∙ sym (bits_marked rows (all_rows sizes)));
}
has_cells sizes None (Values rows) h = absurd h
has_cells sizes (Some n) (Rows rows) h = absurd h
has_cells sizes (Some n) (Values rows) h =
    let firsts = map (λ (row : List ℕ × ℕ). row.0) rows in
    let seconds = map (λ (row : List ℕ × ℕ). row.1) rows in
    record {
      cells = seconds;
      count = length-map rows (λ (row : List ℕ × ℕ). row.1) ∙ sym (length-map rows (λ (row : List ℕ × ℕ). row.0)) ∙ ap length h.total;
      good = below_cells n seconds h.below;
      is = ap Values (sym (both_back rows) ∙ ap (λ (rs : List (List ℕ)). beside rs seconds) h.total);
    }

-- ---- the tokens of a table's statement

pub table_tokens : (label : Label) (table : CellTable) → plains (text.table_statement label (listed table)) ≡ plains (opening_marks (text.label_name label)) ++ body_from label table.values true (all_rows table.sizes) table.cells
table_tokens label table =
    let ls = lines_in label table in
    let body = text.group (text.literals label (listed table)) in
    flat_map-append mark_plains (opening_marks (text.label_name label)) (body ++ closing_marks)
    ∙ ap (λ (r : List Plain). plains (opening_marks (text.label_name label)) ++ r)
    (flat_map-append mark_plains body closing_marks
    ∙ ap (λ (ms : List Mark). plains ms ++ plains closing_marks) (sym (table_body label table))
    ∙ ap (λ (r : List Plain). r ++ plains closing_marks) (flat_map-append mark_plains ls (truth_marks (none_in table)))
    ∙ append_assoc (plains ls) (plains (truth_marks (none_in table))) (plains closing_marks))

-- behind its opening stands the body of a table
table_comes : (label : Label) (sizes : List ℕ) (values : Option ℕ) (t : Table) (name : List ℕ) (tokens start : Option (List Plain)) → (h : IsTableOf sizes values t) → name ≡ text.label_name label → start ≡ fold matched tokens (opening_marks name) → tokens ≡ Some (plains (text.table_statement label t)) → start ≡ Some (body_from label values true (all_rows sizes) (has_cells sizes values t h).cells)
table_comes label sizes values t name tokens start h is_name e f =
    let c = has_cells sizes values t h in
    fold_comes (opening_marks name) tokens start (body_from label values true (all_rows sizes) c.cells) e
    (f ∙ ap (λ (x : Table). Some (plains (text.table_statement label x))) c.is ∙ ap Some (table_tokens label (record { sizes = sizes; values = values; cells = c.cells }))
    ∙ ap (λ (n : List ℕ). Some (plains (opening_marks n) ++ body_from label values true (all_rows sizes) c.cells)) (sym is_name))

-- ---- the rows of a table

not_in : (row : List ℕ) (rows : List (List ℕ)) → ((j : ℕ) → j < length rows → row ≡ get_or rows j [] → ⊥) → NotIn row rows
not_in row [] h = tt
not_in row (r ∷ rows) h = (h 0 (omega arith), not_in row rows (λ j b. h (suc j) (omega arith)))

apart_from : (rows : List (List ℕ)) → ((i j : ℕ) → i < j → j < length rows → get_or rows i [] ≡ get_or rows j [] → ⊥) → AllApart rows
apart_from [] h = tt
apart_from (row ∷ rows) h = (not_in row rows (λ j b. h 0 (suc j) (omega arith) (omega arith)), apart_from rows (λ i j l b. h (suc i) (suc j) (omega arith) (omega arith)))

all_apart : (sizes : List ℕ) → AllApart (all_rows sizes)
all_apart sizes = apart_from (all_rows sizes) (λ i j l b e.
    let p = (row_at_place sizes i (get_or (all_rows sizes) j []) (omega arith) e).1 in
    let q = (row_at_place sizes j (get_or (all_rows sizes) j []) b refl).1 in
    absurd (omega (arith, p, q, l)))

-- ---- a structure with other cells in one table

pub table_same : (tables : List CellTable) (t : ℕ) (x : CellTable) → t < length tables → table_at (set tables t x) t ≡ x
table_same tables t x h = get_or-set_same tables t x no_table h

pub cells_written : (view now made : KripkeTables) (t : ℕ) (cells row : List ℕ) (v : ℕ) → t < length view.tables → now ≡ with_cells view t cells → made ≡ with_written now t row v → made ≡ with_cells view t (set cells (place (table_at view.tables t).sizes row) v)
cells_written view now made t cells row v h e f =
    let x : CellTable = record (table_at view.tables t) { cells = cells } in
    let ts = set view.tables t x in
    f
    ∙ ap (λ (n : KripkeTables). with_written n t row v) e
    ∙ ap (λ (y : CellTable). record view { tables = set ts t (with_cell y row v) }) (table_same view.tables t x h)
    ∙ ap (λ (us : List CellTable). record view { tables = us }) (set-set view.tables t x (with_cell x row v))

number_same : (view : KripkeTables) (tables : List CellTable) (subject : Subject) → number_of (record view { tables = tables }) subject ≡ number_of view subject
number_same view tables (Relation i) = refl
number_same view tables (Existence s) = refl
number_same view tables (Symbol y) = refl

-- the table of a structure with other cells in it
pub record Same (view made : KripkeTables) (subject : Subject) (cells : List ℕ) : Type 0 where
  pub number : number_of made subject ≡ number_of view subject
  pub table : table_of made subject ≡ record (table_of view subject) { cells = cells }

pub cells_same : (view made : KripkeTables) (subject : Subject) (cells : List ℕ) → number_of view subject < length view.tables → made ≡ with_cells view (number_of view subject) cells → Same view made subject cells
cells_same view made subject cells h e =
    let x : CellTable = record (table_of view subject) { cells = cells } in
    let ts = set view.tables (number_of view subject) x in
    let number = ap (λ (m : KripkeTables). number_of m subject) e ∙ number_same view ts subject in
    record {
      number = number;
      table = ap (λ (m : KripkeTables). table_of m subject) e ∙ ap (table_at ts) (number_same view ts subject) ∙ table_same view.tables (number_of view subject) x h;
    }

-- ---- the loop

-- the loop has come to row `at`, and has written the cells before it
pub record TableAt (sig : Signature) (subject : Subject) (view : KripkeTables) (start now : Option (List Plain)) (none : Bool) (rows : List (List ℕ)) (made : KripkeTables) : Type 0 where
  pub at : ℕ
  pub at_in : at ≤ length (all_rows (table_of view subject).sizes)
  pub rows_are : rows ≡ drop at (all_rows (table_of view subject).sizes)
  pub cells : List ℕ
  pub made_is : made ≡ with_cells view (number_of view subject) cells
  pub within : IsKripke made
  pub for_sig : IsKripkeFor sig made
  pub reads : ReadsLines (label_of sig subject) (table_of view subject).values (all_rows (table_of view subject).sizes) start now none at cells

pub table_begins : (sig : Signature) (subject : Subject) (view : KripkeTables) (start : Option (List Plain)) (rows : List (List ℕ)) → IsKripke view → IsKripkeFor sig view → IsIn sig subject → IsBlank (table_of view subject) → rows ≡ all_rows (table_of view subject).sizes → TableAt sig subject view start start true rows view
table_begins sig subject view start rows is for_sig h blank e =
    let table = table_of view subject in
    let filled = table_filled sig view subject is for_sig h in
    record {
      at = 0;
      at_in = omega arith;
      rows_are = e;
      cells = table.cells;
      made_is = ap (λ (ts : List CellTable). record view { tables = ts }) (sym (set-get_or view.tables (number_of view subject) no_table));
      within = is;
      for_sig = for_sig;
      reads = record {
        put = refl;
        none_is = refl;
        blank = λ j low below. blank j below;
        count = filled.count ∙ sym (length-all_rows table.sizes);
        meant = λ cs len good f. (f, refl);
      };
    }

-- the row that the loop has come to
pub record RowAt (sig : Signature) (subject : Subject) (view made : KripkeTables) (rows : List (List ℕ)) (at : ℕ) (row : List ℕ) : Type 0 where
  pub next : NextRow (table_of view subject).sizes at rows row
  pub in_range : InRange (table_of made subject).sizes row

pub row_here : (sig : Signature) (subject : Subject) (view made : KripkeTables) (start now : Option (List Plain)) (none : Bool) (rows : List (List ℕ)) (row : List ℕ) → number_of view subject < length view.tables → (t : TableAt sig subject view start now none rows made) → rows ≡ row ∷ drop 1 rows → RowAt sig subject view made rows t.at row
row_here sig subject view made start now none rows row h t first =
    let next = next_row (table_of view subject).sizes rows t.at row t.rows_are first in
    let same = cells_same view made subject t.cells h t.made_is in
    record {
      next = next;
      in_range = subst (λ (x : CellTable). InRange x.sizes row) (sym same.table) next.in_range;
    }

-- what is written in the structure, as a step of the cells
pub record Stepped (view : KripkeTables) (t : ℕ) (values found : Option ℕ) (k : ℕ) (old : List ℕ) (new : KripkeTables) : Type 0 where
  pub cells : List ℕ
  pub new_is : new ≡ with_cells view t cells
  pub steps : Steps values found k old cells

stepped : (view made new : KripkeTables) (t k : ℕ) (values found : Option ℕ) (old row : List ℕ) → t < length view.tables → made ≡ with_cells view t old → place (table_at view.tables t).sizes row ≡ k → Writes values t row found made new → Stepped view t values found k old new
stepped view made new t k values None old row h e at w = record { cells = old; new_is = w.0 ∙ e; steps = (refl, w.1) }
stepped view made new t k values (Some v) old row h e at w = record {
  cells = set old (place (table_at view.tables t).sizes row) (cell_of values (Some v));
  new_is = cells_written view made new t old row (cell_of values (Some v)) h e w;
  steps = ap (λ (j : ℕ). set old j (cell_of values (Some v))) at;
}

-- what is said of a row, by the table as it was
row_read : (sig : Signature) (subject : Subject) (view made new : KripkeTables) (cells row : List ℕ) (none after : Bool) (old now : Option (List Plain)) → Same view made subject cells → ReadsRow (label_of sig subject) (table_of made subject).values none (number_of made subject) row old now made new after → ReadsRow (label_of sig subject) (table_of view subject).values none (number_of view subject) row old now made new after
row_read sig subject view made new cells row none after old now same r =
    subst (λ (v : Option ℕ). ReadsRow (label_of sig subject) v none (number_of view subject) row old now made new after) (ap (λ (x : CellTable). x.values) same.table)
    (subst (λ (t : ℕ). ReadsRow (label_of sig subject) (table_of made subject).values none t row old now made new after) same.number r)

long_rows : (sig : Signature) (subject : Subject) (view : KripkeTables) → IsKripke view → IsKripkeFor sig view → IsIn sig subject → HaveLength (row_length (label_of sig subject)) (all_rows (table_of view subject).sizes)
long_rows sig subject view is for_sig h =
    subst (λ (n : ℕ). HaveLength n (all_rows (table_of view subject).sizes)) (table_columns sig view subject is for_sig h) (all_have (table_of view subject).sizes)

pub table_next : (sig : Signature) (subject : Subject) (view made new : KripkeTables) (start old now : Option (List Plain)) (none after : Bool) (rows more : List (List ℕ)) (row : List ℕ) → IsKripke view → IsKripkeFor sig view → IsIn sig subject → TableAt sig subject view start old none rows made → rows ≡ row ∷ drop 1 rows → ReadsRow (label_of sig subject) (table_of made subject).values none (number_of made subject) row old now made new after → IsKripke new → IsKripkeFor sig new → more ≡ drop 1 rows → TableAt sig subject view start now after more new
table_next sig subject view made new start old now none after rows more row is for_sig h t first reads within over next =
    let table = table_of view subject in
    let label = label_of sig subject in
    let in_tables = number_in sig view subject is for_sig h in
    let here = row_here sig subject view made start old none rows row in_tables t first in
    let r = row_read sig subject view made new t.cells row none after old now (cells_same view made subject t.cells in_tables t.made_is) reads in
    let s = stepped view made new (number_of view subject) t.at table.values r.found t.cells row in_tables t.made_is here.next.place_is r.written in
    record {
      at = t.at + 1;
      at_in = omega (arith, here.next.below);
      rows_are = next ∙ here.next.rest;
      cells = s.cells;
      made_is = s.new_is;
      within = within;
      for_sig = over;
      reads = subst (λ (b : Bool). ReadsLines label table.values (all_rows table.sizes) start now b (t.at + 1) s.cells) (sym r.after_is)
          (reads_step label table.values (all_rows table.sizes) start old now none t.at row r.found t.cells s.cells here.next.below here.next.is_row (table_suits sig view subject is for_sig h) (long_rows sig subject view is for_sig h) (all_apart table.sizes) t.reads r.takes s.steps);
    }

-- ---- a function's row without its literal

missing_by : (label : Label) (values : Option ℕ) (rows : List (List ℕ)) (start now new : Option (List Plain)) (none : Bool) (k : ℕ) (row old cs : List ℕ) → IsSome values → k < length rows → get_or rows k [] ≡ row → Suits label values → HaveLength (row_length label) rows → AllApart rows → ReadsLines label values rows start now none k old → TakesLine label values none row now new None → length cs ≡ length rows → AllCells values cs → start ≡ Some (body_from label values true rows cs) → ⊥
missing_by label None rows start now new none k row old cs some = absurd cc
missing_by label (Some size) rows start now new none k row old cs some = no_value_here label size rows start now new none k row old cs

pub table_missing : (sig : Signature) (subject : Subject) (view made last : KripkeTables) (name : List ℕ) (tokens start old now : Option (List Plain)) (none : Bool) (rows : List (List ℕ)) (row : List ℕ) → IsKripke view → IsKripkeFor sig view → IsIn sig subject → name ≡ text.label_name (label_of sig subject) → start ≡ fold matched tokens (opening_marks name) → TableAt sig subject view start old none rows made → rows ≡ row ∷ drop 1 rows → ReadsLine (label_of sig subject) (table_of made subject).values none (number_of made subject) row old now made last None → ReadsTable (label_of sig subject) (number_of view subject) tokens view last false
table_missing sig subject view made last name tokens start old now none rows row is for_sig h is_name opened t first reads = λ table shape e.
    let label = label_of sig subject in
    let sizes = (table_of view subject).sizes in
    let values = (table_of view subject).values in
    let in_tables = number_in sig view subject is for_sig h in
    let here = row_here sig subject view made start old none rows row in_tables t first in
    let same = cells_same view made subject t.cells in_tables t.made_is in
    let r = subst (λ (v : Option ℕ). IsSome v × TakesLine label v none row old now None) (ap (λ (x : CellTable). x.values) same.table) reads in
    let c = has_cells sizes values table shape in
    missing_by label values (all_rows sizes) start old now none t.at row t.cells c.cells r.0 here.next.below here.next.is_row (table_suits sig view subject is for_sig h) (long_rows sig subject view is for_sig h) (all_apart sizes) t.reads r.1 c.count c.good (table_comes label sizes values table name tokens start shape is_name opened e)

-- ---- behind the last row

done_by : (sig : Signature) (subject : Subject) (view made : KripkeTables) (name : List ℕ) (tokens start now mid last : Option (List Plain)) (none : Bool) (rows : List (List ℕ)) (b : Bool) → IsKripke view → IsKripkeFor sig view → IsIn sig subject → name ≡ text.label_name (label_of sig subject) → start ≡ fold matched tokens (opening_marks name) → TableAt sig subject view start now none rows made → rows ≡ [] → mid ≡ fold matched now (truth_marks none) → last ≡ fold matched mid closing_marks → (b ≡ true → last ≡ Some []) × (last ≡ Some [] → b ≡ true) → ReadsTable (label_of sig subject) (number_of view subject) tokens view made b
done_by sig subject view made name tokens start now mid last none rows true is for_sig h is_name opened t end truth closed done =
    let label = label_of sig subject in
    let table : CellTable = record (table_of view subject) { cells = t.cells } in
    let all = all_rows table.sizes in
    let past = all_taken all rows t.at t.rows_are end in
    let whole_rows : take t.at all ≡ all = take_all t.at all past in
    let whole_cells : take t.at t.cells ≡ t.cells = take_all t.at t.cells (omega (arith, t.reads.count)) in
    let none_is : none ≡ none_in table = t.reads.none_is ∙ ap₂ (none_of table.values true) whole_rows whole_cells in
    let put : now ≡ fold matched start (lines_in label table) = t.reads.put ∙ ap (fold matched start) (ap₂ (lines label table.values true) whole_rows whole_cells) in
    let e = table_put matched tokens start now mid last name label table none is_name none_is opened put truth closed in
    let same = cells_same view made subject t.cells (number_in sig view subject is for_sig h) t.made_is in
    let there : table_at made.tables (number_of view subject) ≡ table = ap (table_at made.tables) (sym same.number) ∙ same.table in
    (t.cells, t.made_is, (done_is (text.table_statement label (listed table)) tokens last e).0 (done.0 refl) ∙ ap (λ (x : CellTable). Some (plains (text.table_statement label (listed x)))) (sym there))
done_by sig subject view made name tokens start now mid last none rows false is for_sig h is_name opened t end truth closed done = λ table shape e.
    let label = label_of sig subject in
    let sizes = (table_of view subject).sizes in
    let values = (table_of view subject).values in
    let all = all_rows sizes in
    let past = all_taken all rows t.at t.rows_are end in
    let c = has_cells sizes values table shape in
    let m = t.reads.meant c.cells c.count c.good (table_comes label sizes values table name tokens start shape is_name opened e) in
    let behind : now ≡ Some (end_of none) = m.0 ∙ ap (λ (rs : List (List ℕ)). Some (body_from label values none rs (drop t.at c.cells))) (drop_all t.at all past) in
    let middle = fold_comes (truth_marks none) now mid (plains closing_marks) truth behind in
    true≢false (sym (done.1 ((done_is closing_marks mid last closed).1 middle)))

pub table_done : (sig : Signature) (subject : Subject) (view made : KripkeTables) (name : List ℕ) (tokens start now mid last : Option (List Plain)) (none : Bool) (rows : List (List ℕ)) (b : Bool) → IsKripke view → IsKripkeFor sig view → IsIn sig subject → name ≡ text.label_name (label_of sig subject) → start ≡ fold matched tokens (opening_marks name) → TableAt sig subject view start now none rows made → rows ≡ [] → mid ≡ fold matched now (truth_marks none) → last ≡ fold matched mid closing_marks → (b ≡ true → last ≡ Some []) × (last ≡ Some [] → b ≡ true) → ReadsTable (label_of sig subject) (number_of view subject) tokens view made b
table_done = done_by
