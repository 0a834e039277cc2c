-- The lines of a table are its statement's literals.
use Rattle.std.proofs.Common.{◌≡◌, ℕ, ◌+◌, ◌<◌, ◌≤◌, Bool, true, false, cond, List, [], ◌∷◌, ◌++◌, map, length, drop, get_or, Option, None, Some, refl, sym, ap, ap₂, ◌∙◌, append_assoc, append-nil, arith}
use Rattle.std.specs.Prelude.{nat_eq}
use Rattle.std.specs.List.{fold}
use Rattle.std.proofs.lemmas.List.{drop_more, drop_all}
use Rattle.nxf_tree.specs.Rows.{beside, all_rows}
use Rattle.fin_struct.specs.Cells.{CellTable, cell}
use Rattle.fin_struct.specs.RowLists.{marked, rows_of, listed, IsFilled}
use Rattle.fin_struct.proofs.CallerLemmas.{length-all_rows}
use Rattle.plain_tokens.specs.Marks.{Mark}
use Rattle.kripke_text_definitions.specs.KripkeText.{Label, literal, literals, group, later, and_sign, statement, label_name, table_statement}
use Rattle.kripke_text.specs.steps.Taking.{truth_marks, opening_marks, closing_marks}
use Rattle.kripke_text.specs.steps.Lines.{shown, line_marks, none_after, lines, none_of, lines_in, none_in}
use Rattle.kripke_text.proofs.RowPlaces.{next_row, all_taken}
use Rattle.kripke_text.proofs.Folds.{fold_more, statement_put}

abbrev row_literal : Label → List ℕ → List Mark
row_literal label row = literal label row 0

abbrev line_literal : Label → List ℕ × ℕ → List Mark
line_literal label r = literal label r.0 r.1

-- ---- behind a literal

true_by : (label : Label) (row : List ℕ) (rows : List (List ℕ)) (cells : List ℕ) (b : Bool) → (lines label None false rows cells ≡ later and_sign (map (row_literal label) (marked rows cells))) × (none_of None false rows cells ≡ false)
    → (line_marks label false row (cond b (Some 0) None) ++ lines label None (none_after false (cond b (Some 0) None)) rows cells ≡ later and_sign (map (row_literal label) (cond b (row ∷ marked rows cells) (marked rows cells)))) × (none_of None (none_after false (cond b (Some 0) None)) rows cells ≡ false)
true_by label row rows cells true ih =
    (append_assoc and_sign (row_literal label row) (lines label None false rows cells) ∙ ap (λ (r : List Mark). and_sign ++ (row_literal label row ++ r)) ih.0, ih.1)
true_by label row rows cells false ih = ih

true_later : (label : Label) (rows : List (List ℕ)) (cells : List ℕ) → (lines label None false rows cells ≡ later and_sign (map (row_literal label) (marked rows cells))) × (none_of None false rows cells ≡ false)
true_later label [] cells = (refl, refl)
true_later label (row ∷ rows) [] = (refl, refl)
true_later label (row ∷ rows) (c ∷ cells) = true_by label row rows cells (nat_eq c 1) (true_later label rows cells)

value_later : (label : Label) (size : ℕ) (rows : List (List ℕ)) (cells : List ℕ) → (lines label (Some size) false rows cells ≡ later and_sign (map (line_literal label) (beside rows cells))) × (none_of (Some size) false rows cells ≡ false)
value_later label size [] cells = (refl, refl)
value_later label size (row ∷ rows) [] = (refl, refl)
value_later label size (row ∷ rows) (c ∷ cells) =
    let ih = value_later label size rows cells in
    (append_assoc and_sign (literal label row c) (lines label (Some size) false rows cells) ∙ ap (λ (r : List Mark). and_sign ++ (literal label row c ++ r)) ih.0, ih.1)

-- ---- from the beginning

-- the literals, and `$true` where there is none
abbrev body_of : Label → Option ℕ → List (List ℕ) → List ℕ → List Mark
body_of label values rows cells = lines label values true rows cells ++ truth_marks (none_of values true rows cells)

true_first_by : (label : Label) (row : List ℕ) (rows : List (List ℕ)) (cells : List ℕ) (b : Bool) → body_of label None rows cells ≡ group (map (row_literal label) (marked rows cells))
    → (line_marks label true row (cond b (Some 0) None) ++ lines label None (none_after true (cond b (Some 0) None)) rows cells) ++ truth_marks (none_of None (none_after true (cond b (Some 0) None)) rows cells) ≡ group (map (row_literal label) (cond b (row ∷ marked rows cells) (marked rows cells)))
true_first_by label row rows cells true ih =
    let t = true_later label rows cells in
    ap (λ (b : Bool). (row_literal label row ++ lines label None false rows cells) ++ truth_marks b) t.1
    ∙ append-nil (row_literal label row ++ lines label None false rows cells)
    ∙ ap (λ (r : List Mark). row_literal label row ++ r) t.0
true_first_by label row rows cells false ih = ih

true_group : (label : Label) (rows : List (List ℕ)) (cells : List ℕ) → body_of label None rows cells ≡ group (map (row_literal label) (marked rows cells))
true_group label [] cells = refl
true_group label (row ∷ rows) [] = refl
true_group label (row ∷ rows) (c ∷ cells) = true_first_by label row rows cells (nat_eq c 1) (true_group label rows cells)

value_group : (label : Label) (size : ℕ) (rows : List (List ℕ)) (cells : List ℕ) → body_of label (Some size) rows cells ≡ group (map (line_literal label) (beside rows cells))
value_group label size [] cells = refl
value_group label size (row ∷ rows) [] = refl
value_group label size (row ∷ rows) (c ∷ cells) =
    let t = value_later label size rows cells in
    ap (λ (b : Bool). (literal label row c ++ lines label (Some size) false rows cells) ++ truth_marks b) t.1
    ∙ append-nil (literal label row c ++ lines label (Some size) false rows cells)
    ∙ ap (λ (r : List Mark). literal label row c ++ r) t.0

group_by : (label : Label) (values : Option ℕ) (rows : List (List ℕ)) (cells : List ℕ) → body_of label values rows cells ≡ group (literals label (rows_of values rows cells))
group_by label None rows cells = true_group label rows cells
group_by label (Some size) rows cells = value_group label size rows cells

-- the body of a table's statement
pub table_body : (label : Label) (table : CellTable) → lines_in label table ++ truth_marks (none_in table) ≡ group (literals label (listed table))
table_body label table = group_by label table.values (all_rows table.sizes) table.cells

-- a table's statement from its parts
pub table_put : {S : Type 0} → (takes : S → Mark → S) → (s t u v w : S) → (name : List ℕ) (label : Label) (table : CellTable) (none : Bool) → name ≡ label_name label → none ≡ none_in table → t ≡ fold takes s (opening_marks name) → u ≡ fold takes t (lines_in label table) → v ≡ fold takes u (truth_marks none) → w ≡ fold takes v closing_marks → w ≡ fold takes s (table_statement label (listed table))
table_put takes s t u v w name label table none is_name is_none a b c d =
    statement_put takes s t v w name (group (literals label (listed table))) a
    (c ∙ ap (λ (x : _). fold takes x (truth_marks none)) b ∙ ap (λ (x : Bool). fold takes (fold takes t (lines_in label table)) (truth_marks x)) is_none ∙ sym (fold_more takes t (lines_in label table) (truth_marks (none_in table))) ∙ ap (fold takes t) (table_body label table))
    d
    ∙ ap (λ (x : List ℕ). fold takes s (statement x (group (literals label (listed table))))) is_name

-- ---- the loop over the rows

-- what is left at place k, and whether nothing was printed in the end
abbrev lines_from : Label → CellTable → Bool → ℕ → List Mark
lines_from label table none k = lines label table.values none (drop k (all_rows table.sizes)) (drop k table.cells)

abbrev none_from : CellTable → Bool → ℕ → Bool
none_from table none k = none_of table.values none (drop k (all_rows table.sizes)) (drop k table.cells)

line_first : (label : Label) (values : Option ℕ) (none : Bool) (rows : List (List ℕ)) (cells : List ℕ) (k : ℕ) → k < length rows → k < length cells → lines label values none (drop k rows) (drop k cells) ≡ line_marks label none (get_or rows k []) (shown values (get_or cells k 0)) ++ lines label values (none_after none (shown values (get_or cells k 0))) (drop (k + 1) rows) (drop (k + 1) cells)
line_first label values none rows cells k h i =
    ap₂ (lines label values none) (drop_more rows k [] h) (drop_more cells k 0 i)

none_first : (values : Option ℕ) (none : Bool) (rows : List (List ℕ)) (cells : List ℕ) (k : ℕ) → k < length rows → k < length cells → none_of values none (drop k rows) (drop k cells) ≡ none_of values (none_after none (shown values (get_or cells k 0))) (drop (k + 1) rows) (drop (k + 1) cells)
none_first values none rows cells k h i =
    ap₂ (none_of values none) (drop_more rows k [] h) (drop_more cells k 0 i)

-- one more row
lines_next : {S : Type 0} → (takes : S → Mark → S) → (s t goal : S) → (label : Label) (table : CellTable) (none after : Bool) (k : ℕ) (row : List ℕ) (found : Option ℕ) → k < length (all_rows table.sizes) → k < length table.cells → get_or (all_rows table.sizes) k [] ≡ row → found ≡ shown table.values (get_or table.cells k 0) → fold takes s (lines_from label table none k) ≡ goal → after ≡ none_after none found → t ≡ fold takes s (line_marks label none row found) → fold takes t (lines_from label table after (k + 1)) ≡ goal
lines_next takes s t goal label table none after k row found h i is_row is_found inv flag put =
    let rest = lines_from label table (none_after none found) (k + 1) in
    let first = line_first label table.values none (all_rows table.sizes) table.cells k h i in
    let same : line_marks label none (get_or (all_rows table.sizes) k []) (shown table.values (get_or table.cells k 0)) ++ lines_from label table (none_after none (shown table.values (get_or table.cells k 0))) (k + 1) ≡ line_marks label none row found ++ rest =
    let back = sym is_found in (λ j. line_marks label none (is_row j) (back j) ++ lines_from label table (none_after none (back j)) (k + 1)) in
    ap₂ (λ (x : _) (b : Bool). fold takes x (lines_from label table b (k + 1))) put flag
    ∙ sym (fold_more takes s (line_marks label none row found) rest)
    ∙ ap (fold takes s) (sym (first ∙ same))
    ∙ inv

none_next : (table : CellTable) (none after goal : Bool) (k : ℕ) (found : Option ℕ) → k < length (all_rows table.sizes) → k < length table.cells → found ≡ shown table.values (get_or table.cells k 0) → none_from table none k ≡ goal → after ≡ none_after none found → none_from table after (k + 1) ≡ goal
none_next table none after goal k found h i is_found inv flag =
    ap (λ (b : Bool). none_from table b (k + 1)) (flag ∙ ap (none_after none) is_found)
    ∙ sym (none_first table.values none (all_rows table.sizes) table.cells k h i)
    ∙ inv

lines_end : (label : Label) (table : CellTable) (none : Bool) (k : ℕ) → length (all_rows table.sizes) ≤ k → (lines_from label table none k ≡ []) × (none_from table none k ≡ none)
lines_end label table none k h =
    let e = drop_all k (all_rows table.sizes) h in
    (ap (λ (rows : List (List ℕ)). lines label table.values none rows (drop k table.cells)) e, ap (λ (rows : List (List ℕ)). none_of table.values none rows (drop k table.cells)) e)

-- the loop has these rows to come: what is put so far and what is left make up all
pub record LinesAt (S : Type 0) (takes : S → Mark → S) (start now : S) (label : Label) (table : CellTable) (none : Bool) (rows : List (List ℕ)) : Type 0 where
  pub at : ℕ
  pub rows_are : rows ≡ drop at (all_rows table.sizes)
  pub marks : fold takes now (lines_from label table none at) ≡ fold takes start (lines_in label table)
  pub none_is : none_from table none at ≡ none_in table

pub lines_begin : (S : Type 0) (takes : S → Mark → S) (start : S) (label : Label) (table : CellTable) (rows : List (List ℕ)) → rows ≡ all_rows table.sizes → LinesAt S takes start start label table true rows
lines_begin S takes start label table rows e = record { at = 0; rows_are = e; marks = refl; none_is = refl }

pub lines_step : (S : Type 0) (takes : S → Mark → S) (start now last : S) (label : Label) (table : CellTable) (none after : Bool) (rows more : List (List ℕ)) (row : List ℕ) (found : Option ℕ) → IsFilled table → LinesAt S takes start now label table none rows → rows ≡ row ∷ drop 1 rows → found ≡ shown table.values (cell table row) → after ≡ none_after none found → last ≡ fold takes now (line_marks label none row found) → more ≡ drop 1 rows → LinesAt S takes start last label table after more
lines_step S takes start now last label table none after rows more row found filled l first is_found flag put next =
    let here = next_row table.sizes rows l.at row l.rows_are first in
    let in_cells : l.at < length table.cells = omega (arith, filled.count, length-all_rows table.sizes, here.below) in
    let found_is : found ≡ shown table.values (get_or table.cells l.at 0) = is_found ∙ ap (λ (k : ℕ). shown table.values (get_or table.cells k 0)) here.place_is in
    record {
      at = l.at + 1;
      rows_are = next ∙ here.rest;
      marks = lines_next takes now last (fold takes start (lines_in label table)) label table none after l.at row found here.below in_cells here.is_row found_is l.marks flag put;
      none_is = none_next table none after (none_in table) l.at found here.below in_cells found_is l.none_is flag;
    }

pub lines_done : (S : Type 0) (takes : S → Mark → S) (start now : S) (label : Label) (table : CellTable) (none : Bool) (rows : List (List ℕ)) → LinesAt S takes start now label table none rows → rows ≡ [] → (now ≡ fold takes start (lines_in label table)) × (none ≡ none_in table)
lines_done S takes start now label table none rows l end =
    let e = lines_end label table none l.at (all_taken (all_rows table.sizes) rows l.at l.rows_are end) in
    (ap (fold takes now) (sym e.0) ∙ l.marks, sym e.1 ∙ l.none_is)
