-- The loop that reads the lines of a table.
use Rattle.std.proofs.Common.{◌≡◌, ℕ, zero, suc, ◌+◌, ◌<◌, ◌≤◌, ◌≢◌, Bool, true, List, [], ◌∷◌, ◌++◌, length, take, drop, get_or, Option, None, Some, refl, sym, ap, ap₂, subst, ◌∙◌, append_assoc, append-nil, arith}
use Rattle.std.specs.List.{fold}
use Rattle.std.proofs.Math.ListN.{set, length-set}
use Rattle.std.proofs.lemmas.List.{drop_more, take_more_set, take_more, get_or-set_other, length-drop, length-take-le}
use Rattle.plain_tokens.specs.PlainTokens.{Plain}
use Rattle.plain_tokens.specs.Marks.{Mark}
use Rattle.kripke_text_definitions.specs.KripkeText.{Label}
use Rattle.kripke_text_laws.specs.steps.Labels.{row_length}
use Rattle.kripke_text_laws.proofs.Fits.{HaveLength}
use Rattle.kripke_text.specs.steps.Comparing.{matched}
use Rattle.kripke_text.specs.steps.Lines.{shown, line_marks, none_after, lines, none_of}
use Rattle.kripke_text.specs.steps.Reading.{Bounded, cell_of}
use Rattle.kripke_text.specs.steps.Reading.{TakesLine}
use Rattle.kripke_text.proofs.Folds.{fold_more}
use Rattle.kripke_text.proofs.Matching.{fold_comes}
use Rattle.kripke_text.proofs.ReadLines.{Suits, NotIn, AllApart, IsCell, body_from, found_is, cell_back}

-- ---- one more line at the end

lines_snoc : (label : Label) (values : Option ℕ) (none : Bool) (rows : List (List ℕ)) (cells : List ℕ) (row : List ℕ) (c : ℕ) → length rows ≡ length cells → lines label values none (rows ++ row ∷ []) (cells ++ c ∷ []) ≡ lines label values none rows cells ++ line_marks label (none_of values none rows cells) row (shown values c)
lines_snoc label values none [] [] row c h = append-nil (line_marks label none row (shown values c))
lines_snoc label values none [] (d ∷ cells) row c h = absurd (omega arith)
lines_snoc label values none (r ∷ rows) [] row c h = absurd (omega arith)
lines_snoc label values none (r ∷ rows) (d ∷ cells) row c h =
    ap (λ (ms : List Mark). line_marks label none r (shown values d) ++ ms) (lines_snoc label values (none_after none (shown values d)) rows cells row c (omega arith))
    ∙ sym (append_assoc (line_marks label none r (shown values d)) (lines label values (none_after none (shown values d)) rows cells) (line_marks label (none_of values (none_after none (shown values d)) rows cells) row (shown values c)))

none_snoc : (values : Option ℕ) (none : Bool) (rows : List (List ℕ)) (cells : List ℕ) (row : List ℕ) (c : ℕ) → length rows ≡ length cells → none_of values none (rows ++ row ∷ []) (cells ++ c ∷ []) ≡ none_after (none_of values none rows cells) (shown values c)
none_snoc values none [] [] row c h = refl
none_snoc values none [] (d ∷ cells) row c h = absurd (omega arith)
none_snoc values none (r ∷ rows) [] row c h = absurd (omega arith)
none_snoc values none (r ∷ rows) (d ∷ cells) row c h = none_snoc values (none_after none (shown values d)) rows cells row c (omega arith)

-- ---- the rows from a place on

have_at : (n : ℕ) (rows : List (List ℕ)) (k : ℕ) → HaveLength n rows → k < length rows → (length (get_or rows k []) ≡ n) × HaveLength n (drop (k + 1) rows)
have_at n [] k h i = absurd (omega arith)
have_at n (row ∷ rows) zero h i = (h.0, h.1)
have_at n (row ∷ rows) (suc k) h i =
    let t = have_at n rows k h.1 (omega arith) in
    let next : k + 1 ≡ suc k = omega arith in
    let after : suc k + 1 ≡ suc (suc k) = omega arith in
    (t.0, (rw after (rw next at t.1)))

apart_at : (rows : List (List ℕ)) (k : ℕ) → AllApart rows → k < length rows → NotIn (get_or rows k []) (drop (k + 1) rows)
apart_at [] k h i = absurd (omega arith)
apart_at (row ∷ rows) zero h i = h.0
apart_at (row ∷ rows) (suc k) h i =
    let t = apart_at rows k h.1 (omega arith) in
    let next : k + 1 ≡ suc k = omega arith in
    let after : suc k + 1 ≡ suc (suc k) = omega arith in
    rw after (rw next at t)

abbrev pub AllCells : Option ℕ → List ℕ → Type 0
AllCells values [] = Unit {0}
AllCells values (c ∷ cells) = IsCell values c × AllCells values cells

cell_at : (values : Option ℕ) (cells : List ℕ) (k : ℕ) → AllCells values cells → k < length cells → IsCell values (get_or cells k 0)
cell_at values [] k h i = absurd (omega arith)
cell_at values (c ∷ cells) zero h i = h.0
cell_at values (c ∷ cells) (suc k) h i = cell_at values cells k h.1 (omega arith)

-- ---- the loop

-- the loop has come to row k: what was taken is the lines of the cells so far; and the cells are those that are meant, if the tokens are the body of a table
pub record ReadsLines (label : Label) (values : Option ℕ) (rows : List (List ℕ)) (start now : Option (List Plain)) (none : Bool) (k : ℕ) (cells : List ℕ) : Type 0 where
  pub put : now ≡ fold matched start (lines label values true (take k rows) (take k cells))
  pub none_is : none ≡ none_of values true (take k rows) (take k cells)
  pub blank : (j : ℕ) → k ≤ j → j < length cells → get_or cells j 0 ≡ 0
  pub count : length cells ≡ length rows
  pub meant : (cs : List ℕ) → length cs ≡ length rows → AllCells values cs → start ≡ Some (body_from label values true rows cs) → (now ≡ Some (body_from label values none (drop k rows) (drop k cs))) × (take k cells ≡ take k cs)

-- what a row's step makes of the cells: found and written, or not found in a predicate's table
abbrev pub Steps : Option ℕ → Option ℕ → ℕ → List ℕ → List ℕ → Type 0
Steps values None k old new = (new ≡ old) × (values ≡ None)
Steps values (Some v) k old new = new ≡ set old k (cell_of values (Some v))

zero_shown : (values : Option ℕ) → values ≡ None → shown values 0 ≡ None
zero_shown None e = refl
zero_shown (Some size) e = absurd cc

some_shown : (values : Option ℕ) (v : ℕ) → Bounded values v → shown values (cell_of values (Some v)) ≡ Some v
some_shown None v h = ap Some (sym h)
some_shown (Some size) v h = refl

take_next : (cells : List ℕ) (k : ℕ) → k < length cells → take (k + 1) cells ≡ take k cells ++ get_or cells k 0 ∷ []
take_next cells k h = take_more cells k 0 h

-- the cells so far, and the one of this row
pub record OneCell (values found : Option ℕ) (k : ℕ) (old new : List ℕ) : Type 0 where
  pub c : ℕ
  pub shows : shown values c ≡ found
  pub grown : take (k + 1) new ≡ take k old ++ c ∷ []
  pub is : c ≡ cell_of values found
  pub count : length new ≡ length old
  pub blank : ((j : ℕ) → k ≤ j → j < length old → get_or old j 0 ≡ 0) → (j : ℕ) → k + 1 ≤ j → j < length new → get_or new j 0 ≡ 0

pub one_cell : (label : Label) (values found : Option ℕ) (none : Bool) (row : List ℕ) (k : ℕ) (old new : List ℕ) (one two : Option (List Plain)) → k < length old → ((j : ℕ) → k ≤ j → j < length old → get_or old j 0 ≡ 0) → TakesLine label values none row one two found → Steps values found k old new → OneCell values found k old new
one_cell label values None none row k old new one two h zeros takes steps = record {
  c = 0;
  shows = zero_shown values steps.1;
  grown = ap (take (k + 1)) steps.0 ∙ take_next old k h ∙ ap (λ (c : ℕ). take k old ++ c ∷ []) (zeros k (omega arith) h);
  is = refl;
  count = ap length steps.0;
  blank = λ blank j less below. ap (λ (cs : List ℕ). get_or cs j 0) steps.0 ∙ blank j (omega arith) (omega (arith, ap length steps.0));
}
one_cell label values (Some v) none row k old new one two h zeros takes steps = record {
  c = cell_of values (Some v);
  shows = some_shown values v takes.1;
  grown = ap (take (k + 1)) steps ∙ take_more_set old k (cell_of values (Some v)) h;
  is = refl;
  count = ap length steps ∙ length-set old k (cell_of values (Some v));
  blank = λ blank j less below.
      let other : j ≢ k = omega arith in
      let long : length new ≡ length old = ap length steps ∙ length-set old k (cell_of values (Some v)) in
      ap (λ (cs : List ℕ). get_or cs j 0) steps ∙ get_or-set_other old k j (cell_of values (Some v)) 0 other ∙ blank j (omega arith) (omega (arith, long));
}

line_put : (label : Label) (values : Option ℕ) (none : Bool) (row : List ℕ) (now new : Option (List Plain)) (found : Option ℕ) → TakesLine label values none row now new found → new ≡ fold matched now (line_marks label none row found)
line_put label values none row now new None takes = takes.0
line_put label values none row now new (Some v) takes =
    takes.3 ∙ sym (fold_comes (line_marks label none row (Some v)) now (fold matched now (line_marks label none row (Some v))) takes.0 refl takes.2)

pub reads_step : (label : Label) (values : Option ℕ) (rows : List (List ℕ)) (start now new : Option (List Plain)) (none : Bool) (k : ℕ) (row : List ℕ) (found : Option ℕ) (old cells : List ℕ) → k < length rows → get_or rows k [] ≡ row → Suits label values → HaveLength (row_length label) rows → AllApart rows → ReadsLines label values rows start now none k old → TakesLine label values none row now new found → Steps values found k old cells → ReadsLines label values rows start new (none_after none found) (k + 1) cells
reads_step label values rows start now new none k row found old cells h is_row suits long out r takes steps =
    let below : k < length old = omega (arith, r.count) in
    let one = one_cell label values found none row k old cells now new below r.blank takes steps in
    let fronts : length (take k rows) ≡ length (take k old) = omega (arith, length-take-le k rows (omega arith), length-take-le k old (omega arith)) in
    let more_rows : take (k + 1) rows ≡ take k rows ++ row ∷ [] = take_more rows k [] h ∙ ap (λ (x : List ℕ). take k rows ++ x ∷ []) is_row in
    let here = have_at (row_length label) rows k long h in
    let row_long : length row ≡ row_length label = ap length (sym is_row) ∙ here.0 in
    let row_out : NotIn row (drop (k + 1) rows) = subst (λ (x : List ℕ). NotIn x (drop (k + 1) rows)) is_row (apart_at rows k out h) in
    record {
      put =
          line_put label values none row now new found takes
          ∙ ap₂ (λ (o : Option (List Plain)) (b : Bool). fold matched o (line_marks label b row found)) r.put r.none_is
          ∙ ap (λ (f : Option ℕ). fold matched (fold matched start (lines label values true (take k rows) (take k old))) (line_marks label (none_of values true (take k rows) (take k old)) row f)) (sym one.shows)
          ∙ sym (fold_more matched start (lines label values true (take k rows) (take k old)) (line_marks label (none_of values true (take k rows) (take k old)) row (shown values one.c)))
          ∙ ap (fold matched start) (sym (lines_snoc label values true (take k rows) (take k old) row one.c fronts) ∙ ap₂ (lines label values true) (sym more_rows) (sym one.grown));
      none_is =
          ap (λ (b : Bool). none_after b found) r.none_is
          ∙ ap (none_after (none_of values true (take k rows) (take k old))) (sym one.shows)
          ∙ sym (none_snoc values true (take k rows) (take k old) row one.c fronts)
          ∙ ap₂ (none_of values true) (sym more_rows) (sym one.grown);
      blank = one.blank r.blank;
      count = one.count ∙ r.count;
      meant = λ cs len good e.
          let m = r.meant cs len good e in
          let in_cs : k < length cs = omega arith in
          let c = get_or cs k 0 in
          let first : body_from label values none (drop k rows) (drop k cs) ≡ body_from label values none (row ∷ drop (k + 1) rows) (c ∷ drop (k + 1) cs) =
          ap₂ (body_from label values none) (drop_more rows k [] h ∙ ap (λ (x : List ℕ). x ∷ drop (k + 1) rows) is_row) (drop_more cs k 0 in_cs) in
          let f = found_is label values none row (drop (k + 1) rows) c (drop (k + 1) cs) now new found suits row_long here.1 row_out (omega (arith, length-drop (k + 1) rows, length-drop (k + 1) cs)) (cell_at values cs k good in_cs) (m.0 ∙ ap Some first) takes in
          let same : one.c ≡ c = one.is ∙ ap (cell_of values) f.is ∙ cell_back values c (cell_at values cs k good in_cs) in
          (f.left, one.grown ∙ ap₂ (λ (xs : List ℕ) (x : ℕ). xs ++ x ∷ []) m.1 same ∙ sym (take_next cs k in_cs));
    }

-- in a function's table a row without its literal is of no table
pub no_value_here : (label : Label) (size : ℕ) (rows : List (List ℕ)) (start now new : Option (List Plain)) (none : Bool) (k : ℕ) (row : List ℕ) (old cs : List ℕ) → k < length rows → get_or rows k [] ≡ row → Suits label (Some size) → HaveLength (row_length label) rows → AllApart rows → ReadsLines label (Some size) rows start now none k old → TakesLine label (Some size) none row now new None → length cs ≡ length rows → AllCells (Some size) cs → start ≡ Some (body_from label (Some size) true rows cs) → ⊥
no_value_here label size rows start now new none k row old cs h is_row suits long out r takes len good e =
    let m = r.meant cs len good e in
    let in_cs : k < length cs = omega arith in
    let c = get_or cs k 0 in
    let here = have_at (row_length label) rows k long h in
    let row_long : length row ≡ row_length label = ap length (sym is_row) ∙ here.0 in
    let row_out : NotIn row (drop (k + 1) rows) = subst (λ (x : List ℕ). NotIn x (drop (k + 1) rows)) is_row (apart_at rows k out h) in
    let first : body_from label (Some size) none (drop k rows) (drop k cs) ≡ body_from label (Some size) none (row ∷ drop (k + 1) rows) (c ∷ drop (k + 1) cs) =
    ap₂ (body_from label (Some size) none) (drop_more rows k [] h ∙ ap (λ (x : List ℕ). x ∷ drop (k + 1) rows) is_row) (drop_more cs k 0 in_cs) in
    let f = found_is label (Some size) none row (drop (k + 1) rows) c (drop (k + 1) cs) now new None suits row_long here.1 row_out (omega (arith, length-drop (k + 1) rows, length-drop (k + 1) cs)) (cell_at (Some size) cs k good in_cs) (m.0 ∙ ap Some first) takes in
    none_some c f.is
  where
    none_some : (c : ℕ) → None ≡ Some c → ⊥
    none_some c e = cc
