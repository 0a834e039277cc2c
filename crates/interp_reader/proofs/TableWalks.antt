-- A walk over the rows of a table, one row more.
use Rattle.std.proofs.Common.{◌≡◌, ◌≢◌, ◌<◌, ◌≤◌, ◌⊎◌, inl, inr, ℕ, zero, suc, ◌+◌, true, false, List, [], ◌∷◌, drop, eqb, length, get_or, Option, Some, refl, ap, ◌∙◌, sym, subst, arith}
use Rattle.std.specs.Prelude.{◌&&◌, is_some, unwrap_or}
use Rattle.std.proofs.lemmas.Bool.Decides.{eqb_tells}
use Rattle.std.proofs.lemmas.List.{length-drop}
use Rattle.nxf_tree.specs.Rows.{all_rows}
use Rattle.fin_struct.specs.Cells.{CellTable, OthersStay, bound_of, cell, no_table, table_at, with_row}
use Rattle.fin_struct.specs.Places.{InRange, place, rows_count}
use Rattle.fin_struct.specs.RowLists.{AreFilled, shape_of, shapes_of}
use Rattle.fin_struct.specs.StructureTables.{StructureTables}
use Rattle.fin_struct.proofs.CallerLemmas.{all_rows-at, length-all_rows, place-row_at, row_at, row_at-in_range, written_filled, walk-next}
use Rattle.interpretation_parts.proofs.CallerLemmas.{map_length}
use Rattle.interp_reader.specs.steps.Filling.{IsAt, IsFilledTo, has_all, row_value, row_value_or_0}

pub shape_at : (tables : List CellTable) (t : ℕ) → get_or (shapes_of tables) t (shape_of no_table) ≡ shape_of (table_at tables t)
shape_at [] t = refl
shape_at (x ∷ tables) zero = refl
shape_at (x ∷ tables) (suc t) = shape_at tables t

-- tables of the same shapes have the same sizes and bounds
pub same_sizes : (xs ys : List CellTable) (t : ℕ) → shapes_of xs ≡ shapes_of ys → (table_at xs t).sizes ≡ (table_at ys t).sizes
same_sizes xs ys t h = ap (λ s. s.sizes) (sym (shape_at xs t) ∙ ap (λ ss. get_or ss t (shape_of no_table)) h ∙ shape_at ys t)

pub same_values : (xs ys : List CellTable) (t : ℕ) → shapes_of xs ≡ shapes_of ys → (table_at xs t).values ≡ (table_at ys t).values
same_values xs ys t h = ap (λ s. s.values) (sym (shape_at xs t) ∙ ap (λ ss. get_or ss t (shape_of no_table)) h ∙ shape_at ys t)

pub same_count : (xs ys : List CellTable) → shapes_of xs ≡ shapes_of ys → length xs ≡ length ys
same_count xs ys h = map_length shape_of xs ∙ ap length h ∙ sym (map_length shape_of ys)

-- before the first row
pub at_first : (entries : List (List ℕ × ℕ)) (t : ℕ) (walk : List (List ℕ)) (old : StructureTables) → walk ≡ all_rows (table_at old.tables t).sizes → IsAt entries t walk old old
at_first entries t walk old is = record {
  at = 0;
  left = is;
  filled = record { sizes_stay = refl; actual_stays = refl; shapes_stay = refl; whole_stays = λ whole. whole; filled = λ row in_range below. absurd (omega arith); others = λ u row other in_range. refl };
  all = ap (has_all entries (t + 1)) (sym is);
}

head_of : (xs : List (List ℕ)) (i : ℕ) (x : List ℕ) (rest : List (List ℕ)) → drop i xs ≡ x ∷ rest → (i < length xs) × (get_or xs i [] ≡ x)
head_of [] zero x rest h = cc
head_of [] (suc i) x rest h = cc
head_of (y ∷ xs) zero x rest h = (omega arith, cc)
head_of (y ∷ xs) (suc i) x rest h = let more = head_of xs i x rest h in (omega (arith, more.0), more.1)

-- the next row of a walk
pub record IsNext (sizes row : List ℕ) (at : ℕ) : Type 0 where
  pub in_range : InRange sizes row
  pub place_is : place sizes row ≡ at
  pub stands : get_or (all_rows sizes) at [] ≡ row

pub next_row : (sizes : List ℕ) (at : ℕ) (row : List ℕ) (rest walk : List (List ℕ)) → walk ≡ drop at (all_rows sizes) → walk ≡ row ∷ rest → IsNext sizes row at
next_row sizes at row rest walk left is =
    let head = head_of (all_rows sizes) at row rest (sym left ∙ is) in
    let lt : at < rows_count sizes = omega (arith, head.0, length-all_rows sizes) in
    let in_range = row_at-in_range sizes at lt in
    let place_is = place-row_at sizes at lt in
    let same = sym (ap (λ k. get_or (all_rows sizes) k []) place_is) in
    let row_is : row_at sizes at ≡ row = sym (all_rows-at sizes (row_at sizes at) in_range) ∙ sym same ∙ head.1 in
    record { in_range = subst (InRange sizes) row_is in_range; place_is = ap (place sizes) (sym row_is) ∙ place_is; stands = head.1 }

-- one row more
pub at_next : (entries : List (List ℕ × ℕ)) (t : ℕ) (walk new_walk : List (List ℕ)) (old mid new : StructureTables) (row : List ℕ) (value : ℕ) → IsAt entries t walk old mid → walk ≡ row ∷ drop 1 walk
    → new_walk ≡ drop 1 walk → t < length old.tables → value < bound_of (table_at old.tables t).values → row_value entries (t + 1) row ≡ Some value
    → new ≡ record mid { tables = with_row mid.tables t row value } → shapes_of new.tables ≡ shapes_of mid.tables
    → cell (table_at new.tables t) row ≡ value → OthersStay mid.tables new.tables t row → IsAt entries t new_walk old new
at_next entries t walk new_walk old mid new row value before first rest lt below some written shapes there alone = record {
  at = before.at + 1;
  left = rest ∙ ap (drop 1) before.left ∙ sym (walk-next (table_at old.tables t).sizes before.at);
  filled = record {
    sizes_stay = ap (λ (s : StructureTables). s.sizes) written ∙ before.filled.sizes_stay;
    actual_stays = ap (λ (s : StructureTables). s.actual) written ∙ before.filled.actual_stays;
    shapes_stay = shapes ∙ before.filled.shapes_stay;
    whole_stays = λ whole. subst AreFilled (sym (ap (λ (s : StructureTables). s.tables) written))
        (written_filled mid.tables t row value (omega (arith, lt, same_count mid.tables old.tables before.filled.shapes_stay)) (before.filled.whole_stays whole)
        (subst (λ (o : Option ℕ). value < bound_of o) (sym (same_values mid.tables old.tables t before.filled.shapes_stay)) below));
    filled = λ r in_range below. cases r in_range below (eqb_tells (place (table_at old.tables t).sizes r) before.at);
    others = λ u r other in_range. alone u r (in_mid u r in_range) (λ both. other both.0) ∙ before.filled.others u r other in_range;
  };
  all = before.all ∙ ap (has_all entries (t + 1)) first ∙ ap (λ o. is_some o && has_all entries (t + 1) (drop 1 walk)) some ∙ ap (has_all entries (t + 1)) (sym rest);
}
  where
    next : IsNext (table_at old.tables t).sizes row before.at
    next = next_row (table_at old.tables t).sizes before.at row (drop 1 walk) walk before.left first

    in_mid : (u : ℕ) (r : List ℕ) → InRange (table_at old.tables u).sizes r → InRange (table_at mid.tables u).sizes r
    in_mid u r h = subst (λ s. InRange s r) (sym (same_sizes mid.tables old.tables u before.filled.shapes_stay)) h

    cases : (r : List ℕ) → InRange (table_at old.tables t).sizes r → place (table_at old.tables t).sizes r < before.at + 1
        → ((eqb (place (table_at old.tables t).sizes r) before.at ≡ true) × (place (table_at old.tables t).sizes r ≡ before.at)) ⊎ ((eqb (place (table_at old.tables t).sizes r) before.at ≡ false) × (place (table_at old.tables t).sizes r ≢ before.at))
        → cell (table_at new.tables t) r ≡ row_value_or_0 entries (t + 1) r
    cases r in_range below (inl h) =
        let same : row ≡ r = sym next.stands ∙ sym (ap (λ k. get_or (all_rows (table_at old.tables t).sizes) k []) h.1) ∙ all_rows-at (table_at old.tables t).sizes r in_range in
        subst (λ q. cell (table_at new.tables t) q ≡ row_value_or_0 entries (t + 1) q) same (there ∙ sym (ap (λ o. unwrap_or o 0) some))
    cases r in_range below (inr h) =
        let lt : place (table_at old.tables t).sizes r < before.at = omega (arith, below, h.1) in
        alone t r (in_mid t r in_range) (λ both. h.1 (ap (place (table_at old.tables t).sizes) both.1 ∙ next.place_is)) ∙ before.filled.filled r in_range lt

-- after the last row
pub at_end : (entries : List (List ℕ × ℕ)) (t : ℕ) (walk : List (List ℕ)) (old new : StructureTables) → IsAt entries t walk old new → walk ≡ [] → IsFilledTo entries t (rows_count (table_at old.tables t).sizes) old new
at_end entries t walk old new before none = record {
  sizes_stay = before.filled.sizes_stay;
  actual_stays = before.filled.actual_stays;
  shapes_stay = before.filled.shapes_stay;
  whole_stays = before.filled.whole_stays;
  filled = λ r in_range below. before.filled.filled r in_range (omega (arith, below, end));
  others = before.filled.others;
}
  where
    none_left : length (drop before.at (all_rows (table_at old.tables t).sizes)) ≡ 0
    none_left = ap length (sym before.left ∙ none)

    end : rows_count (table_at old.tables t).sizes ≤ before.at
    end = omega (arith, none_left, length-drop before.at (all_rows (table_at old.tables t).sizes), length-all_rows (table_at old.tables t).sizes)
