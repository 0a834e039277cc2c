-- Tables filled one after the other.
use Rattle.std.proofs.Common.{◌≡◌, ◌<◌, eq-eqb, true≢false, ℕ, suc, ◌+◌, Bool, true, false, List, [], ◌∷◌, drop, length, get_or, None, Some, refl, ap, ◌∙◌, sym, arith}
use Rattle.std.specs.Prelude.{◌||◌, unwrap_or, if◌then◌else◌}
use Rattle.std.proofs.lemmas.List.{at_drop_more}
use Rattle.nxf_tree.specs.declared.tree.TableEntry.{TableEntry}
use Rattle.nxf_tree.specs.Names.{same_text}
use Rattle.interpretation_definitions.specs.Interpretation.{GivenRows, incomplete_from, is_incomplete}
use Rattle.interpretation_parts.proofs.CallerLemmas.{same_text-true}
use Rattle.fin_struct.specs.Cells.{cell, table_at}
use Rattle.fin_struct.specs.Places.{InRange}
use Rattle.fin_struct.specs.StructureTables.{StructureTables}
use Rattle.interp_reader.specs.steps.Filling.{begins_at, has_place, row_value, IsFilledTo}

-- where no key begins with the number, no row of the symbol has a value
pub none_there : (entries : List (List ℕ × ℕ)) (k : ℕ) (row : List ℕ) → has_place entries k ≡ false → row_value entries k row ≡ None
none_there [] k row h = refl
none_there (e ∷ entries) k row h = by (same_text (k ∷ row) e.0) refl (none_there entries k row (both (begins_at k e.0) (has_place entries k) h).1)
  where
    both : (a b : Bool) → a || b ≡ false → (a ≡ false) × (b ≡ false)
    both true b g = cc
    both false b g = (refl, g)

    by : (b : Bool) → same_text (k ∷ row) e.0 ≡ b → row_value entries k row ≡ None → (if b then Some e.1 else row_value entries k row) ≡ None
    by false g more = more
    by true g more =
        let same = same_text-true (k ∷ row) e.0 g in
        let yes : begins_at k e.0 ≡ true = sym (ap (begins_at k) same) ∙ eq-eqb k k refl in
        let no : begins_at k e.0 ≡ false = (both (begins_at k e.0) (has_place entries k) h).0 in
        absurd (true≢false (sym yes ∙ no))

-- one table more, of which no row is missing
pub complete_next : (sizes : List ℕ) (given : GivenRows) (tables : List TableEntry) (i : ℕ) (d : TableEntry) → i < length tables → is_incomplete sizes given (i + 1) (get_or tables i d) ≡ false
    → incomplete_from (i + 1) sizes given (drop i tables) ≡ incomplete_from (i + 1 + 1) sizes given (drop (i + 1) tables)
complete_next sizes given tables i d lt all_there =
    let next : suc (i + 1) ≡ i + 1 + 1 = omega arith in
    at_drop_more (incomplete_from (i + 1) sizes given) tables i d lt
    ∙ ap (λ b. if b then Some (get_or tables i d).name else incomplete_from (suc (i + 1)) sizes given (drop (i + 1) tables)) all_there
    ∙ ap (λ k. incomplete_from k sizes given (drop (i + 1) tables)) next

-- the first table of which some row is missing
pub complete_found : (sizes : List ℕ) (given : GivenRows) (tables : List TableEntry) (i : ℕ) (d : TableEntry) → i < length tables → is_incomplete sizes given (i + 1) (get_or tables i d) ≡ true
    → incomplete_from (i + 1) sizes given (drop i tables) ≡ Some (get_or tables i d).name
complete_found sizes given tables i d lt missing =
    at_drop_more (incomplete_from (i + 1) sizes given) tables i d lt
    ∙ ap (λ b. if b then Some (get_or tables i d).name else incomplete_from (suc (i + 1)) sizes given (drop (i + 1) tables)) missing

-- a blank table of which no row is given is filled
pub blank_filled : (entries : List (List ℕ × ℕ)) (t : ℕ) (at : ℕ) (S : StructureTables) → has_place entries (t + 1) ≡ false
    → ((row : List ℕ) → InRange (table_at S.tables t).sizes row → cell (table_at S.tables t) row ≡ 0) → IsFilledTo entries t at S S
blank_filled entries t at S none blank = record {
  sizes_stay = refl;
  actual_stays = refl;
  shapes_stay = refl;
  whole_stays = λ whole. whole;
  filled = λ row in_range below. blank row in_range ∙ sym (ap (λ o. unwrap_or o 0) (none_there entries (t + 1) row none));
  others = λ u row other in_range. refl;
}
