-- The rows of the map are the rows that are given.
use Rattle.std.proofs.Common.{◌≡◌, true≢false, ℕ, Bool, true, false, List, [], ◌∷◌, nat_eq, Option, None, Some, refl, ap, ◌∙◌, sym, subst}
use Rattle.std.proofs.Math.Path.{fun_ext}
use Rattle.std.specs.Prelude.{◌&&◌, ◌||◌, is_some, if◌then◌else◌}
use Rattle.std.specs.List.{list_any}
use Rattle.std.proofs.lemmas.Bool.{eqb-true}
use Rattle.nxf_tree.specs.Names.{same_text}
use Rattle.name_laws.proofs.Spelling.{same_text-refl}
use Rattle.interpretation_definitions.specs.Given.{Given, value_in}
use Rattle.interpretation_definitions.specs.Interpretation.{GivenRows, rows_given}
use Rattle.interpretation_parts.specs.steps.Held.{HasRows}
use Rattle.interp_reader.specs.steps.Filling.{begins_at, has_place, row_value, rows_in}
use Rattle.interp_reader.proofs.FillLemmas.{none_there}

-- some row has a value
record HasRow (value : List ℕ → Option ℕ) : Type 0 where
  row : List ℕ
  there : is_some (value row) ≡ true

-- a symbol of which some row is in the map has a row there
own_key : (k : ℕ) (key : List ℕ) (v : ℕ) (more : List (List ℕ × ℕ)) → begins_at k key ≡ true → HasRow (row_value ((key, v) ∷ more) k)
own_key k [] v more h = cc
own_key k (p ∷ row) v more h = record { row = row; there = ap (λ b. is_some (if b then Some v else row_value more k row)) same }
  where
    same : same_text (k ∷ row) (p ∷ row) ≡ true
    same = subst (λ q. same_text (k ∷ row) (q ∷ row) ≡ true) (eqb-true k p h) (same_text-refl (k ∷ row))

later_key : (k : ℕ) (e : List ℕ × ℕ) (more : List (List ℕ × ℕ)) → HasRow (row_value more k) → HasRow (row_value (e ∷ more) k)
later_key k e more has = record { row = has.row; there = by (same_text (k ∷ has.row) e.0) }
  where
    by : (b : Bool) → is_some (if b then Some e.1 else row_value more k has.row) ≡ true
    by true = refl
    by false = has.there

some_there : (entries : List (List ℕ × ℕ)) (k : ℕ) → has_place entries k ≡ true → HasRow (row_value entries k)
some_there [] k h = cc
some_there (e ∷ entries) k h = by (λ g. some_there entries k g) (begins_at k e.0) refl h
  where
    by : (has_place entries k ≡ true → HasRow (row_value entries k)) → (b : Bool) → begins_at k e.0 ≡ b → b || has_place entries k ≡ true → HasRow (row_value (e ∷ entries) k)
    by more true is g = own_key k e.0 e.1 entries is
    by more false is g = later_key k e entries (more g)

-- the same for the rows that are given
abbrev any_given : List Given → ℕ → Bool
any_given given k = list_any (λ (g : Given). nat_eq g.place k) given

none_given : (given : List Given) (k : ℕ) (row : List ℕ) → any_given given k ≡ false → value_in given k row ≡ None
none_given [] k row h = refl
none_given (g ∷ given) k row h = by (λ is. none_given given k row is) (nat_eq g.place k) h
  where
    by : (any_given given k ≡ false → value_in given k row ≡ None) → (b : Bool) → b || any_given given k ≡ false → (if b && same_text g.row row then Some g.value else value_in given k row) ≡ None
    by more true is = cc
    by more false is = more is

some_given : (given : List Given) (k : ℕ) → any_given given k ≡ true → HasRow (value_in given k)
some_given [] k h = cc
some_given (g ∷ given) k h = by (λ is. some_given given k is) (nat_eq g.place k) refl h
  where
    later : HasRow (value_in given k) → HasRow (value_in (g ∷ given) k)
    later has = record { row = has.row; there = either (nat_eq g.place k && same_text g.row has.row) }
      where
        either : (b : Bool) → is_some (if b then Some g.value else value_in given k has.row) ≡ true
        either true = refl
        either false = has.there

    by : (any_given given k ≡ true → HasRow (value_in given k)) → (b : Bool) → nat_eq g.place k ≡ b → b || any_given given k ≡ true → HasRow (value_in (g ∷ given) k)
    by more true is other = record {
      row = g.row;
      there = ap (λ b. is_some (if b && same_text g.row g.row then Some g.value else value_in given k g.row)) is
          ∙ ap (λ b. is_some (if b then Some g.value else value_in given k g.row)) (same_text-refl g.row);
    }
    by more false is other = later (more other)

any_same : (entries : List (List ℕ × ℕ)) (given : List Given) → HasRows entries given → (k : ℕ) → has_place entries k ≡ any_given given k
any_same entries given has k = by (has_place entries k) refl (any_given given k) refl
  where
    by : (a : Bool) → has_place entries k ≡ a → (b : Bool) → any_given given k ≡ b → has_place entries k ≡ any_given given k
    by true h true g = h ∙ sym g
    by false h false g = h ∙ sym g
    by true h false g =
        let some = some_there entries k h in
        absurd (true≢false (sym some.there ∙ ap is_some (has k some.row ∙ none_given given k some.row g)))
    by false h true g =
        let some = some_given given k g in
        absurd (true≢false (sym some.there ∙ ap is_some (sym (has k some.row) ∙ none_there entries k some.row h)))

pub same_rows : (entries : List (List ℕ × ℕ)) (given : List Given) → HasRows entries given → rows_in entries ≡ rows_given given
same_rows entries given has = ap with_values (fun_ext (λ place. fun_ext (λ row. has place row))) ∙ ap with_places (fun_ext (λ place. any_same entries given has place))
  where
    with_values : (ℕ → List ℕ → Option ℕ) → GivenRows
    with_values value = record { any = has_place entries; value = value }

    with_places : (ℕ → Bool) → GivenRows
    with_places any = record { any = any; value = value_in given }
