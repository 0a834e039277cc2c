-- The rows of listed constants, as the map has them.
use Rattle.std.proofs.Common.{◌≡◌, ◌<◌, ℕ, ◌+◌, ◌-◌, suc, Bool, true, false, List, [], ◌∷◌, ◌++◌, drop, length, get_or, nat_eq, Option, None, Some, refl, ap, ◌∙◌, arith}
use Rattle.std.specs.Prelude.{if◌then◌else◌}
use Rattle.std.specs.Map.{lookup}
use Rattle.std.proofs.lemmas.List.{at_drop_more}
use Rattle.nxf_tree.specs.declared.tree.TableEntry.{TableEntry}
use Rattle.nxf_tree.specs.Names.{same_text}
use Rattle.interpretation_definitions.specs.declared.element.Element.{Element}
use Rattle.interpretation_definitions.specs.Context.{Context, element}
use Rattle.interpretation_definitions.specs.Given.{Given, own_row, own_rows_from, value_in}
use Rattle.interpretation_parts.specs.steps.Held.{HasRows}
use Rattle.interpretation_parts.specs.steps.Tables.{written}
use Rattle.interpretation_parts.proofs.CallerLemmas.{same_text-sym}
use Rattle.interp_reader.specs.steps.Own.{own_value, row_at}

-- a row in front of the others
pub has_rows_front : (old new : List (List ℕ × ℕ)) (given : List Given) (g : Given) → HasRows old given
    → ((q : List ℕ) → lookup (same_text q) new ≡ written q (g.place ∷ g.row) g.value (lookup (same_text q) old)) → HasRows new (g ∷ given)
has_rows_front old new given g has writes place row =
    writes (place ∷ row) ∙ ap (written (place ∷ row) (g.place ∷ g.row) g.value) (has place row)
    ∙ ap (λ b. if b then Some g.value else value_in given place row) (same_text-sym (place ∷ row) (g.place ∷ g.row))

pub own_is : (place : ℕ) (args : List ℕ) (gives : Option ℕ) (e : Option Element) → own_row place args gives e ≡ row_at place (own_value args gives e)
own_is place args gives None = refl
own_is place [] None (Some e) = refl
own_is place [] (Some sort) (Some e) = by (nat_eq sort e.sort)
  where
    by : (b : Bool) → (if b then record { place = place; row = []; value = e.number } ∷ [] else []) ≡ row_at place (if b then Some e.number else None)
    by true = refl
    by false = refl
own_is place (arg ∷ args) gives (Some e) = refl

-- the rows of the tables from number i on
pub own-next : (c : Context) (tables : List TableEntry) (i : ℕ) (d : TableEntry) → 0 < i → i - 1 < length tables
    → own_rows_from (i - 1 + 1) c (drop (i - 1) tables) ≡ own_row (i - 1 + 1) (get_or tables (i - 1) d).args (get_or tables (i - 1) d).gives (element c (get_or tables (i - 1) d).name) ++ own_rows_from (i + 1) c (drop i tables)
own-next c tables i d some lt =
    at_drop_more (own_rows_from (i - 1 + 1) c) tables (i - 1) d lt
    ∙ ap (λ l. first ++ l) (ap (λ k. own_rows_from (suc k) c (drop k tables)) same ∙ ap (λ n. own_rows_from n c (drop i tables)) more)
  where
    same : i - 1 + 1 ≡ i
    same = omega arith

    more : suc i ≡ i + 1
    more = omega arith

    first : List Given
    first = own_row (i - 1 + 1) (get_or tables (i - 1) d).args (get_or tables (i - 1) d).gives (element c (get_or tables (i - 1) d).name)
