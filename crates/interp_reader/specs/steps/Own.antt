-- The rows of constants that closures list.
use Rattle.std.specs.Prelude.{ℕ, nat_eq, if◌then◌else◌, List, [], ◌∷◌, ◌++◌, Option, None, Some, Result, OnOk}
use Rattle.nxf_tree.specs.declared.tree.TableEntry.{TableEntry}
use Rattle.interpretation_definitions.specs.declared.element.Element.{Element}
use Rattle.interpretation_definitions.specs.Context.{element}
use Rattle.interpretation_definitions.specs.Given.{Given, own_row}
use Rattle.interpretation_parts.specs.declared.context.Context.{Context as Held}
use Rattle.interpretation_parts.specs.steps.Held.{context_in, HasRows}

-- the number of the element, where the symbol is a constant of its sort
abbrev pub own_value : List ℕ → Option ℕ → Option Element → Option ℕ
own_value args gives None = None
own_value [] None (Some e) = None
own_value [] (Some sort) (Some e) = if nat_eq sort e.sort then Some e.number else None
own_value (arg ∷ args) gives (Some e) = None

-- the row of a constant, where it has a value
abbrev pub row_at : ℕ → Option ℕ → List Given
row_at place None = []
row_at place (Some value) = record { place = place; row = []; value = value } ∷ []

-- the row of a symbol that is listed as a constant
abbrev pub own_row_in : Held → ℕ → TableEntry → List Given
own_row_in held place entry = own_row place entry.args entry.gives (element (context_in held) entry.name)

-- without want of memory these rows are given too, before the others
abbrev pub GivesFirst : {E : Type 0} → Result (Unit {0}) E → List (List ℕ × ℕ) → List Given → List (List ℕ × ℕ) → Type 0
GivesFirst answer old more new = (given : List Given) → HasRows old given → OnOk answer (HasRows new (more ++ given))
