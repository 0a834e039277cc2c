-- The rows that parts and closures state.
use Rattle.std.specs.Prelude.{ℕ, suc, Bool, ◌&&◌, nat_eq, if◌then◌else◌, List, [], ◌∷◌, ◌++◌, map, flat_map, filter_map, Option, None, Some}
use Rattle.nxf_tree.specs.declared.tree.TableEntry.{TableEntry}
use Rattle.nxf_tree.specs.Names.{same_text}
use Rattle.interpretation_definitions.specs.declared.element.Element.{Element}
use Rattle.interpretation_definitions.specs.Parts.{Argument, plain_name, Part, Formless, Declares, Closes, Applies, Equates, Differs, AllDiffer, SaysNothing}
use Rattle.interpretation_definitions.specs.Context.{Context, element, symbol}

-- a row of the symbol with the number: of a predicate, 1 for a true one and 0 for another; of a function, the number of the value
pub record Given : Type 0 where
  pub place : ℕ
  pub row : List ℕ
  pub value : ℕ

-- the value of the first row with the place and the numbers
abbrev pub value_in : List Given → ℕ → List ℕ → Option ℕ
value_in [] place row = None
value_in (given ∷ more) place row = if nat_eq given.place place && same_text given.row row then Some given.value else value_in more place row

-- the element that an argument names
abbrev pub named : Context → Option (List ℕ) → Option Element
named context None = None
named context (Some name) = element context name

abbrev pub element_of : Context → Argument → Option Element
element_of context arg = named context (plain_name arg)

-- the elements that the arguments name; where there is no fault each names one
abbrev pub elements_of : Context → List Argument → List Element
elements_of context = filter_map (element_of context)

abbrev pub numbers_of : List Element → List ℕ
numbers_of = map (λ e. e.number)

-- the row alone
abbrev pub row_given : ℕ → List ℕ → ℕ → List Given
row_given place row value = record { place = place; row = row; value = value } ∷ []

-- the row of a known symbol, and none of an extra one
abbrev pub row_of : Option (ℕ × TableEntry) → List ℕ → ℕ → List Given
row_of None row value = []
row_of (Some known) row value = row_given known.0 row value

-- the row of a function, with the element that is its value
abbrev pub row_with : ℕ × TableEntry → Option ℕ → List ℕ → Option Element → List Given
row_with known None row value = []
row_with known (Some sort) row None = []
row_with known (Some sort) row (Some e) = row_given known.0 row e.number

abbrev pub valued_row : Option (ℕ × TableEntry) → List ℕ → Option Element → List Given
valued_row None row value = []
valued_row (Some known) row value = row_with known known.1.gives row value

abbrev pub bit : Bool → ℕ
bit truth = if truth then 1 else 0

-- the rows that a part states
abbrev pub stated : Context → Part → List Given
stated context Formless = []
stated context (Declares t) = []
stated context (Closes s names) = []
stated context (Applies truth p args) = row_of (symbol context p) (numbers_of (elements_of context args)) (bit truth)
stated context (Equates f args value) = valued_row (symbol context f) (numbers_of (elements_of context args)) (element_of context value)
stated context (Differs left right) = []
stated context (AllDiffer args) = []
stated context SaysNothing = []

-- a constant that is listed for its own sort is that element
abbrev pub own_row : ℕ → List ℕ → Option ℕ → Option Element → List Given
own_row place args gives None = []
own_row place [] None (Some e) = []
own_row place [] (Some sort) (Some e) = if nat_eq sort e.sort then row_given place [] e.number else []
own_row place (arg ∷ args) gives (Some e) = []

abbrev pub own_rows_from : ℕ → Context → List TableEntry → List Given
own_rows_from place context [] = []
own_rows_from place context (entry ∷ entries) = own_row place entry.args entry.gives (element context entry.name) ++ own_rows_from (suc place) context entries

-- the rows that closures state, from the first statement on
abbrev pub own_rows : Context → List Given
own_rows context = own_rows_from 0 context context.symbols

-- all rows that are given when these parts were read
abbrev pub given_by : Context → List Part → List Given
given_by context parts = own_rows context ++ flat_map (stated context) parts
