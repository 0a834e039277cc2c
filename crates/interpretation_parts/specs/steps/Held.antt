-- What the code judges against, and the state of its tables of rows.
use Rattle.std.specs.Prelude.{◌≡◌, ℕ, List, [], ◌∷◌, ◌++◌, map, Bool, false, if◌then◌else◌, Option, None, Some, Result, Ok, Err, OnOk}
use Rattle.std.specs.Map.{lookup}
use Rattle.nxf_tree.specs.declared.tree.TableEntry.{TableEntry}
use Rattle.nxf_tree.specs.declared.tree.Term.{Term}
use Rattle.nxf_tree.specs.Names.{same_text}
use Rattle.interpretation_parts.specs.declared.context.Context.{Context as Held}
use Rattle.interpretation_parts.specs.declared.known.Known.{Known}
use Rattle.interpretation_definitions.specs.declared.fault.PartFault.{PartFault}
use Rattle.interpretation_definitions.specs.declared.fault.PartFault.TheVariants.{Clash}
use Rattle.interpretation_parts.specs.declared.judge.PartError.{PartError}
use Rattle.interpretation_parts.specs.declared.judge.PartError.TheVariants as error
use Rattle.interpretation_definitions.specs.declared.element.Element.{Element}
use Rattle.interpretation_definitions.specs.Context.{Context, and_listings, listings_of, symbols_of}
use Rattle.interpretation_definitions.specs.Given.{Given, elements_of, numbers_of, row_with, stated, value_in}
use Rattle.interpretation_definitions.specs.Judging.{atom_fault, atom_tried, equation_fault, equation_tried, row_clash, value_clash}
use Rattle.interpretation_definitions.specs.Parts.{Part, Applies, Equates, argument}

-- the context that the code's tables are
abbrev pub context_in : Held → Context
context_in held = record {
  sorts = held.known.over.now.sorts;
  symbols = symbols_of held.known.over.now;
  elements = held.elements.entries;
  declared = held.declared.keys;
}

-- the table has the rows that are given, under the number of the symbol and the numbers of the arguments
abbrev pub HasRows : List (List ℕ × ℕ) → List Given → Type 0
HasRows rows given = (place : ℕ) (row : List ℕ) → lookup (same_text (place ∷ row)) rows ≡ value_in given place row

-- the answer names the fault, or there is none; there may be no memory
abbrev pub Judges : Option PartFault → Result (Unit {0}) PartError → Type 0
Judges fault (Ok x) = fault ≡ None
Judges fault (Err (error.Fault f)) = fault ≡ Some f
Judges fault (Err error.Memory) = Unit {0}

-- an element that is there, as a list
abbrev pub one_of : Option Element → List Element
one_of None = []
one_of (Some e) = e ∷ []

-- a clash, where there is one
abbrev pub clash_if : Bool → Option PartFault
clash_if clash = if clash then Some Clash else None

-- the elements that terms name, and their numbers
abbrev pub elements_in : Held → List Term → List Element
elements_in held terms = elements_of (context_in held) (map argument terms)

abbrev pub numbers_in : Held → List Term → List ℕ
numbers_in held terms = numbers_of (elements_in held terms)

-- the names that a part lists
abbrev pub listings_in : Held → Part → List (List ℕ × ℕ)
listings_in held part = listings_of held.known.over.now.sorts part

-- the elements that are listed after one part more
abbrev pub elements_after : Known → List (List ℕ × Element) → Part → List (List ℕ × Element)
elements_after known elements part = and_listings elements (listings_of known.over.now.sorts part)

-- the answer names the fault that is found with the rows that were given before
abbrev pub JudgesRows : List (List ℕ × ℕ) → (List Given → Option PartFault) → Result (Unit {0}) PartError → Type 0
JudgesRows rows fault answer = (given : List Given) → HasRows rows given → Judges (fault given) answer

-- the answer names a clash, where there is one with the rows that were given before
abbrev pub JudgesClash : List (List ℕ × ℕ) → (List Given → Bool) → Result (Unit {0}) PartError → Type 0
JudgesClash rows clash answer = JudgesRows rows (λ given. clash_if (clash given)) answer

-- without a refusal these rows are given too
abbrev pub Gives : Result (Unit {0}) PartError → List (List ℕ × ℕ) → List Given → List (List ℕ × ℕ) → Type 0
Gives answer old more new = (given : List Given) → HasRows old given → OnOk answer (HasRows new (given ++ more))

-- the clash of a row of a known symbol
abbrev pub row_clashes : ℕ × TableEntry → List Element → ℕ → List Given → Bool
row_clashes known es value given = row_clash given known es value

-- the clash of an equation of a known function, and the row that it states
abbrev pub value_clashes : ℕ × TableEntry → List Element → Option Element → List Given → Bool
value_clashes known es value given = value_clash given known known.1.gives es value

abbrev pub value_row : ℕ × TableEntry → List ℕ → Option Element → List Given
value_row known row value = row_with known known.1.gives row value

-- the tries of an atom and of an equation, before any clash
abbrev pub atom_tries : Held → Option (ℕ × TableEntry) → List ℕ → List Term → Option PartFault
atom_tries held known p terms = atom_tried (context_in held) known p (map argument terms) false

abbrev pub equation_tries : Held → Option (ℕ × TableEntry) → List ℕ → List Term → Term → Option PartFault
equation_tries held known f terms value = equation_tried (context_in held) known f (map argument terms) (argument value) false

-- the fault of an atom, and the rows that it states
abbrev pub atom_fault_in : Held → Bool → List ℕ → List Term → List Given → Option PartFault
atom_fault_in held truth p terms given = atom_fault (context_in held) given truth p (map argument terms)

abbrev pub atom_rows : Held → Bool → List ℕ → List Term → List Given
atom_rows held truth p terms = stated (context_in held) (Applies truth p (map argument terms))

-- the fault of an equation, and the rows that it states
abbrev pub equation_fault_in : Held → List ℕ → List Term → Term → List Given → Option PartFault
equation_fault_in held f terms value given = equation_fault (context_in held) given f (map argument terms) (argument value)

abbrev pub equation_rows : Held → List ℕ → List Term → Term → List Given
equation_rows held f terms value = stated (context_in held) (Equates f (map argument terms) (argument value))
