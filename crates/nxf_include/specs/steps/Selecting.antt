-- What the parts of a selection do: the sets of names that they keep, and what they add.
use Rattle.std.specs.Prelude.{◌≡◌, ℕ, ◌⊎◌, ◌||◌, List, ◌++◌, Option, None, Some, Ok, Err}
use Rattle.std.specs.List.{list_any}
use Rattle.indexmap.specs.IndexSet.{IndexSet, contains}
use Rattle.nxf_tree.specs.declared.tree.Statement.{Statement}
use Rattle.nxf_tree.specs.Counting.{has}
use Rattle.nxf_tree.specs.Names.{same_text}
use Rattle.syntax_definitions.specs.declared.gather_error.GatherError.{GatherError}
use Rattle.syntax_definitions.specs.declared.gather_error.GatherError.TheVariants.{Memory}
use Rattle.syntax_definitions.specs.Gathered.{has_name, first_missing, selected}

-- the set has these names, or those of the statements
abbrev pub IsSetOf : {S : Type 0} → List (List ℕ) → IndexSet (List ℕ) S → Type 0
IsSetOf names set = (name : List ℕ) → contains same_text set name ≡ has same_text name names

abbrev pub HasNamesOf : {S : Type 0} → List Statement → IndexSet (List ℕ) S → Type 0
HasNamesOf statements set = (name : List ℕ) → contains same_text set name ≡ list_any (has_name name) statements

-- it has the statement's name too
abbrev pub GainsName : {S : Type 0} → IndexSet (List ℕ) S → IndexSet (List ℕ) S → Statement → Type 0
GainsName old new statement = (name : List ℕ) → contains same_text new name ≡ (contains same_text old name || has_name name statement)

-- no statement whose names are in the set misses a listed one, or this is the first that is missing
abbrev pub MissesNone : {S : Type 0} → IndexSet (List ℕ) S → List (List ℕ) → Type 0
MissesNone found names = (statements : List Statement) → HasNamesOf statements found → first_missing names statements ≡ None

abbrev pub MissesFirst : {S : Type 0} → IndexSet (List ℕ) S → List (List ℕ) → List ℕ → Type 0
MissesFirst found names name = (statements : List Statement) → HasNamesOf statements found → first_missing names statements ≡ Some name

-- what an include brings of its file is added; or it brings nothing, for this reason
abbrev pub AddsSelected : List ℕ → Option (List (List ℕ)) → List Statement → List Statement → List Statement → Type 0
AddsSelected file names statements old new = (kept : List Statement) × (selected file names statements ≡ Ok kept) × (new ≡ old ++ kept)

abbrev pub RefusesSelected : List ℕ → Option (List (List ℕ)) → List Statement → GatherError → Type 0
RefusesSelected file names statements e = selected file names statements ≡ Err e ⊎ e ≡ Memory
