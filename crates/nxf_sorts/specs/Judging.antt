-- How the judges of statements answer, against the definitions of faults.
use Rattle.std.specs.Prelude.{◌≡◌, ℕ, if◌then◌else◌, List, Option, None, Some, is_some, Result, Ok, Err}
use Rattle.std.specs.List.{list_any}
use Rattle.nxf_base.specs.declared.status.SortKind.TheVariants.{DoubleName}
use Rattle.nxf_tree.specs.declared.tree.SortName.{SortName}
use Rattle.nxf_tree.specs.declared.tree.Typing.{Typing}
use Rattle.nxf_tree.specs.declared.tree.Typing.TheVariants.{Individual as IsIndividual, Sort, Symbol}
use Rattle.nxf_tree.specs.declared.tree.Body.TheVariants.{Formula as IsFormula, Typing as IsTyping, Logic as IsLogic}
use Rattle.nxf_tree.specs.declared.tree.Statement.{Statement}
use Rattle.nxf_tree.specs.declared.tree.Statement.TheVariants.{Annotated, Include}
use Rattle.nxf_tree.specs.Names.{same_text}
use Rattle.nxf_tree.specs.Sorting.{Language, SymbolType, modal_language}
use Rattle.nxf_tree.specs.SignatureOf.{type_in}
use Rattle.nxf_tree.specs.SortFaults.{SortFault, declared_again}
use Rattle.nxf_signatures.specs.declared.declarations.Declarations.{Declarations}
use Rattle.nxf_signatures.specs.Naming.{Naming}
use Rattle.nxf_signatures.specs.steps.Tables.{uses_in}
use Rattle.nxf_sorts.specs.declared.error.SortError.{SortError}
use Rattle.nxf_sorts.specs.declared.error.SortError.TheVariants.{Kind, Memory}
use Rattle.nxf_sorts.specs.declared.fault.Fault.{Fault}
use Rattle.nxf_sorts.specs.steps.Numbering.{IsFault}

-- there is no fault where the call succeeds, and the fault is the one that it names
abbrev pub Judges : Option SortFault → Result (Unit {0}) Fault → Type 0
Judges fault (Ok x) = fault ≡ None
Judges fault (Err error) = IsFault fault error

-- the error is this fault at this statement, or there was no memory
abbrev pub IsFileFault : Option (ℕ × SortFault) → SortError → Type 0
IsFileFault fault (Kind kind place name) = fault ≡ Some (place, (kind, name))
IsFileFault fault Memory = Unit {0}

-- the same with the number of the statement
abbrev pub JudgesFile : {X : Type 0} → Option (ℕ × SortFault) → Result X SortError → Type 0
JudgesFile fault (Ok x) = fault ≡ None
JudgesFile fault (Err error) = IsFileFault fault error

-- the fault of a symbol's type after the one with which it was declared before, if it was
abbrev pub type_after : Naming → List ℕ → List SortName → Option SortName → Option SymbolType → Option SortFault
type_after names f args gives earlier = declared_again (modal_language names.signature) f (record { args = args; gives = gives }) earlier

-- the fault of a typing after what these tables declare; it is that after the statements before it, where the tables hold what they declare
abbrev pub typing_after : Language → Declarations → Typing → Option SortFault
typing_after L before IsIndividual = None
typing_after L before (Sort s) = if is_some (type_in (uses_in before.symbols.entries) s) then Some (DoubleName, s) else None
typing_after L before (Symbol f args gives) =
    if list_any (same_text f) before.sorts.keys then Some (DoubleName, f)
    else declared_again L f (record { args = args; gives = gives }) (type_in (uses_in before.symbols.entries) f)

abbrev pub statement_after : Language → Declarations → Statement → Option SortFault
statement_after L before (Annotated name role (IsTyping t)) = typing_after L before t
statement_after L before (Annotated name role (IsFormula f)) = None
statement_after L before (Annotated name role (IsLogic l)) = None
statement_after L before (Include file names) = None
