-- Answers of the reader against those of the definition.
use Rattle.std.specs.Prelude.{◌≡◌, Option, None, Some, Result, Ok, Err}
use Rattle.nxf_base.specs.declared.status.SpecKind.{SpecKind}
use Rattle.nxf_tree.specs.Specification.{Specification}
use Rattle.logic_spec.specs.declared.error.SpecError.{SpecError}
use Rattle.logic_spec.specs.declared.error.SpecError.TheVariants.{Kind, Memory}
use Rattle.logic_spec.specs.declared.spec.Spec.{Spec}
use Rattle.logic_spec.specs.Asked.{asked_by}

-- the error is this fault, or there was no memory
abbrev pub IsFault : Option SpecKind → SpecError → Type 0
IsFault fault (Kind kind) = fault ≡ Some kind
IsFault fault Memory = Unit {0}

-- there is no fault where the call succeeds, and the fault is the one that it names
abbrev pub Judges : Option SpecKind → Result (Unit {0}) SpecError → Type 0
Judges fault (Ok x) = fault ≡ None
Judges fault (Err error) = IsFault fault error

-- the error is this refusal, or there was no memory
abbrev pub IsRefusal : Result Specification SpecKind → SpecError → Type 0
IsRefusal answer (Kind kind) = answer ≡ Err kind
IsRefusal answer Memory = Unit {0}

-- the tables ask what the answer asks, and a refusal is that of the answer
abbrev pub Reads : Result Specification SpecKind → Result Spec SpecError → Type 0
Reads answer (Ok spec) = answer ≡ Ok (asked_by spec)
Reads answer (Err error) = IsRefusal answer error
