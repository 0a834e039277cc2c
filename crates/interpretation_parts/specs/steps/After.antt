-- What is known after some parts.
use Rattle.std.specs.Prelude.{◌≡◌, ℕ, List, [], ◌∷◌, ◌++◌, length, Option, Some, Result, OnOk}
use Rattle.std.specs.Option.{option_map}
use Rattle.interpretation_definitions.specs.declared.error.InterpError.{InterpError}
use Rattle.interpretation_definitions.specs.declared.error.InterpError.TheVariants as error
use Rattle.interpretation_definitions.specs.declared.fault.PartFault.{PartFault}
use Rattle.interpretation_parts.specs.declared.closures.Closures.{Closures}
use Rattle.interpretation_parts.specs.declared.context.Context.{Context as Held}
use Rattle.interpretation_parts.specs.declared.judge.PartError.{PartError}
use Rattle.interpretation_definitions.specs.Context.{Context}
use Rattle.interpretation_definitions.specs.Given.{given_by}
use Rattle.interpretation_definitions.specs.Interpretation.{kind_of}
use Rattle.interpretation_definitions.specs.Judging.{listings_before, part_fault}
use Rattle.interpretation_definitions.specs.Parts.{Part}
use Rattle.interpretation_parts.specs.steps.Closed.{AreNoted}
use Rattle.interpretation_parts.specs.steps.Held.{context_in, HasRows, Judges}

-- the rows that are given, and the names that are listed
pub record IsAfter (context : Context) (rows : List (List ℕ × ℕ)) (closures : Closures) (parts : List Part) : Type 0 where
  pub given : HasRows rows (given_by context parts)
  pub noted : AreNoted (listings_before context parts) closures
  pub count : length closures.closed.items ≡ length context.sorts

-- the answer names the fault of a part after the parts before it
abbrev pub JudgesPart : Held → List (List ℕ × ℕ) → Closures → Part → Result (Unit {0}) PartError → Type 0
JudgesPart held rows closures part answer =
    (parts : List Part) → IsAfter (context_in held) rows closures parts → Judges (part_fault (context_in held) parts part) answer

-- without a refusal the rows and names are those after one part more
abbrev pub AddsPart : Result (Unit {0}) PartError → Held → Part → List (List ℕ × ℕ) → Closures → List (List ℕ × ℕ) → Closures → Type 0
AddsPart answer held part rows closures new_rows new_closures =
    (parts : List Part) → IsAfter (context_in held) rows closures parts
    → OnOk answer (IsAfter (context_in held) new_rows new_closures (parts ++ part ∷ []))

-- the refusal is that of the first fault, or there is no memory
abbrev pub RefusesFault : Option (ℕ × PartFault) → InterpError → Type 0
RefusesFault fault (error.Kind kind) = option_map (λ f. kind_of f.0 f.1) fault ≡ Some kind
RefusesFault fault (error.TooManyWorlds worlds) = ⊥
RefusesFault fault (error.TooBig cells) = ⊥
RefusesFault fault error.Memory = Unit {0}
