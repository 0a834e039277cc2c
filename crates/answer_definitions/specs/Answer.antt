-- Answers: a text, or a refusal.
use Rattle.std.specs.Prelude.{◌≡◌, ◌⊎◌, ℕ, List, Result}
use Rattle.nxf_base.specs.declared.status.Status.{Status}
use Rattle.nxf_base.specs.declared.status.Status.TheVariants as status
use Rattle.nxf_tree.specs.Profile.{Refusal, RefusedRole, RefusedSpec, RefusedSort}
use Rattle.syntax_definitions.specs.declared.gather_error.GatherError.{GatherError}
use Rattle.syntax_definitions.specs.declared.gather_error.GatherError.TheVariants as gather

abbrev pub Answer : Type 0
Answer = Result (List ℕ) Status

-- the status of a file that is refused as it is loaded or gathered
abbrev pub status_of_gathering : GatherError → Status
status_of_gathering (gather.NoFile name) = status.NoFile name
status_of_gathering gather.ReadFault = status.ReadFault
status_of_gathering (gather.TooLong name) = status.TooLong name
status_of_gathering gather.TooMuch = status.TooMuch
status_of_gathering (gather.Deep name) = status.Deep name
status_of_gathering (gather.Lex name offset) = status.Lex name offset
status_of_gathering (gather.Syntax name place) = status.Syntax name place
status_of_gathering (gather.NoSuchName file name) = status.NoSuchName file name
status_of_gathering gather.Memory = status.Memory

-- the status of a gathered file that is not in the profile
abbrev pub status_of_refusal : Refusal → Status
status_of_refusal (RefusedRole kind place) = status.Role kind place
status_of_refusal (RefusedSpec kind) = status.Spec kind
status_of_refusal (RefusedSort kind place name) = status.Sort kind place name

-- such a refusal, or want of memory
abbrev pub OrMemory : (Status → Type 0) → Status → Type 0
OrMemory IsSo s = IsSo s ⊎ (s ≡ status.Memory)
