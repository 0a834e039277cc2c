-- How a run ends: its status, what it leaves in the sinks, and where the causes of a status stand.
use Rattle.std.specs.Prelude.{◌≡◌, ◌≢◌, ◌≤◌, ◌⊎◌, ℕ, List, ◌++◌, Option, Some, Ok, Err}
use Rattle.nxf_base.specs.Causes.{Rose}
use Rattle.nxf_base.specs.Files.{Files}
use Rattle.nxf_base.specs.Message.{message_of}
use Rattle.nxf_base.specs.Write.{Appends}
use Rattle.nxf_base.specs.declared.status.Status.{Status}
use Rattle.nxf_base.specs.declared.status.Status.TheVariants as status
use Rattle.nxf_include.specs.Roots.{KeepEach, SomeFaultRose, EachMissRose}
use Rattle.answer_definitions.specs.Answer.{Answer}
use Rattle.nxf_run.specs.Forms.{Form, form_of, Embed, Check, Lift, Later, NoForm}
use Rattle.nxf_run.specs.Answer.{IsAnswer}
use Rattle.nxf_run.specs.Meaning.{TextMeans}
use Rattle.nxf_run.specs.Run.{Run, files_told}

-- ---- bytes in a sink

-- some first bytes of these are added, or all of them, or none
pub record AppendsSome (before now : Option (List ℕ)) (bytes : List ℕ) : Type 0 where
  pub done : List ℕ
  pub rest : List ℕ
  pub whole : done ++ rest ≡ bytes
  pub appends : Appends before now done

-- some first bytes of the text of the answer are added, or all of it, or none; nothing where it is a refusal
abbrev pub AppendsSomeOf : Answer → Option (List ℕ) → Option (List ℕ) → Type 0
AppendsSomeOf (Ok text) before now = AppendsSome before now text
AppendsSomeOf (Err refusal) before now = now ≡ before

-- ---- the run

-- the run's words have this answer
abbrev pub Answers : Run → Answer → Type 0
Answers run answer = IsAnswer (files_told run) run.words answer

-- `out` got these bytes
abbrev pub Gives : Run → List ℕ → Type 0
Gives run bytes = Appends run.out.held run.out_now.held bytes

-- `out` got some first bytes of these
abbrev pub GivesSome : Run → List ℕ → Type 0
GivesSome run bytes = AppendsSome run.out.held run.out_now.held bytes

-- `out` holds what it held
abbrev pub GivesNothing : Run → Type 0
GivesNothing run = run.out_now.held ≡ run.out.held

-- The status and what `out` then holds, by the answer: its text; some of it where writing failed, or where there was no
-- memory; and else nothing more than before.
abbrev pub Follows : Run → Status → Type 0
Follows run status.Ok = (text : List ℕ) × Answers run (Ok text) × Gives run text
Follows run status.WriteFault = (text : List ℕ) × Answers run (Ok text) × GivesSome run text
Follows run status.Memory = (answer : Answer) × Answers run answer × AppendsSomeOf answer run.out.held run.out_now.held
Follows run status.ReadFault = GivesNothing run
Follows run refusal = Answers run (Err refusal) × GivesNothing run

-- the words are of a form whose files are loaded
abbrev pub LoadsFiles : Form → Type 0
LoadsFiles (Embed name) = Unit {0}
LoadsFiles (Check name second) = Unit {0}
LoadsFiles (Lift name second) = Unit {0}
LoadsFiles Later = ⊥
LoadsFiles NoForm = ⊥

abbrev pub NamesFile : List (List ℕ) → Type 0
NamesFile words = LoadsFiles (form_of words)

-- A status that came from outside has its cause there. The libraries tell what they told, and no count falls.
pub record HasCause (run : Run) (s : Status) : Type 0 where
  pub no_file : (name : List ℕ) → s ≡ status.NoFile name → NamesFile run.words × EachMissRose run.shelves run.shelves_now
  pub read_fault : s ≡ status.ReadFault → NamesFile run.words × SomeFaultRose run.shelves run.shelves_now
  pub write_fault : s ≡ status.WriteFault → Rose run.out.faults run.out_now.faults
  pub keeps : KeepEach run.shelves run.shelves_now
  pub later : run.out.faults ≤ run.out_now.faults

-- the status is one in which a run may end that leaves the libraries and `out` so
pub record MayEnd (run : Run) (s : Status) : Type 0 where
  pub answers : Follows run s
  pub causes : HasCause run s

-- `err` got the whole line of the status
abbrev pub Tells : Run → Status → Type 0
Tells run s = Appends run.err.held run.err_now.held (message_of s)

-- `err` got some of the line of the status
abbrev pub TellsSome : Run → Status → Type 0
TellsSome run s = AppendsSome run.err.held run.err_now.held (message_of s)

-- What `err` then holds. On Ok nothing is added; on a refusal its line, or some of it where a write to `err` failed; on
-- want of memory some of the line of a status in which the run might have ended.
abbrev pub Reports : Run → Status → Type 0
Reports run status.Ok = run.err_now.held ≡ run.err.held
Reports run status.Memory = (s : Status) × MayEnd run s × (s ≢ status.Ok) × TellsSome run s
Reports run s = Tells run s ⊎ (TellsSome run s × Rose run.err.faults run.err_now.faults)

-- no library and no write to `out` failed
pub record NothingFailed (run : Run) : Type 0 where
  pub reading : SomeFaultRose run.shelves run.shelves_now → ⊥
  pub writing : Rose run.out.faults run.out_now.faults → ⊥

-- Where the files are told, the answer is a text and nothing failed, the text is given, or there was no memory.
abbrev pub Completes : Run → Status → Type 0
Completes run s =
    (files : Files) (text : List ℕ) → files_told run ≡ Some files → Answers run (Ok text) → NothingFailed run
    → (s ≡ status.Ok) ⊎ (s ≡ status.Memory)

-- `out` got a text, and it means what the words ask
pub record GivesMeaning (run : Run) : Type 0 where
  pub text : List ℕ
  pub means : TextMeans (files_told run) (form_of run.words) text
  pub writes : Gives run text

-- On Ok, what `out` got means what the files mean.
abbrev pub Means : Run → Status → Type 0
Means run s = s ≡ status.Ok → GivesMeaning run
