-- How the parts of a run stand to its answer.
use Rattle.std.specs.Prelude.{◌≡◌, ◌⊎◌, ℕ, List, Option, Ok, Err}
use Rattle.nxf_base.specs.Files.{Files}
use Rattle.nxf_base.specs.declared.status.Status.{Status}
use Rattle.nxf_base.specs.declared.status.Status.TheVariants as status
use Rattle.nxf_base.specs.Shelf.{Shelf}
use Rattle.nxf_tree.specs.declared.tree.File.{File}
use Rattle.nxf_tree.specs.declared.tree.PartEntry.{PartEntry}
use Rattle.nxf_tree.specs.Profile.{Reading, Refusal, reading_of}
use Rattle.syntax_definitions.specs.declared.gather_error.GatherError.{GatherError}
use Rattle.syntax_definitions.specs.Refusals.{IsRefusalOfFiles}
use Rattle.formula_cells.specs.Checked.{CheckedFile}
use Rattle.nxf_include.specs.Roots.{SomeFaultRose, EachMissRose}
use Rattle.answer_definitions.specs.Answer.{Answer, status_of_gathering, status_of_refusal}
use Rattle.answer_definitions.specs.ProblemFile.{IsReading}
use Rattle.nxf_run.specs.Forms.{form_of}
use Rattle.nxf_run.specs.Answer.{AnswersForm, AnswersEmbed, AnswersCheck, AnswersLift, Gathered, Loaded}

-- one of the answers is this refusal; or there is a fault of a library, or want of memory
abbrev pub RefusesBy : (Answer → Type 0) → Status → Type 0
RefusesBy Answers s = Answers (Err s) ⊎ ((s ≡ status.ReadFault) ⊎ (s ≡ status.Memory))

-- why the file of this name, with all that it includes, has no translation
abbrev pub EmbedRefuses : Option Files → List ℕ → Status → Type 0
EmbedRefuses told name = RefusesBy (AnswersEmbed told name)

-- why the second file has no Kripke text of a countermodel, or no interpretation of one
abbrev pub CheckRefuses : Option Files → List ℕ → List ℕ → Status → Type 0
CheckRefuses told name second = RefusesBy (AnswersCheck told name second)

abbrev pub LiftRefuses : Option Files → List ℕ → List ℕ → Status → Type 0
LiftRefuses told name second = RefusesBy (AnswersLift told name second)

-- why the words have no text
abbrev pub Refuses : Option Files → List (List ℕ) → Status → Type 0
Refuses told words = RefusesBy (AnswersForm told (form_of words))

-- ---- loading

-- the file of the first name is in the profile and read so, and that of the second has these bytes
pub record AreLoaded (told : Option Files) (name second : List ℕ) (parts : List PartEntry) (checked : CheckedFile) (bytes : List ℕ) : Type 0 where
  pub file : File
  pub gathered : Gathered told name (Ok file)
  pub reads : IsReading file parts checked
  pub loaded : Loaded told second (Ok bytes)

-- the first refusal of two files, whatever stands in the second: the first isn't gathered, or isn't in the profile, or the second isn't
-- loaded
pub data IsFirstRefusal (told : Option Files) (name second : List ℕ) : Status → Type 0 where
  not_gathered : (e : GatherError) → Gathered told name (Err e) → IsRefusalOfFiles e → IsFirstRefusal told name second (status_of_gathering e)
  not_in_profile : (file : File) (refusal : Refusal) → Gathered told name (Ok file) → reading_of file ≡ Err refusal
      → IsFirstRefusal told name second (status_of_refusal refusal)
  not_loaded : (file : File) (problem : Reading) (e : GatherError) → Gathered told name (Ok file) → reading_of file ≡ Ok problem
      → Loaded told second (Err e) → IsRefusalOfFiles e → IsFirstRefusal told name second (status_of_gathering e)

-- such a refusal; or there is a fault of a library, or want of memory
abbrev pub LoadRefuses : Option Files → List ℕ → List ℕ → Status → Type 0
LoadRefuses told name second s = IsFirstRefusal told name second s ⊎ ((s ≡ status.ReadFault) ⊎ (s ≡ status.Memory))

-- the status comes of loading a file: it is absent, or a library failed
abbrev pub IsOfLoading : Status → Type 0
IsOfLoading (status.NoFile name) = Unit {0}
IsOfLoading status.ReadFault = Unit {0}
IsOfLoading _ = ⊥

-- such a status has its cause in what the libraries counted
abbrev pub HasLoadCause : List Shelf → List Shelf → Status → Type 0
HasLoadCause before now (status.NoFile name) = EachMissRose before now
HasLoadCause before now status.ReadFault = SomeFaultRose before now
HasLoadCause before now _ = Unit {0}
