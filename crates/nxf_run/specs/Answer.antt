-- The answer of the program to its words, by the files of its libraries: a text, or a refusal.
use Rattle.std.specs.Prelude.{◌≡◌, ℕ, List, Option, IfSome, Result, Ok, Err}
use Rattle.nxf_base.specs.Files.{Files}
use Rattle.nxf_base.specs.declared.status.Status.TheVariants as status
use Rattle.nxf_tree.specs.declared.tree.File.{File}
use Rattle.nxf_tree.specs.Problem.{problem_of}
use Rattle.nxf_tree.specs.Profile.{Reading, Refusal, reading_of}
use Rattle.nxf_tree.specs.Text.{text_of}
use Rattle.syntax_definitions.specs.declared.gather_error.GatherError.{GatherError}
use Rattle.syntax_definitions.specs.Gathered.{Gathers}
use Rattle.syntax_definitions.specs.Loading as loading
use Rattle.syntax_definitions.specs.Refusals.{IsOfFiles}
use Rattle.answer_definitions.specs.Answer.{Answer, status_of_gathering, status_of_refusal}
use Rattle.answer_definitions.specs.Check.{Checks}
use Rattle.answer_definitions.specs.Lift.{Lifts}
use Rattle.nxf_run.specs.Forms.{Form, form_of, Embed, Check, Lift, Later, NoForm}

-- the classical problem of a file in the profile as text, or the first refusal of its roles, its logic statement and its sorts
abbrev pub answer_by : File → Result Reading Refusal → Answer
answer_by file (Ok problem) = Ok (text_of (problem_of problem.signature file))
answer_by file (Err refusal) = Err (status_of_refusal refusal)

-- the answer to a gathered file, or to one that is refused before
abbrev pub answer_to : Result File GatherError → Answer
answer_to (Ok file) = answer_by file (reading_of file)
answer_to (Err error) = Err (status_of_gathering error)

-- Such is the file of this name with all that it includes, where the files are told. Files that aren't told may be any.
abbrev pub Gathered : Option Files → List ℕ → Result File GatherError → Type 0
Gathered told name outcome = IfSome told (λ files. Gathers files name outcome)

-- the same of the bytes of the file of this name alone
abbrev pub Loaded : Option Files → List ℕ → Result (List ℕ) GatherError → Type 0
Loaded told name loaded = IfSome told (λ files. loaded ≡ loading.loaded files name)

-- the answer to `embed`: that to the gathered file
pub record AnswersEmbed (told : Option Files) (name : List ℕ) (answer : Answer) : Type 0 where
  pub outcome : Result File GatherError
  pub gathered : Gathered told name outcome
  pub of_files : IsOfFiles outcome
  pub answer_is : answer ≡ answer_to outcome

-- the answer to a command with two files: that to the gathered file and to the second one as it is loaded
pub record AnswersFiles (told : Option Files) (name second : List ℕ) (AnswersBoth : Result File GatherError → Result (List ℕ) GatherError → Answer → Type 0)
    (answer : Answer) : Type 0 where
  pub outcome : Result File GatherError
  pub gathered : Gathered told name outcome
  pub of_files : IsOfFiles outcome
  pub bytes : Result (List ℕ) GatherError
  pub loaded : Loaded told second bytes
  pub loaded_of_files : IsOfFiles bytes
  pub answers : AnswersBoth outcome bytes answer

abbrev pub AnswersCheck : Option Files → List ℕ → List ℕ → Answer → Type 0
AnswersCheck told name second = AnswersFiles told name second (λ outcome bytes. Checks outcome second bytes)

abbrev pub AnswersLift : Option Files → List ℕ → List ℕ → Answer → Type 0
AnswersLift told name second = AnswersFiles told name second (λ outcome bytes. Lifts outcome second bytes)

-- the answer to words of each form
abbrev pub AnswersForm : Option Files → Form → Answer → Type 0
AnswersForm told (Embed name) answer = AnswersEmbed told name answer
AnswersForm told (Check name second) answer = AnswersCheck told name second answer
AnswersForm told (Lift name second) answer = AnswersLift told name second answer
AnswersForm told Later answer = answer ≡ Err status.NotYet
AnswersForm told NoForm answer = answer ≡ Err status.Usage

-- the answer to the words, by the files where they are told
abbrev pub IsAnswer : Option Files → List (List ℕ) → Answer → Type 0
IsAnswer told words = AnswersForm told (form_of words)
