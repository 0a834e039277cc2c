-- What a text means that the program gives.
use Rattle.std.specs.Prelude.{◌≡◌, ℕ, List, Option, Ok}
use Rattle.nxf_base.specs.Files.{Files}
use Rattle.nxf_tree.specs.declared.tree.File.{File}
use Rattle.nxf_tree.specs.declared.profile.Profile.TheVariants.{Classical}
use Rattle.nxf_tree.specs.Countermodels.{KeepsCountermodels}
use Rattle.nxf_tree.specs.ClassicalSignature.{classical_signature_of}
use Rattle.nxf_tree.specs.Problem.{problem_of}
use Rattle.nxf_tree.specs.Profile.{Reading, reading_of}
use Rattle.nxf_tree.specs.Sorting.{FileIsOver}
use Rattle.nxf_tree.specs.Text.{text_of}
use Rattle.syntax_definitions.specs.Spells.{Spells}
use Rattle.answer_definitions.specs.Check.{IsCountermodelText, countermodel_line}
use Rattle.answer_definitions.specs.Lift.{IsLiftedText}
use Rattle.nxf_run.specs.Answer.{Gathered, Loaded}
use Rattle.nxf_run.specs.Forms.{Form, Embed, Check, Lift, Later, NoForm}

-- What the translation of a file says: the file is in the profile; the text is that of its classical problem; read as a classical
-- problem it spells that problem and no other; the problem is over the file's classical signature; and over each Kripke structure of
-- the file's signature and the classical structure that corresponds to it, the one is a countermodel of the classical problem exactly
-- where the other is one of the file.
pub record IsTranslation (file : File) (text : List ℕ) : Type 0 where
  pub problem : Reading
  pub in_profile : reading_of file ≡ Ok problem
  pub text_is : text ≡ text_of (problem_of problem.signature file)
  pub spells : Spells Classical text (problem_of problem.signature file)
  pub no_other : (other : File) → Spells Classical text other → other ≡ problem_of problem.signature file
  pub over : FileIsOver (classical_signature_of problem.signature) (problem_of problem.signature file)
  pub keeps_countermodels : KeepsCountermodels problem.signature file (problem_of problem.signature file)

-- `embed` gives the translation of the file with all that it includes
pub record EmbedMeans (told : Option Files) (name text : List ℕ) : Type 0 where
  pub file : File
  pub gathered : Gathered told name (Ok file)
  pub translation : IsTranslation file text

-- This holds of the file with all that it includes, of the bytes of the second file, and of the text.
pub record FilesMean (told : Option Files) (name second : List ℕ) (Means : File → List ℕ → List ℕ → Type 0) (text : List ℕ) : Type 0 where
  pub file : File
  pub gathered : Gathered told name (Ok file)
  pub bytes : List ℕ
  pub loaded : Loaded told second (Ok bytes)
  pub means : Means file bytes text

-- `check` gives the line `countermodel` alone, and the second file has the text of a structure that is a countermodel of the file
abbrev pub CheckMeans : Option Files → List ℕ → List ℕ → List ℕ → Type 0
CheckMeans told name second = FilesMean told name second (λ file bytes text. (text ≡ countermodel_line) × IsCountermodelText file bytes)

-- `lift` gives the text of the Kripke structure that corresponds to a countermodel, which the interpretation in the second file gives
abbrev pub LiftMeans : Option Files → List ℕ → List ℕ → List ℕ → Type 0
LiftMeans told name second = FilesMean told name second IsLiftedText

-- what the text says that is given to words of each form; the others are given none
abbrev pub TextMeans : Option Files → Form → List ℕ → Type 0
TextMeans told (Embed name) text = EmbedMeans told name text
TextMeans told (Check name second) text = CheckMeans told name second text
TextMeans told (Lift name second) text = LiftMeans told name second text
TextMeans told Later text = ⊥
TextMeans told NoForm text = ⊥
