-- The answers to `lift` are one each, and its text tells a countermodel of the file and of the printed problem.
use Rattle.std.specs.Prelude.{◌≡◌, ◌↔◌, ℕ, List, Result, Ok}
use Rattle.nxf_base.specs.Exactly.{ExactlyOne}
use Rattle.nxf_tree.specs.declared.tree.File.{File}
use Rattle.nxf_tree.specs.declared.tree.Signature.{Signature}
use Rattle.nxf_tree.specs.ClassicalSignature.{classical_signature_of}
use Rattle.nxf_tree.specs.Countermodels.{IsClassicalCountermodel}
use Rattle.nxf_tree.specs.Problem.{problem_of}
use Rattle.nxf_tree.specs.Profile.{Reading, reading_of}
use Rattle.nxf_tree.specs.Structures.{ClassicalStructure}
use Rattle.nxf_tree.specs.WellFormed.{HasSortsInRange}
use Rattle.syntax_definitions.specs.declared.gather_error.GatherError.{GatherError}
use Rattle.answer_definitions.specs.InterpretationFile.{GivesClassical, ReadsInterpretation}
use Rattle.answer_definitions.specs.Lift.{Lifts, IsLiftedText}

abbrev pub OneInterpretationLaw : Type 0
OneInterpretationLaw = (sig : Signature) (name bytes : List ℕ) → HasSortsInRange sig → ExactlyOne (ReadsInterpretation sig name bytes)

abbrev pub OneLiftLaw : Type 0
OneLiftLaw = (outcome : Result File GatherError) (name : List ℕ) (loaded : Result (List ℕ) GatherError) → ExactlyOne (Lifts outcome name loaded)

-- the files lead to a text exactly where it is that of a countermodel that the second file gives
abbrev pub LiftedTextLaw : Type 0
LiftedTextLaw = (file : File) (name bytes text : List ℕ) → Lifts (Ok file) name (Ok bytes) (Ok text) ↔ IsLiftedText file bytes text

-- the files lead to a text
abbrev pub IsLifted : File → List ℕ → List ℕ → Type 0
IsLifted file name bytes = (text : List ℕ) × Lifts (Ok file) name (Ok bytes) (Ok text)

-- the file is in the profile, and the bytes spell an interpretation that gives a countermodel of its classical problem
pub record IsPrintedCountermodel (file : File) (bytes : List ℕ) : Type 0 where
  pub problem : Reading
  pub in_profile : reading_of file ≡ Ok problem
  pub S : ClassicalStructure
  pub gives : GivesClassical problem.signature bytes S
  pub countermodel : IsClassicalCountermodel (classical_signature_of problem.signature) (problem_of problem.signature file) S

-- they lead to a text exactly where the interpretation gives a countermodel of the printed problem
abbrev pub PrintedCountermodelLaw : Type 0
PrintedCountermodelLaw = (file : File) (name bytes : List ℕ) → IsLifted file name bytes ↔ IsPrintedCountermodel file bytes
