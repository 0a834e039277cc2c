-- The answer to `lift`: the Kripke text of the countermodel that an interpretation gives.
use Rattle.std.specs.Prelude.{◌≡◌, ℕ, List, Result, Ok}
use Rattle.nxf_tree.specs.declared.tree.Signature.{Signature}
use Rattle.nxf_tree.specs.declared.tree.File.{File}
use Rattle.nxf_tree.specs.declared.tree.PartEntry.{PartEntry}
use Rattle.nxf_tree.specs.Countermodels.{IsKripkeCountermodel}
use Rattle.nxf_tree.specs.Profile.{Reading, reading_of}
use Rattle.nxf_tree.specs.Structures.{KripkeStructure}
use Rattle.syntax_definitions.specs.declared.gather_error.GatherError.{GatherError}
use Rattle.formula_cells.specs.Checked.{CheckedFile}
use Rattle.kripke_text_definitions.specs.KripkeText.{ktext}
use Rattle.answer_definitions.specs.Answer.{Answer}
use Rattle.answer_definitions.specs.InterpretationFile.{GivesStructure, ReadsInterpretation}
use Rattle.answer_definitions.specs.ProblemFile.{OfItsProblem}
use Rattle.answer_definitions.specs.TwoFiles.{AnswersTwo}
use Rattle.answer_definitions.specs.Verdict.{JudgesReading}

-- The answer to a file with this signature, and to the second file with this name and these bytes: where they spell an interpretation
-- of a countermodel, the text of the Kripke structure that corresponds.
abbrev pub LiftsBytes : Signature → File → List ℕ → List ℕ → Answer → Type 0
LiftsBytes sig file name bytes = JudgesReading sig file (ReadsInterpretation sig name bytes) (ktext sig)

-- the answer to a file whose parts and checked formulas are these, and to the second file
abbrev pub LiftsText : CheckedFile → List PartEntry → List ℕ → List ℕ → Answer → Type 0
LiftsText checked parts name bytes answer = OfItsProblem checked parts (λ file. LiftsBytes checked.signature file name bytes answer)

-- the answer to `lift`, by the gathered file and the loaded second one with this name
abbrev pub Lifts : Result File GatherError → List ℕ → Result (List ℕ) GatherError → Answer → Type 0
Lifts outcome name loaded answer = AnswersTwo (λ sig file. LiftsBytes sig file name) outcome loaded answer

-- What a text of `lift` says of a file and the bytes of a second one: the file is in the profile; the bytes spell an interpretation,
-- within the limits; the Kripke structure that corresponds to the one that it gives is a countermodel of the file; and the text is
-- that of this Kripke structure.
pub record IsLiftedText (file : File) (bytes text : List ℕ) : Type 0 where
  pub problem : Reading
  pub in_profile : reading_of file ≡ Ok problem
  pub K : KripkeStructure
  pub gives : GivesStructure problem.signature bytes K
  pub countermodel : IsKripkeCountermodel problem.signature file K
  pub text_is : text ≡ ktext problem.signature K
