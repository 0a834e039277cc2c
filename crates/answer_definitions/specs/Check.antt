-- The answer to `check`: whether the structure of a Kripke text is a countermodel of a file.
use Rattle.std.specs.Prelude.{◌≡◌, ℕ, List, [], ◌∷◌, ◌++◌, codes, Result, Ok}
use Rattle.nxf_tree.specs.declared.tree.Signature.{Signature}
use Rattle.nxf_tree.specs.declared.tree.File.{File}
use Rattle.nxf_tree.specs.declared.tree.PartEntry.{PartEntry}
use Rattle.nxf_tree.specs.Countermodels.{IsKripkeCountermodel}
use Rattle.nxf_tree.specs.Profile.{Reading, reading_of}
use Rattle.nxf_tree.specs.Structures.{KripkeStructure}
use Rattle.syntax_definitions.specs.declared.gather_error.GatherError.{GatherError}
use Rattle.formula_cells.specs.Checked.{CheckedFile}
use Rattle.kripke_text_definitions.specs.Reading.{AreFew}
use Rattle.answer_definitions.specs.Answer.{Answer}
use Rattle.answer_definitions.specs.KripkeFile.{SpellsStructure, ReadsStructure}
use Rattle.answer_definitions.specs.ProblemFile.{OfItsProblem}
use Rattle.answer_definitions.specs.TwoFiles.{AnswersTwo}
use Rattle.answer_definitions.specs.Verdict.{JudgesReading}

-- the line `countermodel`
abbrev pub countermodel_line : List ℕ
countermodel_line = codes "countermodel" ++ 10 ∷ []

-- The answer to a file with this signature, and to the second file with this name and these bytes: where they are the Kripke text of
-- a countermodel, that line.
abbrev pub ChecksBytes : Signature → File → List ℕ → List ℕ → Answer → Type 0
ChecksBytes sig file name bytes = JudgesReading sig file (ReadsStructure sig name bytes) (λ K. countermodel_line)

-- the answer to a file whose parts and checked formulas are these, and to the second file
abbrev pub ChecksText : CheckedFile → List PartEntry → List ℕ → List ℕ → Answer → Type 0
ChecksText checked parts name bytes answer = OfItsProblem checked parts (λ file. ChecksBytes checked.signature file name bytes answer)

-- the answer to `check`, by the gathered file and the loaded second one with this name
abbrev pub Checks : Result File GatherError → List ℕ → Result (List ℕ) GatherError → Answer → Type 0
Checks outcome name loaded answer = AnswersTwo (λ sig file. ChecksBytes sig file name) outcome loaded answer

-- What the line `countermodel` says of a file and the bytes of a second one: the file is in the profile, and the bytes spell a
-- structure over its signature, within the limits, that is a countermodel of it.
pub record IsCountermodelText (file : File) (bytes : List ℕ) : Type 0 where
  pub problem : Reading
  pub in_profile : reading_of file ≡ Ok problem
  pub K : KripkeStructure
  pub spells : SpellsStructure problem.signature bytes K
  pub few : AreFew problem.signature K.worlds K.sizes
  pub countermodel : IsKripkeCountermodel problem.signature file K
