-- The verdict on the structure that a second file gives: a text, where the structure is a countermodel of the first file, and else
-- the first condition that it doesn't meet.
use Rattle.std.specs.Prelude.{◌≡◌, ℕ, List, Option, None, Some, Result, Ok, Err}
use Rattle.nxf_base.specs.declared.status.Status.{Status}
use Rattle.nxf_base.specs.declared.status.Status.TheVariants as status
use Rattle.nxf_tree.specs.declared.tree.Signature.{Signature}
use Rattle.nxf_tree.specs.declared.tree.File.{File}
use Rattle.nxf_tree.specs.declared.tree.PartEntry.{PartEntry}
use Rattle.nxf_tree.specs.Structures.{KripkeStructure, kripke_model}
use Rattle.fin_struct.specs.declared.condition.Condition.{Condition}
use Rattle.fin_struct.specs.FirstFault.{IsFirstFailing}
use Rattle.formula_cells.specs.Checked.{CheckedFile}
use Rattle.kripke_evaluation_definitions.specs.FileConditions.{meets, all_conditions}
use Rattle.answer_definitions.specs.Answer.{Answer}
use Rattle.answer_definitions.specs.FaultNames.{fails_of}
use Rattle.answer_definitions.specs.ProblemFile.{OfItsProblem}

-- the first of the conditions of the file that the structure doesn't meet, or None where it meets all
abbrev pub IsFirstFault : Signature → File → KripkeStructure → Option Condition → Type 0
IsFirstFault sig file K = IsFirstFailing (meets sig file (kripke_model sig K)) (all_conditions sig file)

-- the text, unless a condition fails
abbrev pub verdict : Signature → List ℕ → Option Condition → Answer
verdict sig text None = Ok text
verdict sig text (Some fault) = Err (status.NotCountermodel (fails_of sig fault))

-- the answer to what the second file is read as: its refusal, or the verdict on its structure, with the text that is written of it
abbrev pub IsVerdict : Signature → File → (KripkeStructure → List ℕ) → Result KripkeStructure Status → Answer → Type 0
IsVerdict sig file text (Err refusal) answer = answer ≡ Err refusal
IsVerdict sig file text (Ok K) answer = (fault : Option Condition) × IsFirstFault sig file K fault × (answer ≡ verdict sig (text K) fault)

-- the answer to a file with this signature and to a second file that is read so
pub record JudgesReading (sig : Signature) (file : File) (Reads : Result KripkeStructure Status → Type 0) (text : KripkeStructure → List ℕ)
    (answer : Answer) : Type 0 where
  pub reading : Result KripkeStructure Status
  pub reads : Reads reading
  pub judged : IsVerdict sig file text reading answer

-- ---- by the parts and the checked formulas of the file

-- the first fault by each file that is read as these
abbrev pub IsFaultOf : CheckedFile → List PartEntry → KripkeStructure → Option Condition → Type 0
IsFaultOf checked parts K fault = OfItsProblem checked parts (λ file. IsFirstFault checked.signature file K fault)

-- the refusal names the first condition that the structure doesn't meet
pub record NamesFault (checked : CheckedFile) (parts : List PartEntry) (K : KripkeStructure) (s : Status) : Type 0 where
  pub fault : Condition
  pub first : IsFaultOf checked parts K (Some fault)
  pub status_is : s ≡ status.NotCountermodel (fails_of checked.signature fault)
