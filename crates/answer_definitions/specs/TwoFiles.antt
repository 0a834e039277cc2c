-- The answer to two files, by the answer to what stands in them: `OfBytes` says it of the signature of the first file, of the first
-- file with all that it includes, and of the bytes of the second.
use Rattle.std.specs.Prelude.{◌≡◌, ℕ, List, Result, Ok, Err}
use Rattle.nxf_tree.specs.declared.tree.Signature.{Signature}
use Rattle.nxf_tree.specs.declared.tree.File.{File}
use Rattle.nxf_tree.specs.Profile.{Reading, Refusal, reading_of}
use Rattle.syntax_definitions.specs.declared.gather_error.GatherError.{GatherError}
use Rattle.answer_definitions.specs.Answer.{Answer, status_of_gathering, status_of_refusal}

-- the answer to a file with a signature, where the second file may be refused as it is loaded
abbrev pub AnswersLoaded : (List ℕ → Answer → Type 0) → Result (List ℕ) GatherError → Answer → Type 0
AnswersLoaded OfBytes (Err e) answer = answer ≡ Err (status_of_gathering e)
AnswersLoaded OfBytes (Ok bytes) answer = OfBytes bytes answer

-- the same where the file may not be in the profile
abbrev pub AnswersReading : (Signature → List ℕ → Answer → Type 0) → Result Reading Refusal → Result (List ℕ) GatherError → Answer → Type 0
AnswersReading OfBytes (Err refusal) loaded answer = answer ≡ Err (status_of_refusal refusal)
AnswersReading OfBytes (Ok problem) loaded answer = AnswersLoaded (OfBytes problem.signature) loaded answer

-- The answer to the gathered file and to the loaded second one. The refusals of the file come before those of the second: as it is
-- gathered, then of its roles, its logic statement and its sorts.
abbrev pub AnswersTwo : (Signature → File → List ℕ → Answer → Type 0) → Result File GatherError → Result (List ℕ) GatherError → Answer → Type 0
AnswersTwo OfBytes (Err e) loaded answer = answer ≡ Err (status_of_gathering e)
AnswersTwo OfBytes (Ok file) loaded answer = AnswersReading (λ sig. OfBytes sig file) (reading_of file) loaded answer
