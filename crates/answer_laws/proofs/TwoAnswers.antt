-- A gathered file and a loaded second one have exactly one answer, where what stands in them has exactly one.
use Rattle.std.proofs.Common.{◌≡◌, ℕ, List, Result, Ok, Err, refl, sym, subst, ◌∙◌}
use Rattle.nxf_base.specs.Exactly.{ExactlyOne}
use Rattle.nxf_tree.specs.declared.tree.Signature.{Signature}
use Rattle.nxf_tree.specs.declared.tree.File.{File}
use Rattle.nxf_tree.specs.Profile.{Reading, Refusal, reading_of}
use Rattle.syntax_definitions.specs.declared.gather_error.GatherError.{GatherError}
use Rattle.gathering_laws.proofs.ExactlyOne.{exactly_one}
use Rattle.answer_definitions.specs.Answer.{Answer, status_of_gathering, status_of_refusal}
use Rattle.answer_definitions.specs.TwoFiles.{AnswersLoaded, AnswersReading, AnswersTwo}

module _ (OfBytes : Signature → File → List ℕ → Answer → Type 0) where
  -- each file in the profile and all bytes have an answer
  abbrev pub HasSome : Type 0
  HasSome = (file : File) (problem : Reading) → reading_of file ≡ Ok problem → (bytes : List ℕ) → (answer : Answer) × OfBytes problem.signature file bytes answer

  -- no file and bytes have two
  abbrev pub HasNoTwo : Type 0
  HasNoTwo = (sig : Signature) (file : File) (bytes : List ℕ) (a b : Answer) → OfBytes sig file bytes a → OfBytes sig file bytes b → a ≡ b

  module _ (some : HasSome) where
    some_of_loaded : (file : File) (problem : Reading) → reading_of file ≡ Ok problem → (loaded : Result (List ℕ) GatherError) → (answer : Answer) × AnswersLoaded (OfBytes problem.signature file) loaded answer
    some_of_loaded file problem e (Err error) = (Err (status_of_gathering error), refl)
    some_of_loaded file problem e (Ok bytes) = some file problem e bytes

    some_of_file : (file : File) (read : Result Reading Refusal) (loaded : Result (List ℕ) GatherError) → reading_of file ≡ read → (answer : Answer) × AnswersReading (λ sig. OfBytes sig file) read loaded answer
    some_of_file file (Err refusal) loaded e = (Err (status_of_refusal refusal), refl)
    some_of_file file (Ok problem) loaded e = some_of_loaded file problem e loaded

    pub some_answer : (outcome : Result File GatherError) (loaded : Result (List ℕ) GatherError) → (answer : Answer) × AnswersTwo OfBytes outcome loaded answer
    some_answer (Err e) loaded = (Err (status_of_gathering e), refl)
    some_answer (Ok file) loaded = some_of_file file (reading_of file) loaded refl

  module _ (one : HasNoTwo) where
    one_of_loaded : (sig : Signature) (file : File) (loaded : Result (List ℕ) GatherError) (a b : Answer) → AnswersLoaded (OfBytes sig file) loaded a → AnswersLoaded (OfBytes sig file) loaded b → a ≡ b
    one_of_loaded sig file (Err e) a b h k = h ∙ sym k
    one_of_loaded sig file (Ok bytes) a b h k = one sig file bytes a b h k

    one_of_file : (file : File) (read : Result Reading Refusal) (loaded : Result (List ℕ) GatherError) (a b : Answer) → AnswersReading (λ sig. OfBytes sig file) read loaded a → AnswersReading (λ sig. OfBytes sig file) read loaded b → a ≡ b
    one_of_file file (Err refusal) loaded a b h k = h ∙ sym k
    one_of_file file (Ok problem) loaded a b h k = one_of_loaded problem.signature file loaded a b h k

    pub one_answer : (outcome : Result File GatherError) (loaded : Result (List ℕ) GatherError) (a b : Answer) → AnswersTwo OfBytes outcome loaded a → AnswersTwo OfBytes outcome loaded b → a ≡ b
    one_answer (Err e) loaded a b h k = h ∙ sym k
    one_answer (Ok file) loaded a b h k = one_of_file file (reading_of file) loaded a b h k

  pub exactly_one_answer : HasSome → HasNoTwo → (outcome : Result File GatherError) (loaded : Result (List ℕ) GatherError) → ExactlyOne (AnswersTwo OfBytes outcome loaded)
  exactly_one_answer some one outcome loaded = exactly_one (AnswersTwo OfBytes outcome loaded) (some_answer some outcome loaded) (one_answer one outcome loaded)

-- ---- a text, for a file in the profile

-- what an answer of a file and of bytes says
pub record IsInProfileWith (OfProblem : Reading → Type 0) (file : File) : Type 0 where
  pub problem : Reading
  pub in_profile : reading_of file ≡ Ok problem
  pub so : OfProblem problem

module _ (OfBytes : Signature → File → List ℕ → Answer → Type 0) (file : File) (bytes text : List ℕ) where
  text_by : (read : Result Reading Refusal) → reading_of file ≡ read → AnswersReading (λ sig. OfBytes sig file) read (Ok bytes) (Ok text) → IsInProfileWith (λ problem. OfBytes problem.signature file bytes (Ok text)) file
  text_by (Err refusal) e h = absurd cc
  text_by (Ok problem) e h = record { problem = problem; in_profile = e; so = h }

  pub text_of : AnswersTwo OfBytes (Ok file) (Ok bytes) (Ok text) → IsInProfileWith (λ problem. OfBytes problem.signature file bytes (Ok text)) file
  text_of h = text_by (reading_of file) refl h

  pub has_text : (problem : Reading) → reading_of file ≡ Ok problem → OfBytes problem.signature file bytes (Ok text) → AnswersTwo OfBytes (Ok file) (Ok bytes) (Ok text)
  has_text problem e h = subst (λ (read : Result Reading Refusal). AnswersReading (λ sig. OfBytes sig file) read (Ok bytes) (Ok text)) (sym e) h
