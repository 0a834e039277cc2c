-- `lift` has exactly one answer; its text is that of a countermodel, and it has one exactly where the interpretation is a countermodel of
-- the printed problem.
use Rattle.std.proofs.Common.{◌≡◌, ◌↔◌, ℕ, List, Result, Ok, refl, subst}
use Rattle.nxf_base.specs.Exactly.{ExactlyOne}
use Rattle.nxf_base.specs.declared.status.Status.{Status}
use Rattle.nxf_tree.specs.declared.tree.Signature.{Signature}
use Rattle.nxf_tree.specs.declared.tree.File.{File}
use Rattle.nxf_tree.specs.Structures.{KripkeStructure}
use Rattle.nxf_tree.specs.WellFormed.{HasDifferentNames}
use Rattle.nxf_tree.specs.Profile.{Reading, reading_of}
use Rattle.syntax_definitions.specs.declared.gather_error.GatherError.{GatherError}
use Rattle.signature_laws.proofs.FileReading.{profile-law}
use Rattle.embedding_laws.proofs.FileTheorem.{file-theorem}
use Rattle.kripke_text_definitions.specs.KripkeText.{ktext}
use Rattle.answer_definitions.specs.Answer.{Answer}
use Rattle.answer_definitions.specs.InterpretationFile.{GivesStructure, ReadsInterpretation, not_lexed, not_read, not_given, given}
use Rattle.answer_definitions.specs.Lift.{LiftsBytes, Lifts, IsLiftedText}
use Rattle.answer_laws.specs.LiftLaws.{IsPrintedCountermodel, IsLifted}
use Rattle.answer_laws.proofs.OneInterpretation.{some_interpretation, one_interpretation, some_structure}
use Rattle.answer_laws.proofs.TwoAnswers.{HasSome, HasNoTwo, some_answer, one_answer, exactly_one_answer, text_of, has_text}
use Rattle.answer_laws.proofs.Verdicts.{some_judged, one_judged, judged_text, text_judged}

-- ---- the answer

module _ (name : List ℕ) where
  abbrev OfBytes : Signature → File → List ℕ → Answer → Type 0
  OfBytes sig file = LiftsBytes sig file name

  some : HasSome OfBytes
  some file problem e bytes =
      let r = some_interpretation problem.signature name bytes (profile-law file problem e).numbers in
      some_judged problem.signature file (ReadsInterpretation problem.signature name bytes) (ktext problem.signature) r.0 r.1

  no_two : HasNoTwo OfBytes
  no_two sig file bytes a b h k = one_judged sig file (ReadsInterpretation sig name bytes) (ktext sig) (λ r s x y. one_interpretation x y) a b h k

pub some_lift : (outcome : Result File GatherError) (name : List ℕ) (loaded : Result (List ℕ) GatherError) → (answer : Answer) × Lifts outcome name loaded answer
some_lift outcome name loaded = some_answer (OfBytes name) (some name) outcome loaded

pub one_lift : (outcome : Result File GatherError) (name : List ℕ) (loaded : Result (List ℕ) GatherError) (a b : Answer) → Lifts outcome name loaded a → Lifts outcome name loaded b → a ≡ b
one_lift outcome name loaded a b h k = one_answer (OfBytes name) (no_two name) outcome loaded a b h k

pub exactly_one_lift : (outcome : Result File GatherError) (name : List ℕ) (loaded : Result (List ℕ) GatherError) → ExactlyOne (Lifts outcome name loaded)
exactly_one_lift outcome name loaded = exactly_one_answer (OfBytes name) (some name) (no_two name) outcome loaded

-- ---- the text

-- a structure that is read is given by the bytes
is_given : {sig : Signature} {name bytes : List ℕ} {r : Result KripkeStructure Status} → ReadsInterpretation sig name bytes r → (K : KripkeStructure) → r ≡ Ok K → GivesStructure sig bytes K
is_given (not_lexed at bad) K e = absurd cc
is_given (not_read tokens k lexed fault) K e = absurd cc
is_given (not_given file error s is) K e = absurd cc
is_given {sig = sig} {bytes = bytes} (given L g) K e =
    let same : L ≡ K = cc in
    subst (GivesStructure sig bytes) same g

module _ (file : File) (name bytes : List ℕ) where
  different : (problem : Reading) → reading_of file ≡ Ok problem → HasDifferentNames problem.signature
  different problem e = (profile-law file problem e).names

  tells : (text : List ℕ) → Lifts (Ok file) name (Ok bytes) (Ok text) → IsLiftedText file bytes text
  tells text h =
      let p = text_of (OfBytes name) file bytes text h in
      let sig = p.problem.signature in
      let t = judged_text sig file (ReadsInterpretation sig name bytes) (ktext sig) (different p.problem p.in_profile) (λ K reads. (is_given reads K refl).over) text p.so in
      record { problem = p.problem; in_profile = p.in_profile; K = t.K; gives = is_given t.reads t.K refl; countermodel = t.countermodel; text_is = t.line_is }

  told : (text : List ℕ) → IsLiftedText file bytes text → Lifts (Ok file) name (Ok bytes) (Ok text)
  told text l =
      let sig = l.problem.signature in
      has_text (OfBytes name) file bytes text l.problem l.in_profile
      (text_judged sig file (ReadsInterpretation sig name bytes) (ktext sig) (different l.problem l.in_profile) text
      (record { K = l.K; reads = given l.K l.gives; countermodel = l.countermodel; line_is = l.text_is }))

  pub lift_told : (text : List ℕ) → Lifts (Ok file) name (Ok bytes) (Ok text) ↔ IsLiftedText file bytes text
  lift_told text = (tells text, told text)

  -- ---- the printed problem

  to_printed : IsLifted file name bytes → IsPrintedCountermodel file bytes
  to_printed (text, h) =
      let l = tells text h in
      let same = (file-theorem file l.problem l.in_profile).same l.K l.gives.S l.gives.over l.gives.corresponds in
      record { problem = l.problem; in_profile = l.in_profile; S = l.gives.S; gives = l.gives.gives; countermodel = same.1 l.countermodel }

  from_printed : IsPrintedCountermodel file bytes → IsLifted file name bytes
  from_printed p =
      let sig = p.problem.signature in
      let k = some_structure sig bytes p.S (profile-law file p.problem p.in_profile).numbers p.gives in
      let same = (file-theorem file p.problem p.in_profile).same k.0 p.S k.1.over k.2 in
      (ktext sig k.0, told (ktext sig k.0) (record { problem = p.problem; in_profile = p.in_profile; K = k.0; gives = k.1; countermodel = same.0 p.countermodel; text_is = refl }))

  pub lifts_printed : IsLifted file name bytes ↔ IsPrintedCountermodel file bytes
  lifts_printed = (to_printed, from_printed)
