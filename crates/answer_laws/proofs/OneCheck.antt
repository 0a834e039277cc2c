-- `check` has exactly one answer, and its line tells a countermodel.
use Rattle.std.proofs.Common.{◌≡◌, ◌↔◌, ℕ, List, Result, Ok, refl, subst}
use Rattle.nxf_base.specs.Exactly.{ExactlyOne}
use Rattle.nxf_base.specs.declared.status.Status.{Status}
use Rattle.nxf_tree.specs.declared.tree.Signature.{Signature}
use Rattle.nxf_tree.specs.declared.tree.File.{File}
use Rattle.nxf_tree.specs.Structures.{KripkeStructure}
use Rattle.nxf_tree.specs.WellFormed.{HasDifferentNames}
use Rattle.nxf_tree.specs.Profile.{Reading, reading_of}
use Rattle.syntax_definitions.specs.declared.gather_error.GatherError.{GatherError}
use Rattle.signature_laws.proofs.FileReading.{profile-law}
use Rattle.kripke_text_definitions.specs.Reading.{AreFew}
use Rattle.answer_definitions.specs.Answer.{Answer}
use Rattle.answer_definitions.specs.Check.{countermodel_line, ChecksBytes, Checks, IsCountermodelText}
use Rattle.answer_definitions.specs.KripkeFile.{SpellsStructure, ReadsStructure, not_lexed, not_text, read}
use Rattle.answer_laws.proofs.OneReading.{some_reading, one_reading}
use Rattle.answer_laws.proofs.TwoAnswers.{HasSome, HasNoTwo, some_answer, one_answer, exactly_one_answer, text_of, has_text}
use Rattle.answer_laws.proofs.Verdicts.{some_judged, one_judged, judged_text, text_judged}

abbrev line : KripkeStructure → List ℕ
line K = countermodel_line

-- ---- the answer

module _ (name : List ℕ) where
  abbrev OfBytes : Signature → File → List ℕ → Answer → Type 0
  OfBytes sig file = ChecksBytes sig file name

  some : HasSome OfBytes
  some file problem e bytes =
      let r = some_reading problem.signature name bytes (profile-law file problem e).numbers in
      some_judged problem.signature file (ReadsStructure problem.signature name bytes) line r.0 r.1

  no_two : HasNoTwo OfBytes
  no_two sig file bytes a b h k = one_judged sig file (ReadsStructure sig name bytes) line (λ r s x y. one_reading x y) a b h k

pub some_check : (outcome : Result File GatherError) (name : List ℕ) (loaded : Result (List ℕ) GatherError) → (answer : Answer) × Checks outcome name loaded answer
some_check outcome name loaded = some_answer (OfBytes name) (some name) outcome loaded

pub one_check : (outcome : Result File GatherError) (name : List ℕ) (loaded : Result (List ℕ) GatherError) (a b : Answer) → Checks outcome name loaded a → Checks outcome name loaded b → a ≡ b
one_check outcome name loaded a b h k = one_answer (OfBytes name) (no_two name) outcome loaded a b h k

pub exactly_one_check : (outcome : Result File GatherError) (name : List ℕ) (loaded : Result (List ℕ) GatherError) → ExactlyOne (Checks outcome name loaded)
exactly_one_check outcome name loaded = exactly_one_answer (OfBytes name) (some name) (no_two name) outcome loaded

-- ---- the line

-- a structure that is read is spelled by the bytes, and within the limits
spelled : {sig : Signature} {name bytes : List ℕ} {r : Result KripkeStructure Status} → ReadsStructure sig name bytes r → (K : KripkeStructure) → r ≡ Ok K → SpellsStructure sig bytes K × AreFew sig K.worlds K.sizes
spelled (not_lexed at bad) K e = absurd cc
spelled (not_text tokens error lexed h other) K e = absurd cc
spelled {sig = sig} {bytes = bytes} (read L text few) K e =
    let same : L ≡ K = cc in
    subst (λ (J : KripkeStructure). SpellsStructure sig bytes J × AreFew sig J.worlds J.sizes) same (text, few)

module _ (file : File) (name bytes text : List ℕ) where
  different : (problem : Reading) → reading_of file ≡ Ok problem → HasDifferentNames problem.signature
  different problem e = (profile-law file problem e).names

  tells : Checks (Ok file) name (Ok bytes) (Ok text) → (text ≡ countermodel_line) × IsCountermodelText file bytes
  tells h =
      let p = text_of (OfBytes name) file bytes text h in
      let sig = p.problem.signature in
      let t = judged_text sig file (ReadsStructure sig name bytes) line (different p.problem p.in_profile) (λ K reads. (spelled reads K refl).0.over) text p.so in
      let s = spelled t.reads t.K refl in
      (t.line_is, record { problem = p.problem; in_profile = p.in_profile; K = t.K; spells = s.0; few = s.1; countermodel = t.countermodel })

  told : (text ≡ countermodel_line) × IsCountermodelText file bytes → Checks (Ok file) name (Ok bytes) (Ok text)
  told h =
      let c = h.1 in
      let sig = c.problem.signature in
      has_text (OfBytes name) file bytes text c.problem c.in_profile
      (text_judged sig file (ReadsStructure sig name bytes) line (different c.problem c.in_profile) text
      (record { K = c.K; reads = read c.K c.spells c.few; countermodel = c.countermodel; line_is = h.0 }))

pub countermodel_told : (file : File) (name bytes line : List ℕ) → Checks (Ok file) name (Ok bytes) (Ok line) ↔ ((line ≡ countermodel_line) × IsCountermodelText file bytes)
countermodel_told file name bytes line = (tells file name bytes line, told file name bytes line)
