-- The words have exactly one answer, and a refusal in it is none of those that come from outside.
use Rattle.std.proofs.Common.{◌≡◌, ◌≢◌, ℕ, leb, Bool, true, false, cond, length, List, Option, None, Some, Result, Ok, Err, refl, sym, ap, subst, ◌∙◌}
use Rattle.nxf_base.specs.Exactly.{ExactlyOne}
use Rattle.nxf_base.specs.Files.{Files, file_of}
use Rattle.nxf_base.specs.declared.status.Status.{Status}
use Rattle.nxf_base.specs.declared.status.Status.TheVariants as status
use Rattle.nxf_tree.specs.declared.tree.File.{File}
use Rattle.nxf_tree.specs.declared.tree.Signature.{Signature}
use Rattle.nxf_tree.specs.ClassicalSignature.{classical_signature_of}
use Rattle.nxf_tree.specs.Profile.{Reading, Refusal, RefusedRole, RefusedSpec, RefusedSort, reading_of}
use Rattle.nxf_tree.specs.Structures.{KripkeStructure}
use Rattle.fin_struct.specs.declared.condition.Condition.{Condition}
use Rattle.syntax_definitions.specs.declared.gather_error.GatherError.{GatherError}
use Rattle.syntax_definitions.specs.declared.gather_error.GatherError.TheVariants as gather
use Rattle.syntax_definitions.specs.Loading as loading
use Rattle.syntax_definitions.specs.Refusals.{IsOfFiles, IsRefusalOfFiles}
use Rattle.gathering_laws.proofs.ExactlyOne.{exactly_one}
use Rattle.gathering_laws.proofs.OneGathering.{one_gathering}
use Rattle.gathering_laws.proofs.SomeGathering.{some_gathering, gathering_of_files}
use Rattle.kripke_text_definitions.specs.declared.error.KripkeTextError.{KripkeTextError}
use Rattle.kripke_text_definitions.specs.declared.error.KripkeTextError.TheVariants as text
use Rattle.kripke_text_definitions.specs.KripkeText.{ktext}
use Rattle.interpretation_definitions.specs.declared.error.InterpError.{InterpError}
use Rattle.interpretation_definitions.specs.declared.error.InterpError.TheVariants as interp
use Rattle.answer_definitions.specs.Answer.{Answer, status_of_gathering, status_of_refusal}
use Rattle.answer_definitions.specs.Check.{Checks, ChecksBytes, countermodel_line}
use Rattle.answer_definitions.specs.InterpretationFile as interpretation
use Rattle.answer_definitions.specs.InterpretationFile.{ReadsInterpretation, status_of_interpretation}
use Rattle.answer_definitions.specs.KripkeFile as structure
use Rattle.answer_definitions.specs.KripkeFile.{ReadsStructure, status_of_text}
use Rattle.answer_definitions.specs.Lift.{Lifts, LiftsBytes}
use Rattle.answer_definitions.specs.TwoFiles.{AnswersLoaded, AnswersReading, AnswersTwo}
use Rattle.answer_definitions.specs.Verdict.{IsVerdict, verdict}
use Rattle.answer_laws.proofs.OneCheck.{some_check, one_check}
use Rattle.answer_laws.proofs.OneLift.{some_lift, one_lift}
use Rattle.answer_laws.proofs.Refusals.{no_memory}
use Rattle.nxf_run.specs.Forms.{Form, form_of, Embed, Check, Lift, Later, NoForm}
use Rattle.nxf_run.specs.Answer.{IsAnswer, AnswersForm, AnswersEmbed, AnswersFiles, Gathered, Loaded, answer_to, answer_by}

-- ---- no two answers

module _ (files : Files) where
  one_of_embed : (name : List ℕ) (a b : Answer) → AnswersEmbed (Some files) name a → AnswersEmbed (Some files) name b → a ≡ b
  one_of_embed name a b h k = h.answer_is ∙ ap answer_to (one_gathering files name h.outcome k.outcome h.gathered k.gathered) ∙ sym k.answer_is

  -- a command with two files
  module _ (Answers : Result File GatherError → Result (List ℕ) GatherError → Answer → Type 0)
      (one : (outcome : Result File GatherError) (loaded : Result (List ℕ) GatherError) (a b : Answer) → Answers outcome loaded a → Answers outcome loaded b → a ≡ b) where
    one_of_two : (name second : List ℕ) (a b : Answer) → AnswersFiles (Some files) name second Answers a → AnswersFiles (Some files) name second Answers b → a ≡ b
    one_of_two name second a b h k =
        let of_outcome = subst (λ (o : Result File GatherError). Answers o k.bytes b) (one_gathering files name k.outcome h.outcome k.gathered h.gathered) k.answers in
        one h.outcome h.bytes a b h.answers (subst (λ (bytes : Result (List ℕ) GatherError). Answers h.outcome bytes b) (k.loaded ∙ sym h.loaded) of_outcome)

  one_of_form : (form : Form) (a b : Answer) → AnswersForm (Some files) form a → AnswersForm (Some files) form b → a ≡ b
  one_of_form (Embed name) a b h k = one_of_embed name a b h k
  one_of_form (Check name second) a b h k = one_of_two (λ outcome bytes. Checks outcome second bytes) (λ outcome bytes x y. one_check outcome second bytes x y) name second a b h k
  one_of_form (Lift name second) a b h k = one_of_two (λ outcome bytes. Lifts outcome second bytes) (λ outcome bytes x y. one_lift outcome second bytes x y) name second a b h k
  one_of_form Later a b h k = h ∙ sym k
  one_of_form NoForm a b h k = h ∙ sym k

pub one_answer : (files : Files) (words : List (List ℕ)) (a b : Answer) → IsAnswer (Some files) words a → IsAnswer (Some files) words b → a ≡ b
one_answer files words a b h k = one_of_form files (form_of words) a b h k

-- ---- there is an answer

within_of_files : (name bytes : List ℕ) (small : Bool) → IsOfFiles (cond small (Ok bytes) (Err (gather.TooLong name)))
within_of_files name bytes true = tt
within_of_files name bytes false = tt

found_of_files : (name : List ℕ) (found : Option (List ℕ)) → IsOfFiles (loading.within name found)
found_of_files name None = tt
found_of_files name (Some bytes) = within_of_files name bytes (leb (length bytes) 16777216)

-- a gathering by the files; where they aren't told, any result is one
pub some_outcome : (told : Option Files) (name : List ℕ) → (outcome : Result File GatherError) × Gathered told name outcome × IsOfFiles outcome
some_outcome None name = (Err gather.TooMuch, tt, tt)
some_outcome (Some files) name = let g = some_gathering files name in (g.0, g.1, gathering_of_files files name g.0 g.1)

-- the same for a load
pub some_loaded : (told : Option Files) (name : List ℕ) → (bytes : Result (List ℕ) GatherError) × Loaded told name bytes × IsOfFiles bytes
some_loaded None name = (Err gather.TooMuch, tt, tt)
some_loaded (Some files) name = (loading.loaded files name, refl, found_of_files name (file_of name files))

some_of_two : (told : Option Files) (name second : List ℕ) (Answers : Result File GatherError → Result (List ℕ) GatherError → Answer → Type 0)
    → ((outcome : Result File GatherError) (loaded : Result (List ℕ) GatherError) → (answer : Answer) × Answers outcome loaded answer) → (answer : Answer) × AnswersFiles told name second Answers answer
some_of_two told name second Answers some =
    let o = some_outcome told name in
    let l = some_loaded told second in
    let a = some o.0 l.0 in
    (a.0, record { outcome = o.0; gathered = o.1; of_files = o.2; bytes = l.0; loaded = l.1; loaded_of_files = l.2; answers = a.1 })

answer_by_form : (told : Option Files) (form : Form) → (answer : Answer) × AnswersForm told form answer
answer_by_form told (Embed name) =
    let o = some_outcome told name in
    (answer_to o.0, record { outcome = o.0; gathered = o.1; of_files = o.2; answer_is = refl })
answer_by_form told (Check name second) = some_of_two told name second (λ outcome bytes. Checks outcome second bytes) (λ outcome bytes. some_check outcome second bytes)
answer_by_form told (Lift name second) = some_of_two told name second (λ outcome bytes. Lifts outcome second bytes) (λ outcome bytes. some_lift outcome second bytes)
answer_by_form told Later = (Err status.NotYet, refl)
answer_by_form told NoForm = (Err status.Usage, refl)

pub some_answer : (told : Option Files) (words : List (List ℕ)) → (answer : Answer) × IsAnswer told words answer
some_answer told words = answer_by_form told (form_of words)

pub exactly_one_answer : (files : Files) (words : List (List ℕ)) → ExactlyOne (IsAnswer (Some files) words)
exactly_one_answer files words = exactly_one (IsAnswer (Some files) words) (some_answer (Some files) words) (one_answer files words)

-- ---- what a refusal is

-- it is a refusal that the words or the files decide
abbrev pub IsRefusal : Status → Type 0
IsRefusal status.Ok = ⊥
IsRefusal status.ReadFault = ⊥
IsRefusal status.WriteFault = ⊥
IsRefusal status.Memory = ⊥
IsRefusal _ = Unit {0}

abbrev IsKnown : Answer → Type 0
IsKnown (Ok text) = Unit {0}
IsKnown (Err s) = IsRefusal s

of_refusal : (refusal : Refusal) → IsRefusal (status_of_refusal refusal)
of_refusal (RefusedRole kind place) = tt
of_refusal (RefusedSpec kind) = tt
of_refusal (RefusedSort kind place name) = tt

pub of_error : (e : GatherError) → IsRefusalOfFiles e → IsRefusal (status_of_gathering e)
of_error (gather.NoFile name) o = tt
of_error gather.ReadFault o = absurd o
of_error (gather.TooLong name) o = tt
of_error gather.TooMuch o = tt
of_error (gather.Deep name) o = tt
of_error (gather.Lex name offset) o = tt
of_error (gather.Syntax name place) o = tt
of_error (gather.NoSuchName file name) o = tt
of_error gather.Memory o = absurd o

of_text : (e : KripkeTextError) → e ≢ text.Memory → IsRefusal (status_of_text e)
of_text (text.Form k) other = tt
of_text (text.TooManyWorlds n) other = tt
of_text (text.TooBig c) other = tt
of_text text.Memory other = absurd (other refl)

of_given : (e : InterpError) → e ≢ interp.Memory → IsRefusal (status_of_interpretation e)
of_given (interp.Kind kind) other = tt
of_given (interp.TooManyWorlds n) other = tt
of_given (interp.TooBig c) other = tt
of_given interp.Memory other = absurd (other refl)

-- ---- the answer to `embed`

of_profile : (file : File) (outcome : Result Reading Refusal) → IsKnown (answer_by file outcome)
of_profile file (Ok problem) = tt
of_profile file (Err refusal) = of_refusal refusal

of_files : (outcome : Result File GatherError) → IsOfFiles outcome → IsKnown (answer_to outcome)
of_files (Ok file) o = of_profile file (reading_of file)
of_files (Err e) o = of_error e o

-- ---- the answers to two files

same_known : {a b : Answer} → a ≡ b → IsKnown b → IsKnown a
same_known e h = subst IsKnown (sym e) h

module _ (OfBytes : Signature → File → List ℕ → Answer → Type 0) (known : (sig : Signature) (file : File) (bytes : List ℕ) (answer : Answer) → OfBytes sig file bytes answer → IsKnown answer) where
  of_loaded : (sig : Signature) (file : File) (loaded : Result (List ℕ) GatherError) (answer : Answer) → IsOfFiles loaded → AnswersLoaded (OfBytes sig file) loaded answer → IsKnown answer
  of_loaded sig file (Err error) answer o e = same_known e (of_error error o)
  of_loaded sig file (Ok bytes) answer o h = known sig file bytes answer h

  of_reading : (file : File) (read : Result Reading Refusal) (loaded : Result (List ℕ) GatherError) (answer : Answer) → IsOfFiles loaded → AnswersReading (λ sig. OfBytes sig file) read loaded answer → IsKnown answer
  of_reading file (Err refusal) loaded answer o e = same_known e (of_refusal refusal)
  of_reading file (Ok problem) loaded answer o h = of_loaded problem.signature file loaded answer o h

  of_two : (outcome : Result File GatherError) (loaded : Result (List ℕ) GatherError) (answer : Answer) → IsOfFiles outcome → IsOfFiles loaded → AnswersTwo OfBytes outcome loaded answer → IsKnown answer
  of_two (Err error) loaded answer o l e = same_known e (of_error error o)
  of_two (Ok file) loaded answer o l h = of_reading file (reading_of file) loaded answer l h

-- what a second file is read as

abbrev IsKnownReading : Result KripkeStructure Status → Type 0
IsKnownReading (Ok K) = Unit {0}
IsKnownReading (Err s) = IsRefusal s

of_structure : {sig : Signature} {name bytes : List ℕ} {reading : Result KripkeStructure Status} → ReadsStructure sig name bytes reading → IsKnownReading reading
of_structure (structure.not_lexed at bad) = tt
of_structure (structure.not_text tokens error lexed h other) = of_text error other
of_structure (structure.read K spells few) = tt

of_interpretation : {sig : Signature} {name bytes : List ℕ} {reading : Result KripkeStructure Status} → ReadsInterpretation sig name bytes reading → IsKnownReading reading
of_interpretation (interpretation.not_lexed at bad) = tt
of_interpretation (interpretation.not_read tokens k lexed fault) = tt
of_interpretation {sig = sig} (interpretation.not_given file e spells is) = of_given e (λ same. no_memory (classical_signature_of sig) file (is ∙ ap Err same))
of_interpretation (interpretation.given K gives) = tt

of_fault : (sig : Signature) (text : List ℕ) (fault : Option Condition) → IsKnown (verdict sig text fault)
of_fault sig text None = tt
of_fault sig text (Some fault) = tt

of_verdict : (sig : Signature) (file : File) (text : KripkeStructure → List ℕ) (reading : Result KripkeStructure Status) (answer : Answer) → IsKnownReading reading → IsVerdict sig file text reading answer → IsKnown answer
of_verdict sig file text (Err s) answer o e = same_known e o
of_verdict sig file text (Ok K) answer o v = same_known v.2 (of_fault sig (text K) v.0)

of_check : (name : List ℕ) (sig : Signature) (file : File) (bytes : List ℕ) (answer : Answer) → ChecksBytes sig file name bytes answer → IsKnown answer
of_check name sig file bytes answer h = of_verdict sig file (λ K. countermodel_line) h.reading answer (of_structure h.reads) h.judged

of_lift : (name : List ℕ) (sig : Signature) (file : File) (bytes : List ℕ) (answer : Answer) → LiftsBytes sig file name bytes answer → IsKnown answer
of_lift name sig file bytes answer h = of_verdict sig file (ktext sig) h.reading answer (of_interpretation h.reads) h.judged

-- ---- the answer to the words

known : (told : Option Files) (form : Form) (answer : Answer) → AnswersForm told form answer → IsKnown answer
known told (Embed name) answer h = same_known h.answer_is (of_files h.outcome h.of_files)
known told (Check name second) answer h = of_two (λ sig file. ChecksBytes sig file second) (of_check second) h.outcome h.bytes answer h.of_files h.loaded_of_files h.answers
known told (Lift name second) answer h = of_two (λ sig file. LiftsBytes sig file second) (of_lift second) h.outcome h.bytes answer h.of_files h.loaded_of_files h.answers
known told Later answer e = same_known e tt
known told NoForm answer e = same_known e tt

pub known_refusal : (told : Option Files) (words : List (List ℕ)) (s : Status) → IsAnswer told words (Err s) → IsRefusal s
known_refusal told words s h = known told (form_of words) (Err s) h
