-- From what the parts of a run promise to its answer.
use Rattle.std.proofs.Common.{◌≡◌, ℕ, List, Option, None, Some, Result, Ok, Err, refl, sym, ap, subst, ◌∙◌}
use Rattle.std.specs.Prelude.{◌⊎◌, IfSome, IfOk, IfErr}
use mathlib.Core.Logic.{inl, inr}
use Rattle.nxf_base.specs.Files.{Files}
use Rattle.nxf_base.specs.Shelf.{Shelf}
use Rattle.nxf_base.specs.declared.status.Status.{Status}
use Rattle.nxf_base.specs.declared.status.Status.TheVariants as status
use Rattle.nxf_tree.specs.declared.tree.PartEntry.{PartEntry}
use Rattle.nxf_tree.specs.declared.tree.Signature.{Signature}
use Rattle.nxf_tree.specs.declared.tree.File.{File}
use Rattle.nxf_tree.specs.Profile.{Reading, Refusal, RefusedRole, RefusedSpec, RefusedSort}
use Rattle.nxf_tree.specs.Problem.{problem_of}
use Rattle.nxf_tree.specs.Structures.{KripkeStructure}
use Rattle.nxf_tree.specs.Text.{text_of}
use Rattle.nxf_tree.specs.WellFormed.{IsWellFormed}
use Rattle.nxf_tree.specs.declared.profile.Profile.TheVariants.{Classical}
use Rattle.fin_struct.specs.declared.condition.Condition.{Condition}
use Rattle.syntax_definitions.specs.Spells.{Spells}
use Rattle.syntax_definitions.specs.declared.gather_error.GatherError.{GatherError}
use Rattle.syntax_definitions.specs.declared.gather_error.GatherError.TheVariants as gather
use Rattle.syntax_definitions.specs.Gathered.{Gathers}
use Rattle.syntax_definitions.specs.Loading as loading
use Rattle.syntax_definitions.specs.Refusals as refusals
use Rattle.syntax_definitions.specs.Promises.{IsFine}
use Rattle.printed_text_laws.proofs.PrintedProblem.{printed_spelled, printed_only}
use Rattle.embedding_laws.specs.Laws.{FileTheorem}
use Rattle.formula_cells.specs.Checked.{CheckedFile}
use Rattle.formula_cells.specs.ReadAs.{IsReadAs}
use Rattle.kripke_text_definitions.specs.declared.error.KripkeTextError.{KripkeTextError}
use Rattle.kripke_text_definitions.specs.declared.error.KripkeTextError.TheVariants as text
use Rattle.kripke_text_definitions.specs.KripkeText.{ktext}
use Rattle.interpretation_definitions.specs.declared.error.InterpError.{InterpError}
use Rattle.interpretation_definitions.specs.declared.error.InterpError.TheVariants as interp
use Rattle.nxf_include.specs.Roots.{KeepEach, SomeFaultRose, EachMissRose}
use Rattle.nxf_include.proofs.CallerLemmas.{fault_after, misses_after}
use Rattle.answer_definitions.specs.Answer.{Answer, OrMemory, status_of_gathering, status_of_refusal}
use Rattle.answer_definitions.specs.Check.{ChecksBytes, Checks, countermodel_line}
use Rattle.answer_definitions.specs.InterpretationFile as interpretation
use Rattle.answer_definitions.specs.InterpretationFile.{ReadsInterpretation, status_of_interpretation}
use Rattle.answer_definitions.specs.KripkeFile as structure
use Rattle.answer_definitions.specs.KripkeFile.{ReadsStructure, status_of_text}
use Rattle.answer_definitions.specs.Lift.{Lifts, LiftsBytes}
use Rattle.answer_definitions.specs.ProblemFile.{IsReading, IsProfileRefusal, OfItsProblem}
use Rattle.answer_definitions.specs.TwoFiles.{AnswersReading, AnswersTwo}
use Rattle.answer_definitions.specs.Verdict.{IsVerdict, verdict}
use Rattle.answer_laws.proofs.OneCheck.{countermodel_told}
use Rattle.answer_laws.proofs.OneLift.{lift_told}
use Rattle.nxf_run.specs.Forms.{Form, form_of, Embed, Check, Lift, Later, NoForm}
use Rattle.nxf_run.specs.Answer.{IsAnswer, AnswersForm, AnswersFiles, Gathered, Loaded, answer_by}
use Rattle.nxf_run.specs.Ending.{LoadsFiles, NamesFile}
use Rattle.nxf_run.specs.Meaning.{IsTranslation, EmbedMeans, FilesMean, TextMeans}
use Rattle.nxf_run.specs.steps.Preparing.{AreLoaded, IsFirstRefusal, not_gathered, not_in_profile, not_loaded, LoadRefuses, EmbedRefuses, RefusesBy, Refuses, HasLoadCause}
use Rattle.nxf_run.proofs.Answering.{some_loaded}

-- ---- the translation of a file

module _ (file : File) where
  pub read_as : (parts : List PartEntry) (checked : CheckedFile) → IsReading file parts checked → IsReadAs file checked parts
  read_as parts checked reads = record { formulas = reads.formulas_are; parts = reads.parts_are }

  pub translation : (theorem : FileTheorem) → IsFine file → (parts : List PartEntry) (checked : CheckedFile) (text : List ℕ) → IsReading file parts checked → text ≡ text_of (problem_of checked.signature file) → IsTranslation file text
  translation theorem fine parts checked text reads is =
      let kept = theorem file reads.problem reads.in_profile in
      let good = subst IsWellFormed (sym reads.signature_is) reads.well_formed in
      let text_is = is ∙ ap (λ sig. text_of (problem_of sig file)) (sym reads.signature_is) in
      record {
        problem = reads.problem;
        in_profile = reads.in_profile;
        text_is = text_is;
        spells = subst (λ bytes. Spells Classical bytes (problem_of reads.problem.signature file)) (sym text_is) (printed_spelled reads.problem.signature file good fine.allowed fine.levels);
        no_other = λ other spelled. printed_only reads.problem.signature file other good fine.allowed fine.levels (subst (λ bytes. Spells Classical bytes other) text_is spelled);
        over = kept.over;
        keeps_countermodels = kept.same;
      }

-- ---- statuses that come from libraries

-- an error of gathering or loading is a refusal that the files decide, or it comes from outside
from_files_or_outside : (e : GatherError) → refusals.IsRefusalOfFiles e ⊎ ((status_of_gathering e ≡ status.ReadFault) ⊎ (status_of_gathering e ≡ status.Memory))
from_files_or_outside (gather.NoFile name) = inl tt
from_files_or_outside gather.ReadFault = inr (inl refl)
from_files_or_outside (gather.TooLong name) = inl tt
from_files_or_outside gather.TooMuch = inl tt
from_files_or_outside (gather.Deep name) = inl tt
from_files_or_outside (gather.Lex name offset) = inl tt
from_files_or_outside (gather.Syntax name place) = inl tt
from_files_or_outside (gather.NoSuchName file name) = inl tt
from_files_or_outside gather.Memory = inr (inr refl)

-- the causes of a failed load or gathering are those of its status
pub load_cause : {A : Type 0} (before now : List Shelf) (result : Result A GatherError) (e : GatherError) → result ≡ Err e
    → refusals.OnNoFile result (EachMissRose before now) → (result ≡ Err gather.ReadFault → SomeFaultRose before now) → HasLoadCause before now (status_of_gathering e)
load_cause before now result (gather.NoFile name) is miss fault = miss name is
load_cause before now result gather.ReadFault is miss fault = fault is
load_cause before now result (gather.TooLong name) is miss fault = tt
load_cause before now result gather.TooMuch is miss fault = tt
load_cause before now result (gather.Deep name) is miss fault = tt
load_cause before now result (gather.Lex name offset) is miss fault = tt
load_cause before now result (gather.Syntax name place) is miss fault = tt
load_cause before now result (gather.NoSuchName file name) is miss fault = tt
load_cause before now result gather.Memory is miss fault = tt

-- a cause after calls that kept all
pub cause_after : (before mid now : List Shelf) (s : Status) → KeepEach before mid → HasLoadCause mid now s → HasLoadCause before now s
cause_after before mid now (status.NoFile name) keeps h = misses_after before mid now keeps h
cause_after before mid now status.ReadFault keeps h = fault_after before mid now keeps h
cause_after before mid now _ keeps h = tt

-- it comes of no load
abbrev pub IsOfNoLoad : Status → Type 0
IsOfNoLoad s = (before now : List Shelf) → HasLoadCause before now s

same_no_load : {s t : Status} → s ≡ t → IsOfNoLoad t → IsOfNoLoad s
same_no_load e h = subst IsOfNoLoad (sym e) h

of_refusal : (refusal : Refusal) → IsOfNoLoad (status_of_refusal refusal)
of_refusal (RefusedRole kind place) = λ before now. tt
of_refusal (RefusedSpec kind) = λ before now. tt
of_refusal (RefusedSort kind place name) = λ before now. tt

pub profile_no_load : (file : File) (s : Status) → OrMemory (IsProfileRefusal file) s → IsOfNoLoad s
profile_no_load file s (inl h) = same_no_load h.status_is (of_refusal h.refusal)
profile_no_load file s (inr e) = same_no_load e (λ before now. tt)

of_text : (e : KripkeTextError) → IsOfNoLoad (status_of_text e)
of_text (text.Form k) = λ before now. tt
of_text (text.TooManyWorlds n) = λ before now. tt
of_text (text.TooBig c) = λ before now. tt
of_text text.Memory = λ before now. tt

of_given : (e : InterpError) → IsOfNoLoad (status_of_interpretation e)
of_given (interp.Kind kind) = λ before now. tt
of_given (interp.TooManyWorlds n) = λ before now. tt
of_given (interp.TooBig c) = λ before now. tt
of_given interp.Memory = λ before now. tt

abbrev refusal : Status → Result (List ℕ) Status
refusal s = Err s

refused_status : {s t : Status} → refusal s ≡ refusal t → s ≡ t
refused_status e = cc

-- what a second file is read as comes of no load

abbrev IsReadingOfNoLoad : Result KripkeStructure Status → Type 0
IsReadingOfNoLoad (Ok K) = Unit {0}
IsReadingOfNoLoad (Err s) = IsOfNoLoad s

of_structure : {sig : Signature} {name bytes : List ℕ} {reading : Result KripkeStructure Status} → ReadsStructure sig name bytes reading → IsReadingOfNoLoad reading
of_structure (structure.not_lexed at bad) = λ before now. tt
of_structure (structure.not_text tokens error lexed h other) = of_text error
of_structure (structure.read K spells few) = tt

of_interpretation : {sig : Signature} {name bytes : List ℕ} {reading : Result KripkeStructure Status} → ReadsInterpretation sig name bytes reading → IsReadingOfNoLoad reading
of_interpretation (interpretation.not_lexed at bad) = λ before now. tt
of_interpretation (interpretation.not_read tokens k lexed fault) = λ before now. tt
of_interpretation (interpretation.not_given file e spells is) = of_given e
of_interpretation (interpretation.given K gives) = tt

of_fault : (sig : Signature) (text : List ℕ) (fault : Option Condition) (s : Status) → Err s ≡ verdict sig text fault → IsOfNoLoad s
of_fault sig text None s e = absurd cc
of_fault sig text (Some fault) s e = same_no_load (refused_status e) (λ before now. tt)

of_verdict : (sig : Signature) (file : File) (text : KripkeStructure → List ℕ) (reading : Result KripkeStructure Status) (s : Status) → IsReadingOfNoLoad reading → IsVerdict sig file text reading (Err s) → IsOfNoLoad s
of_verdict sig file text (Err t) s o e = same_no_load (refused_status e) o
of_verdict sig file text (Ok K) s o v = of_fault sig (text K) v.0 s v.2

pub check_no_load : (name : List ℕ) (sig : Signature) (file : File) (bytes : List ℕ) (s : Status) → ChecksBytes sig file name bytes (Err s) → IsOfNoLoad s
check_no_load name sig file bytes s h = of_verdict sig file (λ K. countermodel_line) h.reading s (of_structure h.reads) h.judged

pub lift_no_load : (name : List ℕ) (sig : Signature) (file : File) (bytes : List ℕ) (s : Status) → LiftsBytes sig file name bytes (Err s) → IsOfNoLoad s
lift_no_load name sig file bytes s h = of_verdict sig file (ktext sig) h.reading s (of_interpretation h.reads) h.judged

-- ---- the answer to `embed`

module _ (told : Option Files) (name : List ℕ) where
  -- what a gathering gives, or a refusal that the files decide
  pub gathered_file : (file : File) → refusals.Meets told (λ files. Gathers files name) (Ok file) → Gathered told name (Ok file)
  gathered_file file (inl g) = g
  gathered_file file (inr (inl e)) = absurd cc
  gathered_file file (inr (inr e)) = absurd cc

  refused_gathering : (e : GatherError) → refusals.IsRefusalOfFiles e → refusals.Meets told (λ files. Gathers files name) (Err e) → Gathered told name (Err e)
  refused_gathering e o (inl g) = g
  refused_gathering e o (inr (inl d)) = absurd (let is : e ≡ gather.ReadFault = cc in subst refusals.IsRefusalOfFiles is o)
  refused_gathering e o (inr (inr d)) = absurd (let is : e ≡ gather.Memory = cc in subst refusals.IsRefusalOfFiles is o)

  pub embed_ungathered : (e : GatherError) → refusals.Meets told (λ files. Gathers files name) (Err e) → EmbedRefuses told name (status_of_gathering e)
  embed_ungathered e meets = by_cause (from_files_or_outside e)
    where
      by_cause : refusals.IsRefusalOfFiles e ⊎ ((status_of_gathering e ≡ status.ReadFault) ⊎ (status_of_gathering e ≡ status.Memory)) → EmbedRefuses told name (status_of_gathering e)
      by_cause (inl o) = inl (record { outcome = Err e; gathered = refused_gathering e o meets; of_files = o; answer_is = refl })
      by_cause (inr outside) = inr outside

  module _ (file : File) (gathered : Gathered told name (Ok file)) where
    pub embed_refused : (s : Status) → OrMemory (IsProfileRefusal file) s → EmbedRefuses told name s
    embed_refused s (inl h) = inl (record { outcome = Ok file; gathered = gathered; of_files = tt; answer_is = ap Err h.status_is ∙ sym (ap (answer_by file) h.refused) })
    embed_refused s (inr e) = inr (inr e)

    pub embed_means : (text : List ℕ) → IsTranslation file text → EmbedMeans told name text
    embed_means text t = record { file = file; gathered = gathered; translation = t }

-- ---- two files are loaded

turned : (told : Option Files) (name : List ℕ) (bytes : Result (List ℕ) GatherError) → IfSome told (λ files. loading.loaded files name ≡ bytes) → Loaded told name bytes
turned None name bytes h = tt
turned (Some files) name bytes h = sym h

-- a refused load, by files that are those from before
refused_load : (told : Option Files) (name : List ℕ) (e : GatherError) → refusals.IsRefusalOfFiles e → refusals.Refuses told (λ files. loading.loaded files name) e → Loaded told name (Err e)
refused_load told name e o (inl h) = turned told name (Err e) h
refused_load told name e o (inr (inl d)) = absurd (subst refusals.IsRefusalOfFiles d o)
refused_load told name e o (inr (inr d)) = absurd (subst refusals.IsRefusalOfFiles d o)

module _ (told : Option Files) (name second : List ℕ) where
  pub load_ungathered : (e : GatherError) → refusals.Meets told (λ files. Gathers files name) (Err e) → LoadRefuses told name second (status_of_gathering e)
  load_ungathered e meets = by_cause (from_files_or_outside e)
    where
      by_cause : refusals.IsRefusalOfFiles e ⊎ ((status_of_gathering e ≡ status.ReadFault) ⊎ (status_of_gathering e ≡ status.Memory)) → LoadRefuses told name second (status_of_gathering e)
      by_cause (inl o) = inl (not_gathered e (refused_gathering told name e o meets) o)
      by_cause (inr outside) = inr outside

  module _ (file : File) (gathered : Gathered told name (Ok file)) where
    pub load_refused : (s : Status) → OrMemory (IsProfileRefusal file) s → LoadRefuses told name second s
    load_refused s (inl h) = inl (subst (IsFirstRefusal told name second) (sym h.status_is) (not_in_profile file h.refusal gathered h.refused))
    load_refused s (inr e) = inr (inr e)

    module _ (parts : List PartEntry) (checked : CheckedFile) (reads : IsReading file parts checked) where
      pub load_unloaded : (e : GatherError) → refusals.Refuses told (λ files. loading.loaded files second) e → LoadRefuses told name second (status_of_gathering e)
      load_unloaded e refuses = by_cause (from_files_or_outside e)
        where
          by_cause : refusals.IsRefusalOfFiles e ⊎ ((status_of_gathering e ≡ status.ReadFault) ⊎ (status_of_gathering e ≡ status.Memory)) → LoadRefuses told name second (status_of_gathering e)
          by_cause (inl o) = inl (not_loaded file reads.problem e gathered reads.in_profile (refused_load told second e o refuses) o)
          by_cause (inr outside) = inr outside

      pub are_loaded : (bytes : List ℕ) → IfSome told (λ files. loading.loaded files second ≡ Ok bytes) → AreLoaded told name second parts checked bytes
      are_loaded bytes loaded = record { file = file; gathered = gathered; reads = reads; loaded = turned told second (Ok bytes) loaded }

  -- ---- the answer to two files

  module _ (OfBytes : Signature → File → List ℕ → Answer → Type 0) where
    -- each command with two files answers with their first refusal
    first_refusal : {s : Status} → IsFirstRefusal told name second s → AnswersFiles told name second (AnswersTwo OfBytes) (Err s)
    first_refusal (not_gathered e gathered o) =
        let l = some_loaded told second in
        record { outcome = Err e; gathered = gathered; of_files = o; bytes = l.0; loaded = l.1; loaded_of_files = l.2; answers = refl }
    first_refusal (not_in_profile file refused gathered e) =
        let l = some_loaded told second in
        record {
          outcome = Ok file;
          gathered = gathered;
          of_files = tt;
          bytes = l.0;
          loaded = l.1;
          loaded_of_files = l.2;
          answers = subst (λ (r : Result Reading Refusal). AnswersReading (λ sig. OfBytes sig file) r l.0 (Err (status_of_refusal refused))) (sym e) refl;
        }
    first_refusal (not_loaded file problem e gathered in_profile loaded o) = record {
      outcome = Ok file;
      gathered = gathered;
      of_files = tt;
      bytes = Err e;
      loaded = loaded;
      loaded_of_files = o;
      answers = subst (λ (r : Result Reading Refusal). AnswersReading (λ sig. OfBytes sig file) r (Err e) (Err (status_of_gathering e))) (sym in_profile) refl;
    }

    pub refused_first : (s : Status) → LoadRefuses told name second s → RefusesBy (AnswersFiles told name second (AnswersTwo OfBytes)) s
    refused_first s (inl h) = inl (first_refusal h)
    refused_first s (inr outside) = inr outside

    module _ (parts : List PartEntry) (checked : CheckedFile) (bytes : List ℕ) (are : AreLoaded told name second parts checked bytes) where
      answers : (answer : Answer) → OfItsProblem checked parts (λ file. OfBytes checked.signature file bytes answer) → AnswersTwo OfBytes (Ok are.file) (Ok bytes) answer
      answers answer h =
          subst (λ (r : Result Reading Refusal). AnswersReading (λ sig. OfBytes sig are.file) r (Ok bytes) answer) (sym are.reads.in_profile)
          (subst (λ (sig : Signature). OfBytes sig are.file bytes answer) (sym are.reads.signature_is) (h are.file are.reads))

      pub files_mean : (Means : File → List ℕ → List ℕ → Type 0) (text : List ℕ) → ((file : File) → AnswersTwo OfBytes (Ok file) (Ok bytes) (Ok text) → Means file bytes text)
          → OfItsProblem checked parts (λ file. OfBytes checked.signature file bytes (Ok text)) → FilesMean told name second Means text
      files_mean Means text tell h = record { file = are.file; gathered = are.gathered; bytes = bytes; loaded = are.loaded; means = tell are.file (answers (Ok text) h) }

      pub refused_then : (s : Status) → OrMemory (λ s. OfItsProblem checked parts (λ file. OfBytes checked.signature file bytes (Err s))) s → RefusesBy (AnswersFiles told name second (AnswersTwo OfBytes)) s
      refused_then s (inl h) = inl (record {
        outcome = Ok are.file;
        gathered = are.gathered;
        of_files = tt;
        bytes = Ok bytes;
        loaded = are.loaded;
        loaded_of_files = tt;
        answers = answers (Err s) h;
      })
      refused_then s (inr e) = inr (inr e)

      pub then_no_load : ((sig : Signature) (file : File) (s : Status) → OfBytes sig file bytes (Err s) → IsOfNoLoad s)
          → (s : Status) → OrMemory (λ s. OfItsProblem checked parts (λ file. OfBytes checked.signature file bytes (Err s))) s → IsOfNoLoad s
      then_no_load none s (inl h) = none checked.signature are.file s (h are.file are.reads)
      then_no_load none s (inr e) = same_no_load e (λ before now. tt)

-- ---- the answer to the words

module _ (told : Option Files) (words : List (List ℕ)) (form : Form) (is : form ≡ form_of words) where
  pub means_form : {A : Type 0} (text : A → List ℕ) (result : Result A Status) → IfOk result (λ x. TextMeans told form (text x)) → IfOk result (λ x. TextMeans told (form_of words) (text x))
  means_form text result h = subst (λ (f : Form). IfOk result (λ x. TextMeans told f (text x))) is h

  pub refuses_form : {A : Type 0} (result : Result A Status) → IfErr result (RefusesBy (AnswersForm told form)) → IfErr result (Refuses told words)
  refuses_form result h = subst (λ (f : Form). IfErr result (RefusesBy (AnswersForm told f))) is h

pub names_file : (words : List (List ℕ)) (form : Form) → form ≡ form_of words → LoadsFiles form → NamesFile words
names_file words form is h = subst LoadsFiles is h

-- a text is the answer to two files
of_two_files : (told : Option Files) (name second : List ℕ) (Answers : Result File GatherError → Result (List ℕ) GatherError → Answer → Type 0) (Means : File → List ℕ → List ℕ → Type 0) (text : List ℕ)
    → ((file : File) (bytes : List ℕ) → Means file bytes text → Answers (Ok file) (Ok bytes) (Ok text)) → FilesMean told name second Means text → AnswersFiles told name second Answers (Ok text)
of_two_files told name second Answers Means text tell h = record {
  outcome = Ok h.file;
  gathered = h.gathered;
  of_files = tt;
  bytes = Ok h.bytes;
  loaded = h.loaded;
  loaded_of_files = tt;
  answers = tell h.file h.bytes h.means;
}

-- a text is the answer
text_answers : (told : Option Files) (form : Form) (text : List ℕ) → TextMeans told form text → AnswersForm told form (Ok text)
text_answers told (Embed name) text h =
    let t = h.translation in
    record { outcome = Ok h.file; gathered = h.gathered; of_files = tt; answer_is = ap Ok t.text_is ∙ sym (ap (answer_by h.file) t.in_profile) }
text_answers told (Check name second) text h = of_two_files told name second (λ outcome bytes. Checks outcome second bytes) _ text (λ file bytes. (countermodel_told file second bytes text).1) h
text_answers told (Lift name second) text h = of_two_files told name second (λ outcome bytes. Lifts outcome second bytes) _ text (λ file bytes. (lift_told file second bytes text).1) h
text_answers told Later text h = absurd h
text_answers told NoForm text h = absurd h

pub is_answer : (told : Option Files) (words : List (List ℕ)) (text : List ℕ) → TextMeans told (form_of words) text → IsAnswer told words (Ok text)
is_answer told words text h = text_answers told (form_of words) text h
