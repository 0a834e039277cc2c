-- The ways in which a run ends.
use Rattle.std.proofs.Common.{◌≡◌, ◌≢◌, ◌≤◌, ℕ, List, [], Option, Some, Ok, Err, refl, sym, ap, subst, ◌∙◌, arith}
use Rattle.std.specs.Prelude.{◌⊎◌}
use mathlib.Core.Logic.{inl, inr}
use Rattle.nxf_base.specs.Causes.{Rose}
use Rattle.nxf_base.specs.Files.{Files}
use Rattle.nxf_base.specs.declared.status.Status.{Status}
use Rattle.nxf_base.specs.declared.status.Status.TheVariants as status
use Rattle.nxf_include.specs.Roots.{KeepEach}
use Rattle.answer_definitions.specs.Answer.{Answer}
use Rattle.nxf_run.specs.Answer.{IsAnswer}
use Rattle.nxf_run.specs.Ending.{AppendsSomeOf, GivesSome, GivesNothing, NamesFile, Follows, MayEnd, TellsSome, Tells, Reports, Completes}
use Rattle.nxf_run.specs.Run.{Run, files_told}
use Rattle.nxf_run.specs.steps.Preparing.{Refuses, IsOfLoading, HasLoadCause}
use Rattle.nxf_run.proofs.Answering.{IsRefusal, one_answer, some_answer, known_refusal}
use Rattle.nxf_run.proofs.Appending.{appends_none}

-- nothing of the answer was written
none_of : (answer : Answer) (held : Option (List ℕ)) → AppendsSomeOf answer held held
none_of (Ok text) held = record { done = []; rest = text; whole = refl; appends = appends_none held }
none_of (Err s) held = refl

-- want of memory, where nothing was written
no_memory_follows : (run : Run) → GivesNothing run → Follows run status.Memory
no_memory_follows run same =
    let some = some_answer (files_told run) run.words in
    (some.0, some.1, subst (λ x. AppendsSomeOf some.0 run.out.held x) (sym same) (none_of some.0 run.out.held))

-- a refusal of the answer, where nothing was written
answer_follows : (run : Run) (s : Status) → IsRefusal s → IsAnswer (files_told run) run.words (Err s) → GivesNothing run → Follows run s
answer_follows run status.Ok known h same = absurd known
answer_follows run status.ReadFault known h same = absurd known
answer_follows run status.WriteFault known h same = absurd known
answer_follows run status.Memory known h same = absurd known
answer_follows run _ known h same = (h, same)

-- a refusal that may be told, where nothing was written
refusal_follows : (run : Run) (s : Status) → Refuses (files_told run) run.words s → GivesNothing run → Follows run s
refusal_follows run s (inl h) same = answer_follows run s (known_refusal (files_told run) run.words s h) h same
refusal_follows run s (inr (inl e)) same = subst (Follows run) (sym e) same
refusal_follows run s (inr (inr e)) same = subst (Follows run) (sym e) (no_memory_follows run same)

pub not_ok : (told : Option Files) (words : List (List ℕ)) (s : Status) → Refuses told words s → s ≢ status.Ok
not_ok told words s (inl h) e = subst IsRefusal e (known_refusal told words s h)
not_ok told words s (inr (inl d)) e = let x = sym d ∙ e in cc
not_ok told words s (inr (inr d)) e = let x = sym d ∙ e in cc

never_write_fault : (told : Option Files) (words : List (List ℕ)) (s : Status) → Refuses told words s → s ≢ status.WriteFault
never_write_fault told words s (inl h) e = subst IsRefusal e (known_refusal told words s h)
never_write_fault told words s (inr (inl d)) e = let x = sym d ∙ e in cc
never_write_fault told words s (inr (inr d)) e = let x = sym d ∙ e in cc

pub never_ok : (s result : Status) → s ≢ status.Ok → (result ≡ s) ⊎ (result ≡ status.Memory) → result ≢ status.Ok
never_ok s result other (inl e) d = other (sym e ∙ d)
never_ok s result other (inr e) d = let x = sym e ∙ d in cc

-- ---- the statuses that follow another

module _ (run : Run) where
  -- where the line of a status finds no memory, the run ends in want of memory
  memory_after : (s : Status) → s ≢ status.Ok → Follows run s → Follows run status.Memory
  memory_after status.Ok other h = absurd (other refl)
  memory_after status.WriteFault other h = (Ok h.0, h.1, h.2)
  memory_after status.Memory other h = h
  memory_after status.ReadFault other h = no_memory_follows run h
  memory_after s other h = (Err s, h.0, h.1)

  memory_ends : (s : Status) → s ≢ status.Ok → MayEnd run s → MayEnd run status.Memory
  memory_ends s other h = record {
    answers = memory_after s other h.answers;
    causes = record {
      no_file = λ name e. absurd (cc);
      read_fault = λ e. absurd (cc);
      write_fault = λ e. absurd (cc);
      keeps = h.causes.keeps;
      later = h.causes.later;
    };
  }

  -- the status that is told, or want of memory
  pub ends : (s result : Status) → s ≢ status.Ok → MayEnd run s → (result ≡ s) ⊎ (result ≡ status.Memory) → MayEnd run result
  ends s result other h (inl e) = subst (MayEnd run) (sym e) h
  ends s result other h (inr e) = subst (MayEnd run) (sym e) (memory_ends s other h)

  own_line : (s : Status) → s ≢ status.Ok → MayEnd run s → TellsSome run s → Tells run s ⊎ ((s ≡ status.Memory) ⊎ Rose run.err.faults run.err_now.faults) → Reports run s
  own_line status.Ok other h some all = absurd (other refl)
  own_line status.Memory other h some all = (status.Memory, h, other, some)
  own_line _ other h some (inl all) = inl all
  own_line _ other h some (inr (inl e)) = absurd (cc)
  own_line _ other h some (inr (inr rose)) = inr (some, rose)

  pub reports : (s result : Status) → s ≢ status.Ok → MayEnd run s → (result ≡ s) ⊎ (result ≡ status.Memory) → TellsSome run s
      → (result ≡ s → Tells run s ⊎ ((s ≡ status.Memory) ⊎ Rose run.err.faults run.err_now.faults)) → Reports run result
  reports s result other h (inl e) some all = subst (Reports run) (sym e) (own_line s other h some (all e))
  reports s result other h (inr e) some all = subst (Reports run) (sym e) (s, h, other, some)

-- ---- the statuses that are told

module _ (run : Run) where
  -- a refusal: nothing was written
  pub refused_ends : (s : Status) → Refuses (files_told run) run.words s → (IsOfLoading s → NamesFile run.words) → HasLoadCause run.shelves run.shelves_now s
      → KeepEach run.shelves run.shelves_now → run.out_now ≡ run.out → MayEnd run s
  refused_ends s refused named cause keeps same = record {
    answers = refusal_follows run s refused (ap (λ x. x.held) same);
    causes = record {
      no_file = λ name e. (named (subst IsOfLoading (sym e) tt), subst (HasLoadCause run.shelves run.shelves_now) e cause);
      read_fault = λ e. (named (subst IsOfLoading (sym e) tt), subst (HasLoadCause run.shelves run.shelves_now) e cause);
      write_fault = λ e. absurd (never_write_fault (files_told run) run.words s refused e);
      keeps = keeps;
      later = omega (arith, ap (λ x. x.faults) same);
    };
  }

  -- writing stopped: some of the text was written
  module _ (text : List ℕ) (answer : IsAnswer (files_told run) run.words (Ok text)) (some : GivesSome run text) (keeps : KeepEach run.shelves run.shelves_now) (later : run.out.faults ≤ run.out_now.faults) where
    pub write_fault_ends : Rose run.out.faults run.out_now.faults → MayEnd run status.WriteFault
    write_fault_ends rose = record {
      answers = (text, answer, some);
      causes = record { no_file = λ name e. absurd (cc); read_fault = λ e. absurd (cc); write_fault = λ e. rose; keeps = keeps; later = later };
    }

    pub no_memory_ends : MayEnd run status.Memory
    no_memory_ends = record {
      answers = (Ok text, answer, some);
      causes = record { no_file = λ name e. absurd (cc); read_fault = λ e. absurd (cc); write_fault = λ e. absurd (cc); keeps = keeps; later = later };
    }

-- ---- completeness

no_refusal : (told : Option Files) (files : Files) (words : List (List ℕ)) (text : List ℕ) (s : Status) → told ≡ Some files → IsAnswer told words (Ok text) → IsAnswer told words (Err s) → ⊥
no_refusal told files words text s is answer h =
    let by = λ (a : Answer) (k : IsAnswer told words a). subst (λ t. IsAnswer t words a) is k in
    let e = one_answer files words (Ok text) (Err s) (by (Ok text) answer) (by (Err s) h) in
    cc

module _ (run : Run) (files : Files) (text : List ℕ) (is : files_told run ≡ Some files) (answer : IsAnswer (files_told run) run.words (Ok text)) where
  completes : (s : Status) → Follows run s → (s ≡ status.ReadFault → ⊥) → (s ≡ status.WriteFault → ⊥) → (s ≡ status.Ok) ⊎ (s ≡ status.Memory)
  completes status.Ok h read write = inl refl
  completes status.Memory h read write = inr refl
  completes status.ReadFault h read write = absurd (read refl)
  completes status.WriteFault h read write = absurd (write refl)
  completes _ h read write = absurd (no_refusal (files_told run) files run.words text _ is answer h.0)

pub complete : (run : Run) (s : Status) → MayEnd run s → Completes run s
complete run s h files text is answer calm =
    completes run files text is answer s h.answers (λ e. calm.reading (h.causes.read_fault e).1) (λ e. calm.writing (h.causes.write_fault e))
