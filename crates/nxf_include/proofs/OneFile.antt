-- One file and what stands in it, one call after another.
use Rattle.std.proofs.Common.{◌≡◌, ℕ, ◌+◌, ◌≤◌, List, length, Option, None, Some, Result, Ok, Err, refl, sym, ap, subst}
use Rattle.std.specs.Prelude.{◌⊎◌, IfSome}
use mathlib.Core.Logic.{inl, inr}
use Rattle.std.proofs.lemmas.Bool.{le-leb}
use Rattle.nxf_base.specs.Files.{Files}
use Rattle.nxf_tree.specs.declared.tree.Statement.{Statement}
use Rattle.syntax_definitions.specs.Gathered.{Reads, counted, ReadsCounted, Enters}
use Rattle.syntax_definitions.specs.Loading.{loaded}
use Rattle.syntax_definitions.specs.Refusals.{Refuses, Meets}
use Rattle.syntax_definitions.specs.OneAfterAnother.{Step}
use Rattle.syntax_definitions.specs.declared.gather_error.GatherError.{GatherError}
use Rattle.syntax_definitions.specs.declared.gather_error.GatherError.TheVariants.{Memory}
use Rattle.syntax_definitions.specs.declared.visited.Visited.{Visited}

-- a result of the step, or want of memory
abbrev pub IsOrMemory : {A : Type 0} → Step A → Result A GatherError → Type 0
IsOrMemory S result = S result ⊎ (result ≡ Err Memory)

-- a refusal of the step, or want of memory for its names
pub refusal_or_memory : {A : Type 0} (S : Step A) (refusal e : GatherError) → S (Err refusal) → (e ≡ refusal) ⊎ (e ≡ Memory) → IsOrMemory S (Err e)
refusal_or_memory S refusal e h (inl k) = inl (subst (λ d. S (Err d)) (sym k) h)
refusal_or_memory S refusal e h (inr k) = inr (ap Err k)

fits : (sum : ℕ) (bytes : List ℕ) → sum + length bytes ≤ 67108864 → Ok (sum + length bytes) ≡ counted sum bytes
fits sum bytes l = rw (le-leb (sum + length bytes) 67108864 l) refl

pub read_ok : (name : List ℕ) (sum : ℕ) (bytes : List ℕ) (ss : List Statement) → sum + length bytes ≤ 67108864 → IsOrMemory (Reads name bytes) (Ok ss) → IsOrMemory (ReadsCounted name sum bytes) (Ok (record { statements = ss; sum = sum + length bytes }))
read_ok name sum bytes ss l (inl h) = inl (inl (sum + length bytes, fits sum bytes l, inl (ss, h, refl)))
read_ok name sum bytes ss l (inr h) = absurd (cc)

pub read_not : (name : List ℕ) (sum : ℕ) (bytes : List ℕ) (e : GatherError) → sum + length bytes ≤ 67108864 → IsOrMemory (Reads name bytes) (Err e) → IsOrMemory (ReadsCounted name sum bytes) (Err e)
read_not name sum bytes e l (inl h) = inl (inl (sum + length bytes, fits sum bytes l, inr (e, h, refl)))
read_not name sum bytes e l (inr h) = inr (cc)

module _ (name : List ℕ) (sum : ℕ) where
  pub goes_on : (told : Option Files) (bytes : List ℕ) (result : Result Visited GatherError) → IfSome told (λ files. loaded files name ≡ Ok bytes) → IsOrMemory (ReadsCounted name sum bytes) result → Meets told (λ files. Enters files sum name) result
  goes_on None bytes result h (inl k) = inl tt
  goes_on (Some files) bytes result h (inl k) = inl (inl (bytes, sym h, k))
  goes_on told bytes result h (inr k) = inr (inr k)

  pub stops : (told : Option Files) (e : GatherError) → Refuses told (λ files. loaded files name) e → Meets told (λ files. Enters files sum name) (Err e)
  stops None e (inl h) = inl tt
  stops (Some files) e (inl h) = inl (inr (e, sym h, refl))
  stops told e (inr (inl h)) = inr (inl (ap Err h))
  stops told e (inr (inr h)) = inr (inr (ap Err h))
