-- Steps that give one thing or are refused, and one step after another.
use Rattle.std.specs.Prelude.{◌≡◌, ◌⊎◌, Result, Ok, Err}
use Rattle.syntax_definitions.specs.declared.gather_error.GatherError.{GatherError}

-- which results a step may have
abbrev pub Step : Type 0 → Type 1
Step A = Result A GatherError → Type 0

-- this result
abbrev pub Is : {A : Type 0} → Result A GatherError → Step A
Is answer result = result ≡ answer

-- a step and then the next one, on what the first gave; where the first is refused, its refusal is the result
abbrev pub Then : {A B : Type 0} → Step A → (A → Step B) → Step B
Then {A} First Next result = ((x : A) × First (Ok x) × Next x result) ⊎ ((e : GatherError) × First (Err e) × (result ≡ Err e))
