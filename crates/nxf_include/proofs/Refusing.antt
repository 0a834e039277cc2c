-- How results stand to the defined ones, one call after another.
use Rattle.std.proofs.Common.{◌≡◌, ℕ, List, length, take, Option, None, Some, Result, Ok, Err, refl, sym, ap, ◌∙◌, ◌<◌, ◌≤◌, arith}
use Rattle.std.specs.Prelude.{◌⊎◌, IfSome}
use mathlib.Core.Logic.{inl, inr}
use Rattle.std.proofs.lemmas.List.{length-take, take_all}
use Rattle.std.proofs.lemmas.Bool.{le-leb, lt-leb}
use Rattle.nxf_base.specs.Files.{Files, file_of}
use Rattle.syntax_definitions.specs.Loading.{loaded, within}
use Rattle.syntax_definitions.specs.Refusals.{Refuses}
use Rattle.syntax_definitions.specs.declared.gather_error.GatherError.{GatherError}
use Rattle.syntax_definitions.specs.declared.gather_error.GatherError.TheVariants.{TooLong, Memory}

-- the refusal that is the defined one, or want of memory
pub refuses : {A : Type 0} (told : Option Files) (answer : Files → Result A GatherError) (refusal e : GatherError) → IfSome told (λ files. answer files ≡ Err refusal) → (e ≡ refusal) ⊎ (e ≡ Memory) → Refuses told answer e
refuses (Some files) answer refusal e h (inl k) = inl (h ∙ ap Err (sym k))
refuses None answer refusal e h (inl k) = inl tt
refuses told answer refusal e h (inr k) = inr (inr k)

-- one file
pub at_file : (told : Option Files) (name : List ℕ) (found : Option (List ℕ)) (a : Result (List ℕ) GatherError) → IfSome told (λ files. file_of name files ≡ found) → within name found ≡ a → IfSome told (λ files. loaded files name ≡ a)
at_file None name found a h e = tt
at_file (Some files) name found a h e = rw h e

pub short : (name bytes whole : List ℕ) → bytes ≡ take 16777217 whole → length bytes ≤ 16777216 → within name (Some whole) ≡ Ok bytes
short name bytes whole e l =
    let few : length whole ≤ 16777216 = omega (arith, length-take 16777217 whole, ap length e) in
    let same : bytes ≡ whole = e ∙ take_all 16777217 whole (omega arith) in
    rw (le-leb (length whole) 16777216 few, same) refl

pub long : (name bytes whole : List ℕ) → bytes ≡ take 16777217 whole → 16777216 < length bytes → within name (Some whole) ≡ Err (TooLong name)
long name bytes whole e l =
    let many : 16777216 < length whole = omega (arith, length-take 16777217 whole, ap length e) in
    rw (lt-leb (length whole) 16777216 many) refl
