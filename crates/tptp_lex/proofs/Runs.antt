-- Runs of bytes that pass a test.
use Rattle.std.proofs.Common.{◌≡◌, ℕ, ◌+◌, ◌≤◌, ◌<◌, Bool, true, false, cond, List, [], ◌∷◌, ◌++◌, length, take, refl, arith, one-add}
use Rattle.std.specs.List.{prefix_len, list_all}
use Rattle.std.proofs.lemmas.Bool.{and_parts, and_from}
use Rattle.nxf_base.specs.Bytes.{begins_then}

pub run_front : (p : ℕ → Bool) (s a : List ℕ) → list_all p s ≡ true → length s ≤ prefix_len p (s ++ a)
run_front p [] a h = omega arith
run_front p (x ∷ s) a h =
    let t = and_parts (p x) (list_all p s) h in rw t.0 (omega (arith, run_front p s a t.1))

-- the first byte fails, or there is none
abbrev pub stops : (ℕ → Bool) → List ℕ → Type 0
stops p [] = Unit {0}
stops p (b ∷ bs) = p b ≡ false

pub run_exact : (p : ℕ → Bool) (s a : List ℕ) → list_all p s ≡ true → stops p a → prefix_len p (s ++ a) ≡ length s
run_exact p [] [] h stop = refl
run_exact p [] (b ∷ a) h stop = rw stop refl
run_exact p (x ∷ s) a h stop =
    let t = and_parts (p x) (list_all p s) h in rw t.0 (omega (arith, run_exact p s a t.1 stop))

taken_by : (p : ℕ → Bool) (x : ℕ) (xs : List ℕ) → list_all p (take (prefix_len p xs) xs) ≡ true → (b : Bool) → p x ≡ b → list_all p (take (cond b (1 + prefix_len p xs) 0) (x ∷ xs)) ≡ true
taken_by p x xs h true e = rw one-add (and_from (p x) (list_all p (take (prefix_len p xs) xs)) e h)
taken_by p x xs h false e = refl

pub run_taken : (p : ℕ → Bool) (xs : List ℕ) → list_all p (take (prefix_len p xs) xs) ≡ true
run_taken p [] = refl
run_taken p (x ∷ xs) = taken_by p x xs (run_taken p xs) (p x) refl

some_by : (p : ℕ → Bool) (x : ℕ) (xs : List ℕ) (b : Bool) → p x ≡ b → 0 < cond b (1 + prefix_len p xs) 0 → begins_then p p (take (cond b (1 + prefix_len p xs) 0) (x ∷ xs)) ≡ true
some_by p x xs true e some = rw one-add (and_from (p x) (list_all p (take (prefix_len p xs) xs)) e (run_taken p xs))
some_by p x xs false e some = absurd (omega arith)

-- a run of one byte or more
pub run_some : (p : ℕ → Bool) (xs : List ℕ) → 0 < prefix_len p xs → begins_then p p (take (prefix_len p xs) xs) ≡ true
run_some p [] some = absurd (omega arith)
run_some p (x ∷ xs) some = some_by p x xs (p x) refl some
