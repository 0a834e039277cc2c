-- Tests over the numbers below a bound, as loops make them: number by number, and left early.
use Rattle.std.proofs.Common.{◌≡◌, ℕ, zero, suc, ◌+◌, ◌<◌, Bool, true, false, refl, sym, ap, ◌∙◌, inl, inr, add-one, arith}
use Rattle.std.specs.Prelude.{◌&&◌, ◌||◌}
use Rattle.std.proofs.lemmas.Bool.{and_from, and_left, and_right, or_left, or_right, cases_eq}
use Rattle.nxf_tree.specs.Counting.{all_below, any_below, implies}

-- one number more passes
pub all_more : (n : ℕ) (p : ℕ → Bool) → all_below n p ≡ true → p n ≡ true → all_below (n + 1) p ≡ true
all_more n p all here = rw add-one (and_from _ _ all here)

-- one number decides
pub all_fails : (n k : ℕ) (p : ℕ → Bool) → k < n → p k ≡ false → all_below n p ≡ false
all_fails zero k p below fails = absurd (omega arith)
all_fails (suc n) k p below fails = elim (cases_eq k n) [
  | inl e ↦ and_right _ _ (ap p (sym e) ∙ fails)
  | inr ne ↦ and_left _ _ (all_fails n k p (omega arith) fails)
]

pub any_found : (n k : ℕ) (p : ℕ → Bool) → k < n → p k ≡ true → any_below n p ≡ true
any_found zero k p below passes = absurd (omega arith)
any_found (suc n) k p below passes = elim (cases_eq k n) [
  | inl e ↦ or_right _ _ (ap p (sym e) ∙ passes)
  | inr ne ↦ or_left _ _ (any_found n k p (omega arith) passes)
]

-- equal tests pass together
pub all_same : (n : ℕ) (p q : ℕ → Bool) → ((k : ℕ) → k < n → p k ≡ q k) → all_below n p ≡ all_below n q
all_same zero p q h = refl
all_same (suc n) p q h = λ i. all_same n p q (λ k l. h k (omega arith)) i && h n (omega arith) i

pub any_same : (n : ℕ) (p q : ℕ → Bool) → ((k : ℕ) → k < n → p k ≡ q k) → any_below n p ≡ any_below n q
any_same zero p q h = refl
any_same (suc n) p q h = λ i. any_same n p q (λ k l. h k (omega arith)) i || h n (omega arith) i

pub all_pass : (n : ℕ) → all_below n (λ k. true) ≡ true
all_pass zero = refl
all_pass (suc n) = and_from _ _ (all_pass n) refl

-- a premise that no number changes goes in front
pub all_implies : (n : ℕ) (a : Bool) (p q : ℕ → Bool) → all_below n (λ k. implies (a && p k) (q k)) ≡ implies a (all_below n (λ k. implies (p k) (q k)))
all_implies n true p q = refl
all_implies n false p q = all_pass n

-- an implication, by its parts
pub implies_any : (a : Bool) → implies a true ≡ true
implies_any true = refl
implies_any false = refl

pub implies_true : (a b : Bool) → (a ≡ true → b ≡ true) → implies a b ≡ true
implies_true true b h = h refl
implies_true false b h = refl

pub implies_false : (a b : Bool) → a ≡ true → b ≡ false → implies a b ≡ false
implies_false true b e f = f
implies_false false b e f = absurd cc
