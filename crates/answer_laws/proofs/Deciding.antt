-- What can be decided: equality of lists, and whether something passes among finitely many.
use Rattle.std.proofs.Common.{◌≡◌, ℕ, zero, suc, ◌<◌, Bool, true, false, List, [], ◌∷◌, ◌++◌, map, refl, ap, ap₂, subst, arith}
use Rattle.std.specs.Prelude.{◌⊎◌, nat_eq}
use mathlib.Core.Logic.{inl, inr}
use Rattle.std.proofs.lemmas.Bool.{cases_lt, eqb-true, eq-eqb}

-- it is so, or it isn't
abbrev pub Decided : Type 0 → Type 0
Decided P = P ⊎ (P → ⊥)

pub decided_both : {P Q : Type 0} → Decided P → Decided Q → Decided (P × Q)
decided_both (inl p) (inl q) = inl (p, q)
decided_both (inl p) (inr never) = inr (λ h. never h.1)
decided_both (inr never) q = inr (λ h. never h.0)

-- ---- equality

abbrev pub Decides : Type 0 → Type 0
Decides A = (x y : A) → Decided (x ≡ y)

by_test : (m n : ℕ) (b : Bool) → nat_eq m n ≡ b → Decided (m ≡ n)
by_test m n true e = inl (eqb-true m n e)
by_test m n false e = inr (λ same. absurd (let yes = eq-eqb m n same in cc))

pub numbers : Decides ℕ
numbers m n = by_test m n (nat_eq m n) refl

both_items : {A : Type 0} (x y : A) (xs ys : List A) → Decided (x ≡ y) → Decided (xs ≡ ys) → Decided (x ∷ xs ≡ y ∷ ys)
both_items x y xs ys (inl p) (inl q) = inl (ap₂ ◌∷◌ p q)
both_items x y xs ys (inl p) (inr never) = inr (λ e. never (cc))
both_items x y xs ys (inr never) q = inr (λ e. never (cc))

pub lists : {A : Type 0} → Decides A → Decides (List A)
lists items [] [] = inl refl
lists items [] (y ∷ ys) = inr (λ e. absurd cc)
lists items (x ∷ xs) [] = inr (λ e. absurd cc)
lists items (x ∷ xs) (y ∷ ys) = both_items x y xs ys (items x y) (lists items xs ys)

-- ---- numbers below a bound

pub is_below : (m n : ℕ) → Decided (m < n)
is_below m n = elim (cases_lt m n) [ inl less ↦ inl less | inr more ↦ inr (λ less. omega arith) ]

abbrev pub SomeBelow : (ℕ → Type 0) → ℕ → Type 0
SomeBelow P m = ((n : ℕ) × P n) ⊎ ((n : ℕ) → n < m → P n → ⊥)

one_more : (P : ℕ → Type 0) (m : ℕ) → Decided (P m) → SomeBelow P m → SomeBelow P (suc m)
one_more P m (inl here) rest = inl (m, here)
one_more P m (inr never) (inl found) = inl found
one_more P m (inr never) (inr none) = inr (λ n below p. elim (cases_lt n m) [
  | inl less ↦ none n less p
  | inr more ↦ never (let same : n ≡ m = omega arith in subst P same p)
])

pub some_below : (P : ℕ → Type 0) → ((n : ℕ) → Decided (P n)) → (m : ℕ) → SomeBelow P m
some_below P decide zero = inr (λ n below p. absurd (omega arith))
some_below P decide (suc m) = one_more P m (decide m) (some_below P decide m)

-- ---- items of a list

abbrev pub IsAmong : {A : Type 0} → A → List A → Type 0
IsAmong x [] = ⊥
IsAmong x (y ∷ ys) = (x ≡ y) ⊎ IsAmong x ys

abbrev pub SomeAmong : {A : Type 0} → (A → Type 0) → List A → Type 0
SomeAmong {A} P xs = ((x : A) × P x) ⊎ ((x : A) → IsAmong x xs → P x → ⊥)

one_item : {A : Type 0} (P : A → Type 0) (x : A) (xs : List A) → Decided (P x) → SomeAmong P xs → SomeAmong P (x ∷ xs)
one_item P x xs (inl here) rest = inl (x, here)
one_item P x xs (inr never) (inl found) = inl found
one_item P x xs (inr never) (inr none) = inr (λ y among p. elim among [ inl same ↦ never (subst P same p) | inr later ↦ none y later p ])

pub some_among : {A : Type 0} (P : A → Type 0) → ((x : A) → Decided (P x)) → (xs : List A) → SomeAmong P xs
some_among P decide [] = inr (λ x among p. among)
some_among P decide (x ∷ xs) = one_item P x xs (decide x) (some_among P decide xs)

pub among_first : {A : Type 0} (x : A) (xs ys : List A) → IsAmong x xs → IsAmong x (xs ++ ys)
among_first x [] ys h = absurd h
among_first x (y ∷ xs) ys (inl same) = inl same
among_first x (y ∷ xs) ys (inr later) = inr (among_first x xs ys later)

pub among_last : {A : Type 0} (x : A) (xs ys : List A) → IsAmong x ys → IsAmong x (xs ++ ys)
among_last x [] ys h = h
among_last x (y ∷ xs) ys h = inr (among_last x xs ys h)

pub among_map : {A B : Type 0} (f : A → B) (x : A) (xs : List A) → IsAmong x xs → IsAmong (f x) (map f xs)
among_map f x [] h = absurd h
among_map f x (y ∷ xs) (inl same) = inl (ap f same)
among_map f x (y ∷ xs) (inr later) = inr (among_map f x xs later)
