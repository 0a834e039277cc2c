-- Things looked up in lists of different things.
use Rattle.std.proofs.Common.{◌≡◌, ℕ, zero, suc, ◌+◌, ◌<◌, inl, inr, Bool, true, false, cond, List, [], ◌∷◌, ◌++◌, length, get_or, None, Some, refl, sym, ap, ◌∙◌, arith}
use Rattle.std.specs.Prelude.{count_by, ◌||◌, not}
use Rattle.std.specs.Map.{lookup}
use Rattle.std.proofs.lemmas.Bool.{and_parts, cases_Bool, not-true}
use Rattle.std.proofs.lemmas.List.Sums.{sum_by-append}
use Rattle.nxf_tree.specs.Counting.{has, all_different}
use Rattle.nxf_tree.specs.Names.{same_text}
use Rattle.name_laws.proofs.Spelling.{same_text-true, never, true-false}
use Rattle.interpretation_definitions.specs.Context.{numbered_from}

-- ---- the first that passes

pub numbered_hit : {A : Type 0} (test : A → Bool) (xs : List A) (k j : ℕ) (d : A) → k < length xs → test (get_or xs k d) ≡ true → ((i : ℕ) → i < k → test (get_or xs i d) ≡ false)
    → numbered_from j test xs ≡ Some (j + k, get_or xs k d)
numbered_hit test [] k j d h hit before = absurd (omega arith)
numbered_hit test (x ∷ xs) zero j d h hit before =
    let here : j ≡ j + 0 = omega arith in
    ap (λ b. cond b (Some (j, x)) (numbered_from (suc j) test xs)) hit ∙ ap (λ n. Some (n, x)) here
numbered_hit test (x ∷ xs) (suc k) j d h hit before =
    let there : suc j + k ≡ j + suc k = omega arith in
    ap (λ b. cond b (Some (j, x)) (numbered_from (suc j) test xs)) (before 0 (omega arith))
    ∙ numbered_hit test xs k (suc j) d (omega arith) hit (λ i l. before (suc i) (omega arith)) ∙ ap (λ n. Some (n, get_or xs k d)) there

pub numbered_miss : {A : Type 0} (test : A → Bool) (xs : List A) (j : ℕ) (d : A) → ((i : ℕ) → i < length xs → test (get_or xs i d) ≡ false) → numbered_from j test xs ≡ None
numbered_miss test [] j d none = refl
numbered_miss test (x ∷ xs) j d none =
    ap (λ b. cond b (Some (j, x)) (numbered_from (suc j) test xs)) (none 0 (omega arith)) ∙ numbered_miss test xs (suc j) d (λ i l. none (suc i) (omega arith))

-- ---- the value of a key

pub lookup_left : {K X : Type 0} (test : K → Bool) (xs ys : List (K × X)) (v : X) → lookup test xs ≡ Some v → lookup test (xs ++ ys) ≡ Some v
lookup_left test [] ys v h = absurd cc
lookup_left test (x ∷ xs) ys v h = elim (cases_Bool (test x.0)) [
  | inl is ↦ ap (λ b. cond b (Some x.1) (lookup test (xs ++ ys))) is ∙ sym (ap (λ b. cond b (Some x.1) (lookup test xs)) is) ∙ h
  | inr isn't ↦ ap (λ b. cond b (Some x.1) (lookup test (xs ++ ys))) isn't ∙ lookup_left test xs ys v (sym (ap (λ b. cond b (Some x.1) (lookup test xs)) isn't) ∙ h)
]

pub lookup_right : {K X : Type 0} (test : K → Bool) (xs ys : List (K × X)) → lookup test xs ≡ None → lookup test (xs ++ ys) ≡ lookup test ys
lookup_right test [] ys h = refl
lookup_right test (x ∷ xs) ys h = elim (cases_Bool (test x.0)) [
  | inl is ↦ let some : Some x.1 ≡ None = sym (ap (λ b. cond b (Some x.1) (lookup test xs)) is) ∙ h in absurd cc
  | inr isn't ↦ ap (λ b. cond b (Some x.1) (lookup test (xs ++ ys))) isn't ∙ lookup_right test xs ys (sym (ap (λ b. cond b (Some x.1) (lookup test xs)) isn't) ∙ h)
]

-- ---- counting

pub count_more : {X : Type 0} (p : X → Bool) (xs ys : List X) → count_by p (xs ++ ys) ≡ count_by p xs + count_by p ys
count_more p xs ys = sum_by-append (λ x. cond (p x) 1 0) xs ys

-- ---- different things

has_later : {A : Type 0} (same : A → A → Bool) (xs : List A) (k : ℕ) (d : A) → k < length xs → ((x : A) → same x x ≡ true) → has same (get_or xs k d) xs ≡ true
has_later same [] k d h whole = absurd (omega arith)
has_later same (x ∷ xs) zero d h whole = ap (λ b. b || has same x xs) (whole x)
has_later same (x ∷ xs) (suc k) d h whole = elim (cases_Bool (same x (get_or xs k d))) [
  | inl is ↦ ap (λ b. b || has same (get_or xs k d) xs) is
  | inr isn't ↦ ap (λ b. b || has same (get_or xs k d) xs) isn't ∙ has_later same xs k d (omega arith) whole
]

-- two places of a list of different things have two things
pub places_differ : {A : Type 0} (same : A → A → Bool) (whole : (x : A) → same x x ≡ true) (xs : List A) (i j : ℕ) (d : A) → all_different same xs ≡ true → i < j → j < length xs
    → get_or xs i d ≡ get_or xs j d → ⊥
places_differ same whole [] i j d all l h e = absurd (omega arith)
places_differ same whole (x ∷ xs) i zero d all l h e = absurd (omega arith)
places_differ same whole (x ∷ xs) zero (suc j) d all l h e =
    let parts : (not (has same x xs) ≡ true) × (all_different same xs ≡ true) = and_parts _ _ all in
    true-false (sym (ap (λ y. has same y xs) e ∙ has_later same xs j d (omega arith) whole) ∙ not-true _ parts.0)
places_differ same whole (x ∷ xs) (suc i) (suc j) d all l h e =
    let parts : (not (has same x xs) ≡ true) × (all_different same xs ≡ true) = and_parts _ _ all in
    places_differ same whole xs i j d parts.1 (omega arith) (omega arith) e

-- what a list doesn't have stands at no place of it
pub not_there : {A : Type 0} (same : A → A → Bool) (x : A) (xs : List A) (i : ℕ) (d : A) → has same x xs ≡ false → i < length xs → same (get_or xs i d) x ≡ false
not_there same x [] i d none h = absurd (omega arith)
not_there same x (y ∷ xs) zero d none h = first_false (same y x) (has same x xs) none
  where
    first_false : (a b : Bool) → a || b ≡ false → a ≡ false
    first_false true b e = absurd cc
    first_false false b e = refl
not_there same x (y ∷ xs) (suc i) d none h = not_there same x xs i d (second_false (same y x) (has same x xs) none) (omega arith)
  where
    second_false : (a b : Bool) → a || b ≡ false → b ≡ false
    second_false true b e = absurd cc
    second_false false b e = e

-- texts that differ
pub texts_apart : (x y : List ℕ) → (x ≡ y → ⊥) → same_text x y ≡ false
texts_apart x y h = never (same_text x y) (λ e. h (same_text-true x y e))
