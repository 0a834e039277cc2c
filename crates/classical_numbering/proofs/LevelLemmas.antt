-- Levels of variables.
use Rattle.std.proofs.Common.{◌≡◌, ℕ, zero, suc, ◌+◌, ◌<◌, Bool, true, false, List, [], ◌∷◌, ◌++◌, length, get_or, drop, None, Some, refl, sym, ap, ◌∙◌, arith}
use Rattle.std.specs.Prelude.{◌||◌, if◌then◌else◌, is_some}
use Rattle.std.proofs.lemmas.List.{at_drop_more}
use Rattle.nxf_tree.specs.Names.{same_text}
use Rattle.nxf_tree.specs.Counting.{has}
use Rattle.nxf_tree.specs.Sorting.{Bound, bound_sort}
use Rattle.numbered_definitions.specs.NamedForm.{variable}
use Rattle.classical_numbering.specs.steps.Numbering.{variables_of}

-- the place of a variable that no later quantifier binds
pub variable_at : (xs : List (List ℕ)) (k : ℕ) (x : List ℕ) → k < length xs → get_or xs k [] ≡ x → has same_text x (drop (k + 1) xs) ≡ false → variable xs k ≡ Some x
variable_at [] k x l is later = absurd (omega (arith, l))
variable_at (y ∷ xs) zero x l is later =
    let none : has same_text y xs ≡ false = ap (λ z. has same_text z xs) is ∙ later in
    ap (λ b. if b then None else Some y) none ∙ ap Some is
variable_at (y ∷ xs) (suc k) x l is later =
    let next : suc k + 1 ≡ suc (k + 1) = omega arith in
    variable_at xs k x (omega (arith, l)) is (sym (ap (λ n. has same_text x (drop n (y ∷ xs))) next) ∙ later)

-- one name more, from the end
pub later_names : (xs : List (List ℕ)) (k : ℕ) (x : List ℕ) → k < length xs → same_text (get_or xs k []) x ≡ false → has same_text x (drop (k + 1) xs) ≡ false → has same_text x (drop k xs) ≡ false
later_names xs k x l here later =
    ap (has same_text x) (at_drop_more (λ l. l) xs k [] l) ∙ ap (λ b. b || has same_text x (drop (k + 1) xs)) here ∙ later

has-append : (x y : List ℕ) (xs : List (List ℕ)) → has same_text x xs || same_text y x ≡ true → has same_text x (xs ++ y ∷ []) ≡ true
has-append x y [] h = by (same_text y x) h
  where
    by : (b : Bool) → b ≡ true → b || false ≡ true
    by true h = refl
    by false h = h
has-append x y (z ∷ xs) h = by (same_text z x) (has-append x y xs) h
  where
    by : (b : Bool) → (has same_text x xs || same_text y x ≡ true → has same_text x (xs ++ y ∷ []) ≡ true) → (b || has same_text x xs) || same_text y x ≡ true → b || has same_text x (xs ++ y ∷ []) ≡ true
    by true more h = refl
    by false more h = more h

-- a variable that has a sort is one of the bound ones
or_true : (a : Bool) → a || true ≡ true
or_true true = refl
or_true false = refl

pub variable_bound : (b : Bound) (x : List ℕ) → is_some (bound_sort b x) ≡ true → has same_text x (variables_of b) ≡ true
variable_bound [] x h = absurd cc
variable_bound (y ∷ b) x h = by (same_text y.0 x) refl (variable_bound b x) h
  where
    by : (c : Bool) → same_text y.0 x ≡ c → (is_some (bound_sort b x) ≡ true → has same_text x (variables_of b) ≡ true) → is_some (if c then Some y.1 else bound_sort b x) ≡ true → has same_text x (variables_of b ++ y.0 ∷ []) ≡ true
    by true is more k = has-append x y.0 (variables_of b) (ap (λ c. has same_text x (variables_of b) || c) is ∙ or_true (has same_text x (variables_of b)))
    by false is more k = has-append x y.0 (variables_of b) (ap (λ c. c || same_text y.0 x) (more k))
