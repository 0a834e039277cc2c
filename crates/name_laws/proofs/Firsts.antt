-- Lists of what occurs, each thing once.
use Rattle.std.proofs.Common.{◌≡◌, Bool, true, false, List, [], ◌∷◌, refl, sym, ap, ◌∙◌}
use Rattle.std.specs.Prelude.{not, filter}
use Rattle.std.specs.List.{list_all, list_any}
use Rattle.std.proofs.lemmas.Bool.{and_from, or_right}
use Rattle.nxf_tree.specs.Counting.{implies, has, all_different}
use Rattle.nxf_tree.specs.SignatureOf.{firsts}
use Rattle.name_laws.proofs.Spelling.{true-false}

-- a test that is true or false, with its equation
pub split_bool : {P : Type 0} (b : Bool) → (b ≡ true → P) → (b ≡ false → P) → P
split_bool true f g = f refl
split_bool false f g = g refl

module _ {A : Type 0} (same : A → A → Bool) where
  -- what is dropped from a list is not in it
  has-dropped : (x : A) (xs : List A) → ((y : A) → same x y ≡ same y x) → has same x (filter (λ y. not (same x y)) xs) ≡ false
  has-dropped x [] s = refl
  has-dropped x (y ∷ ys) s = split_bool (same x y)
      (λ e. rw e (has-dropped x ys s))
      (λ e. rw e (rw (sym (s y) ∙ e) (has-dropped x ys s)))

  has-filter-none : (q : A → Bool) (x : A) (xs : List A) → has same x xs ≡ false → has same x (filter q xs) ≡ false
  has-filter-none q x [] h = refl
  has-filter-none q x (y ∷ ys) h = split_bool (same y x)
      (λ e. absurd (true-false (sym (rw e refl) ∙ h)))
      (λ e. let rest : has same x ys ≡ false = sym (rw e refl) ∙ h in
      split_bool (q y) (λ k. rw k (rw e (has-filter-none q x ys rest))) (λ k. rw k (has-filter-none q x ys rest)))

  filter-different : (q : A → Bool) (xs : List A) → all_different same xs ≡ true → all_different same (filter q xs) ≡ true
  filter-different q [] h = refl
  filter-different q (x ∷ xs) h = split_bool (has same x xs)
      (λ e. absurd (true-false (sym h ∙ rw e refl)))
      (λ e. let rest : all_different same xs ≡ true = sym (rw e refl) ∙ h in
      split_bool (q x) (λ k. rw k (rw (has-filter-none q x xs e) (filter-different q xs rest))) (λ k. rw k (filter-different q xs rest)))

  -- each thing stands once
  pub firsts-different : ((x y : A) → same x y ≡ same y x) → (xs : List A) → all_different same (firsts same xs) ≡ true
  firsts-different s [] = refl
  firsts-different s (x ∷ xs) =
      rw (has-dropped x (firsts same xs) (s x)) (filter-different (λ y. not (same x y)) (firsts same xs) (firsts-different s xs))

  -- nothing new stands among them
  pub firsts-none : (z : A) (xs : List A) → has same z xs ≡ false → has same z (firsts same xs) ≡ false
  firsts-none z [] h = refl
  firsts-none z (x ∷ xs) h = split_bool (same x z)
      (λ e. absurd (true-false (sym (rw e refl) ∙ h)))
      (λ e. rw e (has-filter-none (λ y. not (same x y)) z (firsts same xs) (firsts-none z xs (sym (rw e refl) ∙ h))))

  -- what passes the test stays
  pub has-filter : (q : A → Bool) (z : A) (xs : List A) → ((y : A) → same y z ≡ true → q y ≡ true) → has same z xs ≡ true → has same z (filter q xs) ≡ true
  has-filter q z [] k h = h
  has-filter q z (y ∷ ys) k h = split_bool (same y z)
      (λ e. rw (k y e) (rw e refl))
      (λ e. split_bool (q y)
      (λ p. rw p (or_right (same y z) _ (has-filter q z ys k (sym (rw e refl) ∙ h))))
      (λ p. rw p (has-filter q z ys k (sym (rw e refl) ∙ h))))

  -- all that occurs stands among them
  pub has-firsts : ((x y z : A) → same y z ≡ true → same x y ≡ same x z) → (z : A) (xs : List A) → has same z xs ≡ true → has same z (firsts same xs) ≡ true
  has-firsts alike z [] h = h
  has-firsts alike z (x ∷ xs) h = split_bool (same x z)
      (λ e. rw e refl)
      (λ e. or_right (same x z) _ (has-filter (λ y. not (same x y)) z (firsts same xs) (λ y k. ap not (alike x y z k ∙ e)) (has-firsts alike z xs (sym (rw e refl) ∙ h))))

  -- a test that each thing of a list passes, since it is in the list
  pub all-by_has : ((x : A) → same x x ≡ true) → (q : A → Bool) (xs : List A) → ((x : A) → has same x xs ≡ true → q x ≡ true) → list_all q xs ≡ true
  all-by_has r q [] h = refl
  all-by_has r q (x ∷ xs) h = rw (h x (rw (r x) refl)) (all-by_has r q xs (λ y k. h y (or_right (same x y) _ k)))

pub filter-all : {A : Type 0} (p q : A → Bool) (xs : List A) → list_all p xs ≡ true → list_all p (filter q xs) ≡ true
filter-all p q [] h = refl
filter-all p q (x ∷ xs) h = split_bool (p x)
    (λ e. let rest : list_all p xs ≡ true = sym (rw e refl) ∙ h in split_bool (q x) (λ k. rw k (rw e (filter-all p q xs rest))) (λ k. rw k (filter-all p q xs rest)))
    (λ e. absurd (true-false (sym h ∙ rw e refl)))

-- what all pass, the firsts pass
pub firsts-all : {A : Type 0} (same : A → A → Bool) (p : A → Bool) (xs : List A) → list_all p xs ≡ true → list_all p (firsts same xs) ≡ true
firsts-all same p [] h = refl
firsts-all same p (x ∷ xs) h = split_bool (p x)
    (λ e. rw e (filter-all p (λ y. not (same x y)) (firsts same xs) (firsts-all same p xs (sym (rw e refl) ∙ h))))
    (λ e. absurd (true-false (sym h ∙ rw e refl)))

-- each of the list passes only where some of the list passes
pub implies-any : {A : Type 0} (p : A → Bool) (b : Bool) (xs : List A) → (list_any p xs ≡ true → b ≡ true) → list_all (λ x. implies (p x) b) xs ≡ true
implies-any p b [] h = refl
implies-any p b (x ∷ xs) h = split_bool (p x)
    (λ e. let holds : b ≡ true = h (rw e refl) in rw e (and_from b _ holds (implies-any p b xs (λ k. holds))))
    (λ e. rw e (implies-any p b xs (λ k. h (or_right (p x) _ k))))
