-- The schemes of a specification stand in scheme order, each once.
use denote.Enum.Declared.{tag_of}
use Rattle.std.proofs.Common.{◌≡◌, ℕ, Bool, true, List, [], ◌∷◌, refl, sym, ap, ◌∙◌}
use Rattle.std.specs.Prelude.{if◌then◌else◌, ◌||◌, filter, slice_get}
use Rattle.std.specs.Option.{unwrap_or}
use Rattle.std.specs.List.{list_any}
use Rattle.std.proofs.lemmas.Bool.{eqb-true, eq-eqb}
use Rattle.nxf_tree.specs.contracts.tree.Scheme.{the_type}
use Rattle.nxf_tree.specs.declared.tree.Scheme.{Scheme}
use Rattle.nxf_tree.specs.declared.tree.Scheme.TheVariants.{T, D, B, Four, Five, CD, BoxM, C4, C, U}
use Rattle.nxf_tree.specs.Counting.{has}
use Rattle.nxf_tree.specs.SpecificationWords.{same_scheme, scheme_order, schemes_of_word, schemes_of}
use Rattle.nxf_tree.specs.WellFormed.{AreOrdered}
use Rattle.name_laws.proofs.Spelling.{both_ways, true-false}
use Rattle.std.proofs.lemmas.Bool.{or_right}
use Rattle.name_laws.proofs.Firsts.{split_bool, has-filter}

-- a scheme by its place in the order
abbrev at_place : ℕ → Scheme
at_place k = unwrap_or (slice_get scheme_order k) T

back : (s : Scheme) → at_place (tag_of the_type s) ≡ s
back T = refl
back D = refl
back B = refl
back Four = refl
back Five = refl
back CD = refl
back BoxM = refl
back C4 = refl
back C = refl
back U = refl

scheme-true : (s r : Scheme) → same_scheme s r ≡ true → s ≡ r
unfolding same_scheme
scheme-true s r h = sym (back s) ∙ ap at_place (eqb-true (tag_of the_type s) (tag_of the_type r) h) ∙ back r

scheme-refl : (s : Scheme) → same_scheme s s ≡ true
unfolding same_scheme
scheme-refl s = eq-eqb (tag_of the_type s) (tag_of the_type s) refl

module _ (p : Scheme → Bool) where
  passes : (s : Scheme) (xs : List Scheme) → has same_scheme s (filter p xs) ≡ true → p s ≡ true
  passes s [] h = absurd (true-false (sym h))
  passes s (x ∷ xs) h = split_bool (p x)
      (λ e. let stays : has same_scheme s (x ∷ filter p xs) ≡ true = sym (ap (λ b. has same_scheme s (if b then x ∷ filter p xs else filter p xs)) e) ∙ h in
      split_bool (same_scheme x s) (λ k. ap p (sym (scheme-true x s k)) ∙ e) (λ k. passes s xs (sym (rw k refl) ∙ stays)))
      (λ e. passes s xs (sym (rw e refl) ∙ h))

  filter-agree : (q : Scheme → Bool) (xs : List Scheme) → ((s : Scheme) → has same_scheme s xs ≡ true → q s ≡ p s) → filter q xs ≡ filter p xs
  filter-agree q [] h = refl
  filter-agree q (x ∷ xs) h = split_bool (p x)
      (λ e. rw (h x (ap (λ b. b || has same_scheme x xs) (scheme-refl x)) ∙ e, e) (ap (λ l. x ∷ l) (filter-agree q xs (λ s k. h s (or_right (same_scheme x s) _ k)))))
      (λ e. rw (h x (ap (λ b. b || has same_scheme x xs) (scheme-refl x)) ∙ e, e) (filter-agree q xs (λ s k. h s (or_right (same_scheme x s) _ k))))

  filter-ordered : AreOrdered (filter p scheme_order)
  filter-ordered = sym (filter-agree (λ s. has same_scheme s (filter p scheme_order)) scheme_order
      (λ s k. both_ways _ _ (passes s scheme_order) (λ e. has-filter same_scheme p s scheme_order (λ y j. ap p (scheme-true y s j) ∙ e) k)))

pub schemes-ordered : (words : List (List ℕ)) → AreOrdered (schemes_of words)
schemes-ordered words = filter-ordered (λ scheme. list_any (λ word. has same_scheme scheme (schemes_of_word word)) words)
