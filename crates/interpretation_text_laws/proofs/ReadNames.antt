-- What names stand for where an interpretation that is printed is read: the context that its closures make.
use Rattle.std.proofs.Common.{◌≡◌, ℕ, zero, suc, ◌+◌, ◌<◌, ◌≤◌, inl, inr, Bool, true, false, cond, List, [], ◌∷◌, ◌++◌, map, length, None, Some, refl, sym, ap, ◌∙◌, append_assoc, append-nil, arith}
use Rattle.std.specs.Prelude.{flat_map, nat_eq, is_some}
use Rattle.std.specs.Map.{lookup}
use Rattle.std.proofs.lemmas.Bool.{cases_lt, eq-eqb}
use Rattle.std.proofs.lemmas.Bool.Decides.{nat_tests}
use Rattle.std.proofs.lemmas.Grind.{flat_map-append}
use Rattle.std.proofs.lemmas.List.{map-append}
use Rattle.std.proofs.lemmas.List.Sums.{fold-append}
use Rattle.nxf_tree.specs.declared.tree.SortName.{SortName}
use Rattle.nxf_tree.specs.declared.tree.ClassicalSignature.{ClassicalSignature}
use Rattle.nxf_tree.specs.Names.{same_text}
use Rattle.nxf_tree.specs.Rows.{numbers_below, size_at}
use Rattle.name_laws.specs.NameLaws.{HasDifferentClassicalNames}
use Rattle.name_laws.proofs.Spelling.{same_text-refl}
use Rattle.interpretation_definitions.specs.declared.element.Element.{Element}
use Rattle.interpretation_definitions.specs.Context.{symbols_of, Context, count_for, and_listing, and_listings, element}
use Rattle.interpretation_text_definitions.specs.ElementNames.{element_name}
use Rattle.interpretation_text_laws.specs.ElementsApart.{HasElementsApart}
use Rattle.interpretation_text_laws.proofs.Lookups.{lookup_left, lookup_right, count_more, texts_apart}

-- the elements of a sort with their names, and the listings that name them
abbrev pub own_element : List SortName → ℕ → ℕ → List ℕ × Element
own_element sorts k n = (element_name sorts k n, record { sort = k; number = n })

abbrev pub own_elements : List SortName → ℕ → ℕ → List (List ℕ × Element)
own_elements sorts k size = map (own_element sorts k) (numbers_below size)

abbrev pub own_listings : List SortName → ℕ → ℕ → List (List ℕ × ℕ)
own_listings sorts k size = map (λ n. (element_name sorts k n, k)) (numbers_below size)

-- those of the first sorts
abbrev pub elements_to : List SortName → List ℕ → ℕ → List (List ℕ × Element)
elements_to sorts sizes n = flat_map (λ k. own_elements sorts k (size_at sizes k)) (numbers_below n)

abbrev pub listings_to : List SortName → List ℕ → ℕ → List (List ℕ × ℕ)
listings_to sorts sizes n = flat_map (λ k. own_listings sorts k (size_at sizes k)) (numbers_below n)

pub flat_last : {A : Type 0} (f : ℕ → List A) (n : ℕ) → flat_map f (numbers_below (suc n)) ≡ flat_map f (numbers_below n) ++ f n
flat_last f n = flat_map-append f (numbers_below n) (n ∷ []) ∙ ap (λ last. flat_map f (numbers_below n) ++ last) (append-nil (f n))

module _ (csig : ClassicalSignature) (sizes : List ℕ) (apart : HasElementsApart csig) (different : HasDifferentClassicalNames csig) where
  abbrev sorts : List SortName
  sorts = csig.sorts

  -- the context, whatever names are declared
  abbrev pub own_context : List (List ℕ) → Context
  own_context declared = record {
    sorts = csig.sorts;
    symbols = symbols_of csig;
    elements = elements_to csig.sorts sizes (length csig.sorts);
    declared = declared;
  }

  -- ---- elements

  miss_own : (x : List ℕ) (k n : ℕ) → ((m : ℕ) → m < n → same_text x (element_name sorts k m) ≡ false) → lookup (same_text x) (own_elements sorts k n) ≡ None
  miss_own x k zero h = refl
  miss_own x k (suc n) h =
      ap (lookup (same_text x)) (map-append (own_element sorts k) (numbers_below n) (n ∷ []))
      ∙ lookup_right (same_text x) (own_elements sorts k n) (own_element sorts k n ∷ []) (miss_own x k n (λ m l. h m (omega arith)))
      ∙ ap (λ b. cond b (Some (record { sort = k; number = n })) None) (h n (omega arith))

  others : (j k m n : ℕ) → j < length sorts → k < length sorts → ((j ≡ k) × (m ≡ n) → ⊥) → same_text (element_name sorts j m) (element_name sorts k n) ≡ false
  others j k m n p q h = texts_apart _ _ (λ e. h (apart.elements j k m n p q e))

  hit_own : (k m n : ℕ) → k < length sorts → m < n → lookup (same_text (element_name sorts k m)) (own_elements sorts k n) ≡ Some (record { sort = k; number = m })
  hit_own k m zero p h = absurd (omega arith)
  hit_own k m (suc n) p h = ap (lookup (same_text (element_name sorts k m))) (map-append (own_element sorts k) (numbers_below n) (n ∷ [])) ∙ elim (cases_lt m n) [
    | inl l ↦ lookup_left (same_text (element_name sorts k m)) (own_elements sorts k n) (own_element sorts k n ∷ []) (record { sort = k; number = m }) (hit_own k m n p l)
    | inr l ↦
        let last : m ≡ n = omega arith in
        let before = λ (i : ℕ) (lt : i < n). others k k m i p p (λ e. absurd (omega (arith, e.1))) in
        lookup_right (same_text (element_name sorts k m)) (own_elements sorts k n) (own_element sorts k n ∷ []) (miss_own (element_name sorts k m) k n before)
        ∙ ap (λ b. cond b (Some (record { sort = k; number = n })) None) (ap (λ i. same_text (element_name sorts k m) (element_name sorts k i)) (sym last) ∙ same_text-refl (element_name sorts k m))
        ∙ ap (λ i. Some (record { sort = k; number = i })) (sym last)
  ]

  pub miss_to : (x : List ℕ) (n : ℕ) → ((k m : ℕ) → k < n → m < size_at sizes k → same_text x (element_name sorts k m) ≡ false) → lookup (same_text x) (elements_to sorts sizes n) ≡ None
  miss_to x zero h = refl
  miss_to x (suc n) h =
      ap (lookup (same_text x)) (flat_last (λ k. own_elements sorts k (size_at sizes k)) n)
      ∙ lookup_right (same_text x) (elements_to sorts sizes n) (own_elements sorts n (size_at sizes n)) (miss_to x n (λ k m l. h k m (omega arith)))
      ∙ miss_own x n (size_at sizes n) (λ m. h n m (omega arith))

  pub hit_to : (n k m : ℕ) → n ≤ length sorts → k < n → m < size_at sizes k → lookup (same_text (element_name sorts k m)) (elements_to sorts sizes n) ≡ Some (record { sort = k; number = m })
  hit_to zero k m b p h = absurd (omega arith)
  hit_to (suc n) k m b p h = ap (lookup (same_text (element_name sorts k m))) (flat_last (λ j. own_elements sorts j (size_at sizes j)) n) ∙ elim (cases_lt k n) [
    | inl l ↦ lookup_left (same_text (element_name sorts k m)) (elements_to sorts sizes n) (own_elements sorts n (size_at sizes n)) (record { sort = k; number = m }) (hit_to n k m (omega arith) l h)
    | inr l ↦
        let last : k ≡ n = omega arith in
        let before = λ (j i : ℕ) (lt : j < n) (in_sort : i < size_at sizes j). others k j m i (omega arith) (omega arith) (λ e. absurd (omega (arith, e.0))) in
        lookup_right (same_text (element_name sorts k m)) (elements_to sorts sizes n) (own_elements sorts n (size_at sizes n)) (miss_to (element_name sorts k m) n before)
        ∙ ap (λ j. lookup (same_text (element_name sorts k m)) (own_elements sorts j (size_at sizes j))) (sym last)
        ∙ hit_own k m (size_at sizes k) (omega arith) h
  ]

  pub element_is : (declared : List (List ℕ)) (k m : ℕ) → k < length sorts → m < size_at sizes k → element (own_context declared) (element_name sorts k m) ≡ Some (record { sort = k; number = m })
  element_is declared k m p h = hit_to (length sorts) k m (omega arith) p h

  -- ---- counting

  count_own : (j k n : ℕ) → count_for j (own_elements sorts k n) ≡ cond (nat_eq k j) n 0
  count_own j k zero = sym (none (nat_eq k j))
    where
      none : (b : Bool) → ◌≡◌ {A = ℕ} (cond b 0 0) 0
      none true = refl
      none false = refl
  count_own j k (suc n) =
      ap (count_for j) (map-append (own_element sorts k) (numbers_below n) (n ∷ []))
      ∙ count_more (λ (e : List ℕ × Element). nat_eq e.1.sort j) (own_elements sorts k n) (own_element sorts k n ∷ [])
      ∙ by (nat_eq k j) (count_for j (own_elements sorts k n)) (count_own j k n)
    where
      by : (b : Bool) (c : ℕ) → c ≡ cond b n 0 → c + (0 + cond b 1 0) ≡ cond b (suc n) 0
      by true c e = omega arith
      by false c e = omega arith

  count_below : (j n : ℕ) → n ≤ j → count_for j (elements_to sorts sizes n) ≡ 0
  count_below j zero h = refl
  count_below j (suc n) h =
      let other : nat_eq n j ≡ false = grind (arith, nat_tests) in
      ap (count_for j) (flat_last (λ k. own_elements sorts k (size_at sizes k)) n)
      ∙ count_more (λ (e : List ℕ × Element). nat_eq e.1.sort j) (elements_to sorts sizes n) (own_elements sorts n (size_at sizes n))
      ∙ (λ i. count_below j n (omega arith) i + (count_own j n (size_at sizes n) ∙ ap (λ b. cond b (size_at sizes n) 0) other) i)

  pub count_to : (n j : ℕ) → j < n → count_for j (elements_to sorts sizes n) ≡ size_at sizes j
  count_to zero j h = absurd (omega arith)
  count_to (suc n) j h =
      ap (count_for j) (flat_last (λ k. own_elements sorts k (size_at sizes k)) n)
      ∙ count_more (λ (e : List ℕ × Element). nat_eq e.1.sort j) (elements_to sorts sizes n) (own_elements sorts n (size_at sizes n))
      ∙ elim (cases_lt j n) [
        | inl l ↦
            let other : nat_eq n j ≡ false = grind (arith, nat_tests) in
            omega (arith, count_to n j l, count_own j n (size_at sizes n) ∙ ap (λ b. cond b (size_at sizes n) 0) other)
        | inr l ↦
            let last : n ≡ j = omega arith in
            let same : nat_eq n j ≡ true = eq-eqb n j last in
            omega (arith, count_below j n (omega arith), count_own j n (size_at sizes n) ∙ ap (λ b. cond b (size_at sizes n) 0) same, ap (size_at sizes) last)
      ]

  -- ---- the listings make the elements

  own_listed : (k n : ℕ) → k < length sorts → n ≤ size_at sizes k → and_listings (elements_to sorts sizes k) (own_listings sorts k n) ≡ elements_to sorts sizes k ++ own_elements sorts k n
  own_listed k zero p h = sym (append-nil (elements_to sorts sizes k))
  own_listed k (suc n) p h =
      let here = elements_to sorts sizes k in
      let x = element_name sorts k n in
      let acc = here ++ own_elements sorts k n in
      let new : lookup (same_text x) acc ≡ None =
      lookup_right (same_text x) here (own_elements sorts k n) (miss_to x k (λ j m l i. others k j n m p (omega arith) (λ e. absurd (omega (arith, e.0)))))
      ∙ miss_own x k n (λ m l. others k k n m p p (λ e. absurd (omega (arith, e.1)))) in
      let count : count_for k acc ≡ n =
      count_more (λ (e : List ℕ × Element). nat_eq e.1.sort k) here (own_elements sorts k n)
      ∙ omega (arith, count_below k k (omega arith), count_own k k n ∙ ap (λ b. cond b n 0) (eq-eqb k k refl)) in
      ap (and_listings here) (map-append (λ (m : ℕ). (element_name sorts k m, k)) (numbers_below n) (n ∷ []))
      ∙ fold-append and_listing here (own_listings sorts k n) ((x, k) ∷ [])
      ∙ ap (λ es. and_listing es (x, k)) (own_listed k n p (omega arith))
      ∙ ap (λ o. cond (is_some o) acc (acc ++ (x, record { sort = k; number = count_for k acc }) ∷ [])) new
      ∙ ap (λ c. acc ++ (x, record { sort = k; number = c }) ∷ []) count
      ∙ append_assoc here (own_elements sorts k n) (own_element sorts k n ∷ [])
      ∙ ap (λ es. here ++ es) (sym (map-append (own_element sorts k) (numbers_below n) (n ∷ [])))

  pub all_listed : (n : ℕ) → n ≤ length sorts → and_listings [] (listings_to sorts sizes n) ≡ elements_to sorts sizes n
  all_listed zero h = refl
  all_listed (suc n) h =
      ap (and_listings []) (flat_last (λ k. own_listings sorts k (size_at sizes k)) n)
      ∙ fold-append and_listing [] (listings_to sorts sizes n) (own_listings sorts n (size_at sizes n))
      ∙ ap (λ es. and_listings es (own_listings sorts n (size_at sizes n))) (all_listed n (omega arith))
      ∙ own_listed n (size_at sizes n) (omega arith) (omega arith)
      ∙ sym (flat_last (λ k. own_elements sorts k (size_at sizes k)) n)
