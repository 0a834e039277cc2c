-- The parts of sorts are read without faults: they list the elements of each sort, and give no rows.
use Rattle.std.proofs.Common.{◌≡◌, ℕ, zero, suc, ◌<◌, ◌≤◌, Bool, true, false, List, [], ◌∷◌, ◌++◌, map, length, None, refl, sym, ap, subst, ◌∙◌, append_assoc, append-nil, arith}
use Rattle.std.specs.Prelude.{flat_map, nat_lt}
use Rattle.std.specs.List.{AllByRecursion}
use Rattle.std.proofs.lemmas.Grind.{flat_map-append}
use Rattle.nxf_tree.specs.declared.tree.SortName.{SortName}
use Rattle.nxf_tree.specs.declared.tree.SortName.TheVariants.{Individual, User}
use Rattle.nxf_tree.specs.declared.tree.ClassicalSignature.{ClassicalSignature}
use Rattle.nxf_tree.specs.Names.{same_text}
use Rattle.nxf_tree.specs.Rows.{numbers_below, size_at}
use Rattle.nxf_tree.specs.Problem.{classical_sort_at}
use Rattle.name_laws.specs.NameLaws.{HasDifferentClassicalNames}
use Rattle.printed_problem_laws.proofs.PrintedAxioms.{all_append}
use Rattle.interpretation_definitions.specs.Parts.{Part, Closes}
use Rattle.interpretation_definitions.specs.Context.{Context, listings_of, listed_under}
use Rattle.interpretation_definitions.specs.Given.{stated}
use Rattle.interpretation_definitions.specs.Judging.{part_fault}
use Rattle.interpretation_text_definitions.specs.ElementNames.{element_name, element_names}
use Rattle.interpretation_text_laws.specs.ElementsApart.{HasElementsApart}
use Rattle.interpretation_text_laws.proofs.ReadParts.{element_part, sort_part, distinct_part, sort_parts}
use Rattle.interpretation_text_laws.proofs.Lookups.{texts_apart}
use Rattle.interpretation_text_laws.proofs.ReadNames.{own_context, own_listings, listings_to, flat_last}
use Rattle.interpretation_text_laws.proofs.ReadSymbols.{sort_known}
use Rattle.interpretation_text_laws.proofs.ReadFaults.{numbers_are_below, sort_declared, element_declared, AreEarlier, sort_closed, elements_told_apart}
use Rattle.interpretation_text_laws.proofs.ReadWalk.{AreClean, clean_both, always_clean}

-- the parts of the first sorts
abbrev pub sorts_parts : List SortName → List ℕ → ℕ → List Part
sorts_parts sorts sizes n = flat_map (λ k. sort_parts sorts k (size_at sizes k)) (numbers_below n)

-- ---- what they list

nothing_declared : (sorts : List SortName) (s : SortName) → flat_map (listings_of sorts) (sort_part s) ≡ []
nothing_declared sorts Individual = refl
nothing_declared sorts (User s) = refl

nothing_listed : (sorts : List SortName) (k : ℕ) (ns : List ℕ) → flat_map (listings_of sorts) (map (element_part sorts k) ns) ≡ []
nothing_listed sorts k [] = refl
nothing_listed sorts k (n ∷ ns) = nothing_listed sorts k ns

nothing_distinct : (sorts : List SortName) (k size : ℕ) (several : Bool) → flat_map (listings_of sorts) (distinct_part sorts k size several) ≡ []
nothing_distinct sorts k size true = refl
nothing_distinct sorts k size false = refl

names_listed : (sorts : List SortName) (k : ℕ) (ns : List ℕ) → map {B = List ℕ × ℕ} (λ name. (name, k)) (map (element_name sorts k) ns) ≡ map {B = List ℕ × ℕ} (λ n. (element_name sorts k n, k)) ns
names_listed sorts k [] = refl
names_listed sorts k (n ∷ ns) = ap (λ rest. (element_name sorts k n, k) ∷ rest) (names_listed sorts k ns)

-- ---- they give no rows

module _ (C : Context) where
  no_rows_declared : (s : SortName) → flat_map (stated C) (sort_part s) ≡ []
  no_rows_declared Individual = refl
  no_rows_declared (User s) = refl

  no_rows_listed : (sorts : List SortName) (k : ℕ) (ns : List ℕ) → flat_map (stated C) (map (element_part sorts k) ns) ≡ []
  no_rows_listed sorts k [] = refl
  no_rows_listed sorts k (n ∷ ns) = no_rows_listed sorts k ns

  no_rows_distinct : (sorts : List SortName) (k size : ℕ) (several : Bool) → flat_map (stated C) (distinct_part sorts k size several) ≡ []
  no_rows_distinct sorts k size true = refl
  no_rows_distinct sorts k size false = refl

  no_rows_of_sort : (sorts : List SortName) (k size : ℕ) → flat_map (stated C) (sort_parts sorts k size) ≡ []
  no_rows_of_sort sorts k size =
      let elements = map (element_part sorts k) (numbers_below size) in
      let last = Closes (classical_sort_at sorts k) (element_names sorts k size) ∷ distinct_part sorts k size (nat_lt 1 size) in
      flat_map-append (stated C) (sort_part (classical_sort_at sorts k)) (elements ++ last)
      ∙ (λ i. no_rows_declared (classical_sort_at sorts k) i ++ (flat_map-append (stated C) elements last ∙ (λ j. no_rows_listed sorts k (numbers_below size) j ++ no_rows_distinct sorts k size (nat_lt 1 size) j)) i)

  pub no_rows_of_sorts : (sorts : List SortName) (sizes : List ℕ) (n : ℕ) → flat_map (stated C) (sorts_parts sorts sizes n) ≡ []
  no_rows_of_sorts sorts sizes zero = refl
  no_rows_of_sorts sorts sizes (suc n) =
      ap (flat_map (stated C)) (flat_last (λ k. sort_parts sorts k (size_at sizes k)) n)
      ∙ flat_map-append (stated C) (sorts_parts sorts sizes n) (sort_parts sorts n (size_at sizes n))
      ∙ (λ i. no_rows_of_sorts sorts sizes n i ++ no_rows_of_sort sorts n (size_at sizes n) i)

module _ (csig : ClassicalSignature) (sizes : List ℕ) (apart : HasElementsApart csig) (different : HasDifferentClassicalNames csig) where
  front_listings : (k size : ℕ) (last : List Part)
      → flat_map (listings_of csig.sorts) (sort_part (classical_sort_at csig.sorts k) ++ (map (element_part csig.sorts k) (numbers_below size) ++ last)) ≡ flat_map (listings_of csig.sorts) last
  front_listings k size last =
      let elements = map (element_part csig.sorts k) (numbers_below size) in
      flat_map-append (listings_of csig.sorts) (sort_part (classical_sort_at csig.sorts k)) (elements ++ last)
      ∙ (λ i. nothing_declared csig.sorts (classical_sort_at csig.sorts k) i ++ (flat_map-append (listings_of csig.sorts) elements last ∙ (λ j. nothing_listed csig.sorts k (numbers_below size) j ++ flat_map (listings_of csig.sorts) last)) i)

  sort_listings : (k size : ℕ) → k < length csig.sorts → flat_map (listings_of csig.sorts) (sort_parts csig.sorts k size) ≡ own_listings csig.sorts k size
  sort_listings k size h =
      front_listings k size (Closes (classical_sort_at csig.sorts k) (element_names csig.sorts k size) ∷ distinct_part csig.sorts k size (nat_lt 1 size))
      ∙ (λ i. listed_under (sort_known csig sizes apart different k h i) (element_names csig.sorts k size) ++ nothing_distinct csig.sorts k size (nat_lt 1 size) i)
      ∙ append-nil (map {B = List ℕ × ℕ} (λ name. (name, k)) (element_names csig.sorts k size)) ∙ names_listed csig.sorts k (numbers_below size)

  pub sorts_listings : (n : ℕ) → n ≤ length csig.sorts → flat_map (listings_of csig.sorts) (sorts_parts csig.sorts sizes n) ≡ listings_to csig.sorts sizes n
  sorts_listings zero h = refl
  sorts_listings (suc n) h =
      ap (flat_map (listings_of csig.sorts)) (flat_last (λ k. sort_parts csig.sorts k (size_at sizes k)) n)
      ∙ flat_map-append (listings_of csig.sorts) (sorts_parts csig.sorts sizes n) (sort_parts csig.sorts n (size_at sizes n))
      ∙ (λ i. sorts_listings n (omega arith) i ++ sort_listings n (size_at sizes n) (omega arith) i)
      ∙ sym (flat_last (λ k. own_listings csig.sorts k (size_at sizes k)) n)

  -- ---- they have no faults

  module _ (declared : List (List ℕ)) where
    abbrev C : Context
    C = own_context csig sizes apart different declared

    abbrev Earlier : ℕ → List (List ℕ × ℕ) → Type 0
    Earlier = AreEarlier csig sizes apart different declared

    own_earlier : (j k : ℕ) (ns : List ℕ) → j < k → k < length csig.sorts → Earlier k (map (λ n. (element_name csig.sorts j n, j)) ns)
    own_earlier j k [] l h = tt
    own_earlier j k (n ∷ ns) l h = ((l, (λ m. texts_apart (element_name csig.sorts j n) (element_name csig.sorts k m) (λ e. absurd (omega (arith, (apart.elements j k n m (omega arith) h e).0))))), own_earlier j k ns l h)

    all_earlier : (n k : ℕ) → n ≤ k → k < length csig.sorts → Earlier k (listings_to csig.sorts sizes n)
    all_earlier zero k l h = tt
    all_earlier (suc n) k l h =
        subst (Earlier k) (sym (flat_last (λ j. own_listings csig.sorts j (size_at sizes j)) n))
        (all_append (λ (p : List ℕ × ℕ). (p.1 < k) × ((m : ℕ) → same_text p.0 (element_name csig.sorts k m) ≡ false)) (listings_to csig.sorts sizes n) (own_listings csig.sorts n (size_at sizes n)) (all_earlier n k (omega arith) h) (own_earlier n k (numbers_below (size_at sizes n)) (omega arith) h))

    sort_always : (k : ℕ) (s : SortName) → k < length csig.sorts → classical_sort_at csig.sorts k ≡ s → AllByRecursion (λ (p : Part). (b : List Part) → part_fault C b p ≡ None) (sort_part s)
    sort_always k Individual h is = tt
    sort_always k (User s) h is = ((λ b. sort_declared csig sizes apart different declared b k s h is), tt)

    elements_always : (k : ℕ) (ns : List ℕ) → k < length csig.sorts → AllByRecursion (λ n. n < size_at sizes k) ns → AllByRecursion (λ (p : Part). (b : List Part) → part_fault C b p ≡ None) (map (element_part csig.sorts k) ns)
    elements_always k [] h l = tt
    elements_always k (n ∷ ns) h l = ((λ b. element_declared csig sizes apart different declared b k n h l.0), elements_always k ns h l.1)

    distinct_clean : (before : List Part) (k : ℕ) (several : Bool) → k < length csig.sorts → AreClean C before (distinct_part csig.sorts k (size_at sizes k) several)
    distinct_clean before k true h = (elements_told_apart csig sizes apart different declared before k h, tt)
    distinct_clean before k false h = tt

    sort_clean : (k : ℕ) → k < length csig.sorts → AreClean C (sorts_parts csig.sorts sizes k) (sort_parts csig.sorts k (size_at sizes k))
    sort_clean k h =
        let before = sorts_parts csig.sorts sizes k in
        let size = size_at sizes k in
        let s = classical_sort_at csig.sorts k in
        let elements = map (element_part csig.sorts k) (numbers_below size) in
        let closure = Closes s (element_names csig.sorts k size) in
        let now = (before ++ sort_part s) ++ elements in
        let same : flat_map (listings_of csig.sorts) now ≡ listings_to csig.sorts sizes k =
        ap (flat_map (listings_of csig.sorts)) (append_assoc before (sort_part s) elements ∙ ap (λ es. before ++ (sort_part s ++ es)) (sym (append-nil elements)))
        ∙ flat_map-append (listings_of csig.sorts) before (sort_part s ++ (elements ++ []))
        ∙ (λ i. sorts_listings k (omega arith) i ++ front_listings k size [] i)
        ∙ append-nil (listings_to csig.sorts sizes k) in
        clean_both C before (sort_part s) (elements ++ (closure ∷ distinct_part csig.sorts k size (nat_lt 1 size))) (always_clean C (sort_part s) before (sort_always k s h refl))
        (clean_both C (before ++ sort_part s) elements (closure ∷ distinct_part csig.sorts k size (nat_lt 1 size)) (always_clean C elements (before ++ sort_part s) (elements_always k (numbers_below size) h (numbers_are_below size))) (
          sort_closed csig sizes apart different declared now k size h (subst (Earlier k) (sym same) (all_earlier k k (omega arith) h)),
          distinct_clean (now ++ closure ∷ []) k (nat_lt 1 size) h,
        ))

    pub sorts_clean : (n : ℕ) → n ≤ length csig.sorts → AreClean C [] (sorts_parts csig.sorts sizes n)
    sorts_clean zero h = tt
    sorts_clean (suc n) h =
        subst (AreClean C []) (sym (flat_last (λ k. sort_parts csig.sorts k (size_at sizes k)) n))
        (clean_both C [] (sorts_parts csig.sorts sizes n) (sort_parts csig.sorts n (size_at sizes n)) (sorts_clean n (omega arith)) (sort_clean n (omega arith)))
