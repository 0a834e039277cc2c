-- What the walk over a file has seen is what the definitions say: each thing once, in the order of first occurrence.
use Rattle.std.proofs.Common.{◌≡◌, ℕ, Bool, true, false, cond, List, [], ◌∷◌, ◌++◌, refl, sym, ap, ◌∙◌, append_assoc, append-nil}
use Rattle.std.specs.Prelude.{◌&&◌, ◌||◌, not, if◌then◌else◌, map, filter, Some}
use Rattle.std.specs.List.{list_any}
use Rattle.std.proofs.lemmas.List.Folds.{list_any-append}
use Rattle.indexmap.specs.IndexSet.{insert_all}
use Rattle.nxf_tree.specs.declared.tree.IndexName.{IndexName}
use Rattle.nxf_tree.specs.declared.tree.IndexName.TheVariants.{Plain, Named}
use Rattle.nxf_tree.specs.declared.tree.SortName.TheVariants.{Individual}
use Rattle.nxf_tree.specs.Names.{same_text}
use Rattle.nxf_tree.specs.Counting.{has}
use Rattle.nxf_tree.specs.Signature.{same_sort, same_index}
use Rattle.nxf_tree.specs.Occurrences.{Use, Occurrence, uses, sorts, indexes}
use Rattle.nxf_tree.specs.SignatureOf.{firsts, same_symbol, type_in, typed, is_named}
use Rattle.name_laws.proofs.Bounds.{and-true}
use Rattle.name_laws.proofs.Spelling.{same_text-true}
use Rattle.name_laws.proofs.Firsts.{split_bool}
use Rattle.name_laws.proofs.SameNames.{same_text-sym}
use Rattle.nxf_signatures.specs.steps.Tables.{Seen, and_occurrence, and_occurrences}

module _ {X : Type 0} where
  filter-both_step : (p : X → Bool) (x : X) (xs ys : List X) (a b : Bool) → p x ≡ a → filter p xs ≡ ys
      → filter p (cond b (x ∷ xs) xs) ≡ cond (a && b) (x ∷ ys) ys
  filter-both_step p x xs ys true true h e = rw h (ap (λ zs. x ∷ zs) e)
  filter-both_step p x xs ys true false h e = e
  filter-both_step p x xs ys false true h e = rw h e
  filter-both_step p x xs ys false false h e = e

  filter-both : (p q : X → Bool) (xs : List X) → filter p (filter q xs) ≡ filter (λ x. p x && q x) xs
  filter-both p q [] = refl
  filter-both p q (x ∷ xs) = filter-both_step p x (filter q xs) (filter (λ y. p y && q y) xs) (p x) (q x) refl (filter-both p q xs)

  filter-same : (p q : X → Bool) → ((x : X) → p x ≡ q x) → (xs : List X) → filter p xs ≡ filter q xs
  filter-same p q h [] = refl
  filter-same p q h (x ∷ xs) = λ i. cond (h x i) (x ∷ filter-same p q h xs i) (filter-same p q h xs i)

  filter-true : (xs : List X) → filter (λ x. true) xs ≡ xs
  filter-true [] = refl
  filter-true (x ∷ xs) = ap (λ ys. x ∷ ys) (filter-true xs)

neither : (a b c : Bool) → b ≡ c → not (a || (b || false)) ≡ not a && not c
neither true b c e = refl
neither false true c e = ap not e
neither false false c e = ap not e

module _ {X : Type 0} (same : X → X → Bool) (turned : (x y : X) → same x y ≡ same y x) (alike : (x y : X) → same x y ≡ true → (z : X) → same x z ≡ same y z) where
  abbrev fresh : List X → X → Bool
  fresh ks y = not (list_any (same y) ks)

  fresh_push : (x : X) (ks : List X) (y : X) → fresh (ks ++ x ∷ []) y ≡ fresh ks y && not (same x y)
  fresh_push x ks y = ap not (list_any-append (same y) ks (x ∷ [])) ∙ neither _ _ _ (turned y x)

  any_alike : (x y : X) (ks : List X) → same x y ≡ true → list_any (same y) ks ≡ list_any (same x) ks
  any_alike x y [] e = refl
  any_alike x y (k ∷ ks) e = λ i. sym (alike x y e k) i || any_alike x y ks e i

  -- where ks has x, a thing that ks lacks is not x
  fresh_apart : (x : X) (ks : List X) (y : X) → list_any (same x) ks ≡ true → fresh ks y ≡ fresh ks y && not (same x y)
  fresh_apart x ks y h = by (same x y) refl
    where
      by : (b : Bool) → same x y ≡ b → fresh ks y ≡ fresh ks y && not b
      by true e = let here : fresh ks y ≡ false = ap not (any_alike x y ks e) ∙ ap not h in rw here refl
      by false e = sym (and-true (fresh ks y))

  noted_step : (ks : List X) (x : X) (xs : List X) (b : Bool) → list_any (same x) ks ≡ b
      → ((js : List X) → insert_all same js xs ≡ js ++ filter (fresh js) (firsts same xs))
      → insert_all same (if b then ks else ks ++ x ∷ []) xs ≡ ks ++ cond (not b) (x ∷ filter (fresh ks) (filter (λ y. not (same x y)) (firsts same xs))) (filter (fresh ks) (filter (λ y. not (same x y)) (firsts same xs)))
  noted_step ks x xs true h rest =
      rest ks ∙ ap (λ ys. ks ++ ys) (filter-same (fresh ks) _ (λ y. fresh_apart x ks y h) (firsts same xs) ∙ sym (filter-both (fresh ks) _ (firsts same xs)))
  noted_step ks x xs false h rest =
      rest (ks ++ x ∷ [])
      ∙ append_assoc ks (x ∷ []) _
      ∙ ap (λ ys. ks ++ x ∷ ys) (filter-same (fresh (ks ++ x ∷ [])) _ (fresh_push x ks) (firsts same xs) ∙ sym (filter-both (fresh ks) _ (firsts same xs)))

  -- what is noted behind ks: each thing that ks lacks, once
  noted : (ks xs : List X) → insert_all same ks xs ≡ ks ++ filter (fresh ks) (firsts same xs)
  noted ks [] = sym (append-nil ks)
  noted ks (x ∷ xs) = noted_step ks x xs (list_any (same x) ks) refl (λ js. noted js xs)

  pub noted_from_none : (xs : List X) → insert_all same [] xs ≡ firsts same xs
  noted_from_none xs = noted [] xs ∙ filter-true (firsts same xs)

-- the tests tell names apart
text_alike : (x y : List ℕ) → same_text x y ≡ true → (z : List ℕ) → same_text x z ≡ same_text y z
text_alike x y e z = ap (λ w. same_text w z) (same_text-true x y e)

pub texts_noted : (xs : List (List ℕ)) → insert_all same_text [] xs ≡ firsts same_text xs
texts_noted = noted_from_none same_text same_text-sym text_alike

pub symbols_noted : (us : List Use) → insert_all same_symbol [] us ≡ firsts same_symbol us
symbols_noted = noted_from_none same_symbol (λ u v. same_text-sym u.name v.name) (λ u v e w. text_alike u.name v.name e w.name)

-- things under other names are first at the same places
module _ {A B : Type 0} (f : A → B) where
  filter-mapped : (p : B → Bool) (xs : List A) → filter p (map f xs) ≡ map f (filter (λ x. p (f x)) xs)
  filter-mapped p [] = refl
  filter-mapped p (x ∷ xs) = by (p (f x)) (filter-mapped p xs)
    where
      by : (b : Bool) → filter p (map f xs) ≡ map f (filter (λ y. p (f y)) xs) → cond b (f x ∷ filter p (map f xs)) (filter p (map f xs)) ≡ map f (cond b (x ∷ filter (λ y. p (f y)) xs) (filter (λ y. p (f y)) xs))
      by true h = ap (λ ys. f x ∷ ys) h
      by false h = h

  pub firsts-mapped : (same : A → A → Bool) (other : B → B → Bool) → ((x y : A) → other (f x) (f y) ≡ same x y) → (xs : List A) → firsts other (map f xs) ≡ map f (firsts same xs)
  firsts-mapped same other h [] = refl
  firsts-mapped same other h (x ∷ xs) =
      ap (λ ys. f x ∷ filter (λ y. not (other (f x) y)) ys) (firsts-mapped same other h xs)
      ∙ ap (λ ys. f x ∷ ys) (filter-mapped (λ y. not (other (f x) y)) (firsts same xs) ∙ ap (map f) (filter-same _ _ (λ y. ap not (h x y)) (firsts same xs)))

-- the first type of a name is that of its first use
type_kept : (f : List ℕ) (u : Use) (us : List Use) → same_text u.name f ≡ false → type_in (filter (λ v. not (same_symbol u v)) us) f ≡ type_in us f
type_kept f u [] e = refl
type_kept f u (v ∷ us) e = split_bool (same_text u.name v.name)
    (λ k.
    let other : same_text v.name f ≡ false = ap (λ n. same_text n f) (sym (same_text-true u.name v.name k)) ∙ e in
    rw k (rw other (type_kept f u us e)))
    (λ k. rw k (ap (λ o. if same_text v.name f then Some v.type else o) (type_kept f u us e)))

pub type_first : (us : List Use) (f : List ℕ) → type_in (firsts same_symbol us) f ≡ type_in us f
type_first [] f = refl
type_first (u ∷ us) f = split_bool (same_text u.name f)
    (λ k. rw k refl)
    (λ k. rw k (type_kept f u (firsts same_symbol us) k ∙ type_first us f))

-- the four parts of what was seen
abbrev pub texts_of : List IndexName → List (List ℕ)
texts_of [] = []
texts_of (Plain ∷ is) = texts_of is
texts_of (Named a ∷ is) = a ∷ texts_of is

or_assoc : (a b c : Bool) → (a || b) || c ≡ a || (b || c)
or_assoc true b c = refl
or_assoc false b c = refl

or_true : (a : Bool) → a || true ≡ true
or_true true = refl
or_true false = refl

pub seen_symbols : (us : List Use) (os : List Occurrence) (s : Seen) → (and_occurrences us s os).symbols ≡ insert_all same_symbol s.symbols (map (typed us) (uses os))
seen_symbols us [] s = refl
seen_symbols us (Occurrence.symbol u ∷ os) s = seen_symbols us os (and_occurrence us s (Occurrence.symbol u))
seen_symbols us (Occurrence.sort r ∷ os) s = seen_symbols us os (and_occurrence us s (Occurrence.sort r))
seen_symbols us (Occurrence.index Plain ∷ os) s = seen_symbols us os (and_occurrence us s (Occurrence.index Plain))
seen_symbols us (Occurrence.index (Named a) ∷ os) s = seen_symbols us os (and_occurrence us s (Occurrence.index (Named a)))

pub seen_individual : (us : List Use) (os : List Occurrence) (s : Seen) → (and_occurrences us s os).individual ≡ s.individual || has same_sort Individual (sorts os)
seen_individual us [] s = sym (or_false s.individual)
  where
    or_false : (a : Bool) → a || false ≡ a
    or_false true = refl
    or_false false = refl
seen_individual us (Occurrence.symbol u ∷ os) s = seen_individual us os (and_occurrence us s (Occurrence.symbol u))
seen_individual us (Occurrence.sort r ∷ os) s = seen_individual us os (and_occurrence us s (Occurrence.sort r)) ∙ or_assoc s.individual (same_sort r Individual) (has same_sort Individual (sorts os))
seen_individual us (Occurrence.index Plain ∷ os) s = seen_individual us os (and_occurrence us s (Occurrence.index Plain))
seen_individual us (Occurrence.index (Named a) ∷ os) s = seen_individual us os (and_occurrence us s (Occurrence.index (Named a)))

pub seen_plain : (us : List Use) (os : List Occurrence) (s : Seen) → (and_occurrences us s os).plain ≡ s.plain || has same_index Plain (indexes os)
seen_plain us [] s = sym (or_false s.plain)
  where
    or_false : (a : Bool) → a || false ≡ a
    or_false true = refl
    or_false false = refl
seen_plain us (Occurrence.symbol u ∷ os) s = seen_plain us os (and_occurrence us s (Occurrence.symbol u))
seen_plain us (Occurrence.sort r ∷ os) s = seen_plain us os (and_occurrence us s (Occurrence.sort r))
seen_plain us (Occurrence.index Plain ∷ os) s = seen_plain us os (and_occurrence us s (Occurrence.index Plain)) ∙ sym (or_true s.plain)
seen_plain us (Occurrence.index (Named a) ∷ os) s = seen_plain us os (and_occurrence us s (Occurrence.index (Named a)))

pub seen_indexes : (us : List Use) (os : List Occurrence) (s : Seen) → (and_occurrences us s os).indexes ≡ insert_all same_text s.indexes (texts_of (indexes os))
seen_indexes us [] s = refl
seen_indexes us (Occurrence.symbol u ∷ os) s = seen_indexes us os (and_occurrence us s (Occurrence.symbol u))
seen_indexes us (Occurrence.sort r ∷ os) s = seen_indexes us os (and_occurrence us s (Occurrence.sort r))
seen_indexes us (Occurrence.index Plain ∷ os) s = seen_indexes us os (and_occurrence us s (Occurrence.index Plain))
seen_indexes us (Occurrence.index (Named a) ∷ os) s = seen_indexes us os (and_occurrence us s (Occurrence.index (Named a)))

pub named_texts : (is : List IndexName) → filter is_named is ≡ map Named (texts_of is)
named_texts [] = refl
named_texts (Plain ∷ is) = named_texts is
named_texts (Named a ∷ is) = ap (λ js. Named a ∷ js) (named_texts is)
