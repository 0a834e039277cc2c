-- What different names and sorts in range say of the parts of a signature.
use Rattle.std.proofs.Common.{◌≡◌, ℕ, Bool, true, false, List, [], ◌∷◌, ◌++◌, refl, sym, ap, ◌∙◌}
use Rattle.std.specs.Prelude.{◌&&◌, ◌||◌, not, map}
use Rattle.std.specs.List.{list_all}
use Rattle.std.proofs.lemmas.Bool.{and_from, and_parts}
use Rattle.nxf_tree.specs.declared.tree.SortName.TheVariants.{User}
use Rattle.nxf_tree.specs.declared.tree.Signature.{Signature}
use Rattle.nxf_tree.specs.Names.{same_text}
use Rattle.nxf_tree.specs.Counting.{has, all_different}
use Rattle.nxf_tree.specs.Signature.{same_sort, same_index, sort_names, symbol_names, index_names}
use Rattle.nxf_tree.specs.Sorting.{in_range, gives_in_range}
use Rattle.nxf_tree.specs.WellFormed.{HasDifferentNames, HasSortsInRange}

-- the symbols have different names, and the numbers of their sorts are in range
pub record HasGoodSymbols (sig : Signature) : Type 0 where
  pub names : all_different same_text (symbol_names sig.symbols) ≡ true
  pub numbers : list_all (λ entry. list_all (in_range sig.sorts) entry.args && gives_in_range sig.sorts entry.gives) sig.symbols ≡ true

module _ {A : Type 0} (same : A → A → Bool) where
  pub has-append : (x : A) (xs ys : List A) → has same x (xs ++ ys) ≡ has same x xs || has same x ys
  has-append x [] ys = refl
  has-append x (y ∷ xs) ys = ap (λ b. same y x || b) (has-append x xs ys) ∙ or-assoc (same y x) (has same x xs) (has same x ys)
    where
      or-assoc : (a b c : Bool) → a || (b || c) ≡ (a || b) || c
      or-assoc true b c = refl
      or-assoc false b c = refl

  different-parts : (xs ys : List A) → all_different same (xs ++ ys) ≡ true → (all_different same xs ≡ true) × (all_different same ys ≡ true)
  different-parts [] ys h = (refl, h)
  different-parts (x ∷ xs) ys h =
      let parts : (not (has same x (xs ++ ys)) ≡ true) × (all_different same (xs ++ ys) ≡ true) = and_parts _ _ h in
      let rest : (all_different same xs ≡ true) × (all_different same ys ≡ true) = different-parts xs ys parts.1 in
      (and_from _ _ (first (has same x xs) (has same x ys) (sym (ap not (has-append x xs ys)) ∙ parts.0)) rest.0, rest.1)
    where
      first : (a b : Bool) → not (a || b) ≡ true → not a ≡ true
      first true b k = k
      first false b k = refl

  none-common : (xs ys : List A) → all_different same (xs ++ ys) ≡ true → list_all (λ x. not (has same x ys)) xs ≡ true
  none-common [] ys h = refl
  none-common (x ∷ xs) ys h =
      let parts : (not (has same x (xs ++ ys)) ≡ true) × (all_different same (xs ++ ys) ≡ true) = and_parts _ _ h in
      and_from _ _ (second (has same x xs) (has same x ys) (sym (ap not (has-append x xs ys)) ∙ parts.0)) (none-common xs ys parts.1)
    where
      second : (a b : Bool) → not (a || b) ≡ true → not b ≡ true
      second true true k = k
      second true false k = refl
      second false b k = k

  -- lists of different things that have none in common are different together
  pub different-together : (xs ys : List A) → all_different same xs ≡ true → all_different same ys ≡ true → list_all (λ x. not (has same x ys)) xs ≡ true → all_different same (xs ++ ys) ≡ true
  different-together [] ys h k d = k
  different-together (x ∷ xs) ys h k d =
      let hs : (not (has same x xs) ≡ true) × (all_different same xs ≡ true) = and_parts _ _ h in
      let ds : (not (has same x ys) ≡ true) × (list_all (λ z. not (has same z ys)) xs ≡ true) = and_parts _ _ d in
      and_from _ _ (ap not (has-append x xs ys) ∙ neither (has same x xs) (has same x ys) hs.0 ds.0) (different-together xs ys hs.1 k ds.1)
    where
      neither : (a b : Bool) → not a ≡ true → not b ≡ true → not (a || b) ≡ true
      neither true b p q = p
      neither false b p q = q

users-has : (f : List ℕ) (fs : List (List ℕ)) → has same_sort (User f) (map User fs) ≡ has same_text f fs
users-has f [] = refl
users-has f (g ∷ fs) = ap (λ b. same_text g f || b) (users-has f fs)

pub users-different : (fs : List (List ℕ)) → all_different same_sort (map User fs) ≡ all_different same_text fs
users-different [] = refl
users-different (f ∷ fs) = λ i. not (users-has f fs i) && users-different fs i

-- the three kinds of names, each by itself, and no symbol with the name of a sort
pub record DifferentParts (sig : Signature) : Type 0 where
  pub sorts : all_different same_sort (sort_names sig.sorts) ≡ true
  pub symbols : all_different same_text (symbol_names sig.symbols) ≡ true
  pub indexes : all_different same_index (index_names sig.indexes) ≡ true
  pub apart : list_all (λ f. not (has same_sort f (sort_names sig.sorts))) (map User (symbol_names sig.symbols)) ≡ true

pub parts-of-names : (sig : Signature) → HasDifferentNames sig → DifferentParts sig
parts-of-names sig h =
    let parts : (all_different same_sort (map User (symbol_names sig.symbols)) ≡ true) × (all_different same_sort (sort_names sig.sorts) ≡ true) = different-parts same_sort (map User (symbol_names sig.symbols)) (sort_names sig.sorts) h.names in
    record {
      sorts = parts.1;
      symbols = sym (users-different (symbol_names sig.symbols)) ∙ parts.0;
      indexes = h.indexes;
      apart = none-common same_sort (map User (symbol_names sig.symbols)) (sort_names sig.sorts) h.names;
    }

pub good-from : (sig : Signature) → HasDifferentNames sig → HasSortsInRange sig → HasGoodSymbols sig
good-from sig h r = record { names = (parts-of-names sig h).symbols; numbers = r }
