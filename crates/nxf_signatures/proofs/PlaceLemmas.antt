-- The places of names, as the tables give them.
use Rattle.std.proofs.Common.{◌≡◌, ◌<◌, ℕ, ◌+◌, Bool, true, false, cond, List, [], ◌∷◌, ◌++◌, length, take, Option, None, Some, refl, sym, ap, ◌∙◌, arith}
use Rattle.std.proofs.lemmas.List.{map_more, map-append}
use Rattle.std.specs.Prelude.{zero, get_or, suc, ◌||◌, map, position, slice_get, if◌then◌else◌}
use Rattle.nxf_tree.specs.declared.tree.SymbolEntry.{SymbolEntry}
use Rattle.name_laws.proofs.SameNames.{same_text-sym}
use Rattle.std.specs.List.{list_any, position_from, position_or_len}
use Rattle.nxf_tree.specs.Counting.{has}
use Rattle.std.specs.Option.{option_map, unwrap_or}
use Rattle.std.proofs.lemmas.Iterator.Adapters.{position_from-zero}
use Rattle.std.proofs.lemmas.List.Recursion.{is_position_or_len}
use Rattle.nxf_tree.specs.declared.tree.IndexName.{IndexName}
use Rattle.nxf_tree.specs.declared.tree.IndexName.TheVariants.{Plain, Named}
use Rattle.nxf_tree.specs.declared.tree.SortName.{SortName}
use Rattle.nxf_tree.specs.declared.tree.SortName.TheVariants.{Individual, User}
use Rattle.nxf_tree.specs.Names.{same_text}
use Rattle.nxf_tree.specs.Signature.{same_sort, same_index, symbol_names}
use Rattle.nxf_signatures.specs.Places.{place, shifted, sort_list, index_list, numbered_entry}

module _ {A : Type 0} (p : A → Bool) where
  from_place : (i : ℕ) (xs : List A) → position_from p i xs ≡ option_map (λ k. i + k) (place p xs)
  from_place i [] = refl
  from_place i (x ∷ xs) = by (p x) (place p xs) (from_place (i + 1) xs)
    where
      by : (b : Bool) (o : Option ℕ) → position_from p (i + 1) xs ≡ option_map (λ k. i + 1 + k) o → cond b (Some i) (position_from p (i + 1) xs) ≡ option_map (λ k. i + k) (if b then Some 0 else option_map suc o)
      by true o h = let e : i ≡ i + 0 = omega arith in ap Some e
      by false None h = h
      by false (Some k) h = let e : i + 1 + k ≡ i + suc k = omega arith in h ∙ ap Some e

  pub place_is : (xs : List A) → position p xs ≡ place p xs
  place_is xs = position_from-zero p xs ∙ from_place 0 xs ∙ by (place p xs)
    where
      by : (o : Option ℕ) → option_map (λ k. 0 + k) o ≡ o
      by None = refl
      by (Some k) = let e : 0 + k ≡ k = omega arith in ap Some e

  abbrev or_length : List A → ℕ
  or_length xs = unwrap_or (place p xs) (length xs)

  -- the place, or the length where there is none
  pub number_is : (xs : List A) → or_length xs ≡ position_or_len p xs
  number_is = is_position_or_len or_length p refl (λ x xs. by x xs (p x) (place p xs))
    where
      by : (x : A) (xs : List A) (b : Bool) (o : Option ℕ) → unwrap_or (if b then Some 0 else option_map suc o) (length (x ∷ xs)) ≡ cond b 0 (1 + unwrap_or o (length xs))
      by x xs true o = refl
      by x xs false None = omega arith
      by x xs false (Some k) = omega arith

  pub number_there : (xs : List A) (k : ℕ) → place p xs ≡ Some k → position_or_len p xs ≡ k
  number_there xs k h = sym (number_is xs) ∙ ap (λ o. unwrap_or o (length xs)) h

  pub number_past : (xs : List A) → place p xs ≡ None → position_or_len p xs ≡ length xs
  number_past xs h = sym (number_is xs) ∙ ap (λ o. unwrap_or o (length xs)) h

after_first : (b : Bool) (o : Option ℕ) → (if b then option_map suc o else o) ≡ option_map (shifted b) o
after_first true None = refl
after_first true (Some k) = let e : suc k ≡ k + 1 = omega arith in ap Some e
after_first false None = refl
after_first false (Some k) = refl

user_place : (x : List ℕ) (texts : List (List ℕ)) → place (same_sort (User x)) (map User texts) ≡ place (same_text x) texts
user_place x [] = refl
user_place x (t ∷ texts) = ap (λ o. if same_text x t then Some 0 else option_map suc o) (user_place x texts)

no_individual : (texts : List (List ℕ)) → place (same_sort Individual) (map User texts) ≡ None
no_individual [] = refl
no_individual (t ∷ texts) = ap (option_map suc) (no_individual texts)

pub place_of_user : (b : Bool) (x : List ℕ) (texts : List (List ℕ)) → place (same_sort (User x)) (sort_list b texts) ≡ option_map (shifted b) (place (same_text x) texts)
place_of_user true x texts = ap (option_map suc) (user_place x texts) ∙ after_first true (place (same_text x) texts)
place_of_user false x texts = user_place x texts ∙ after_first false (place (same_text x) texts)

pub place_of_individual : (b : Bool) (texts : List (List ℕ)) → place (same_sort Individual) (sort_list b texts) ≡ (if b then Some 0 else None)
place_of_individual true texts = refl
place_of_individual false texts = no_individual texts

named_place : (a : List ℕ) (texts : List (List ℕ)) → place (same_index (Named a)) (map Named texts) ≡ place (same_text a) texts
named_place a [] = refl
named_place a (t ∷ texts) = ap (λ o. if same_text a t then Some 0 else option_map suc o) (named_place a texts)

no_plain : (texts : List (List ℕ)) → place (same_index Plain) (map Named texts) ≡ None
no_plain [] = refl
no_plain (t ∷ texts) = ap (option_map suc) (no_plain texts)

pub place_of_named : (b : Bool) (a : List ℕ) (texts : List (List ℕ)) → place (same_index (Named a)) (index_list b texts) ≡ option_map (shifted b) (place (same_text a) texts)
place_of_named true a texts = ap (option_map suc) (named_place a texts) ∙ after_first true (place (same_text a) texts)
place_of_named false a texts = named_place a texts ∙ after_first false (place (same_text a) texts)

pub place_of_plain : (b : Bool) (texts : List (List ℕ)) → place (same_index Plain) (index_list b texts) ≡ (if b then Some 0 else None)
place_of_plain true texts = refl
place_of_plain false texts = no_plain texts

users_length : (texts : List (List ℕ)) → length (map User texts) ≡ length texts
users_length [] = refl
users_length (t ∷ texts) = ap suc (users_length texts)

pub sorts_length : (b : Bool) (texts : List (List ℕ)) → length (sort_list b texts) ≡ (if b then length texts + 1 else length texts)
sorts_length true texts = ap suc (users_length texts) ∙ omega arith
sorts_length false texts = users_length texts

-- the first entry of a name, by the test at the first
abbrev found : Bool → SymbolEntry → Option (ℕ × SymbolEntry) → Option (ℕ × SymbolEntry)
found true entry o = Some (0, entry)
found false entry o = option_map (λ p. (suc p.0, p.1)) o

found_is : (b : Bool) (entry : SymbolEntry) (entries : List SymbolEntry) (f : List ℕ) → same_text entry.name f ≡ b → numbered_entry (entry ∷ entries) f ≡ found b entry (numbered_entry entries f)
found_is true entry entries f h = rw h refl
found_is false entry entries f h = rw h refl

-- the entry at the place of its name
pub entry_there : (entries : List SymbolEntry) (f : List ℕ) (k : ℕ) (e : SymbolEntry) → place (same_text f) (symbol_names entries) ≡ Some k → slice_get entries k ≡ Some e → numbered_entry entries f ≡ Some (k, e)
entry_there [] f k e h g = absurd cc
entry_there (entry ∷ entries) f k e h g =
    found_is (same_text f entry.name) entry entries f (same_text-sym entry.name f)
    ∙ by (same_text f entry.name) (place (same_text f) (symbol_names entries)) (numbered_entry entries f) k (λ j e2 a b. entry_there entries f j e2 a b) h g
  where
    by : (b : Bool) (o : Option ℕ) (r : Option (ℕ × SymbolEntry)) (k : ℕ) → ((j : ℕ) (e2 : SymbolEntry) → o ≡ Some j → slice_get entries j ≡ Some e2 → r ≡ Some (j, e2))
        → (if b then Some 0 else option_map suc o) ≡ Some k → slice_get (entry ∷ entries) k ≡ Some e → found b entry r ≡ Some (k, e)
    by true o r zero next h g = let is : entry ≡ e = cc in ap (λ x. found true x r) is
    by true o r (suc k) next h g = absurd cc
    by false None r k next h g = absurd cc
    by false (Some j) r zero next h g = absurd cc
    by false (Some j) r (suc k) next h g = let is : j ≡ k = cc in ap (found false entry) (next k e (ap Some is) g)

pub entry_absent : (entries : List SymbolEntry) (f : List ℕ) → place (same_text f) (symbol_names entries) ≡ None → numbered_entry entries f ≡ None
entry_absent [] f h = refl
entry_absent (entry ∷ entries) f h =
    found_is (same_text f entry.name) entry entries f (same_text-sym entry.name f)
    ∙ by (same_text f entry.name) (place (same_text f) (symbol_names entries)) (numbered_entry entries f) (entry_absent entries f) h
  where
    by : (b : Bool) (o : Option ℕ) (r : Option (ℕ × SymbolEntry)) → (o ≡ None → r ≡ None) → (if b then Some 0 else option_map suc o) ≡ None → found b entry r ≡ None
    by true o r next h = absurd cc
    by false None r next h = ap (found false entry) (next refl)
    by false (Some j) r next h = absurd cc

-- a user's sort is in the list where its text is
users_have : (x : List ℕ) (texts : List (List ℕ)) → list_any (same_text x) texts ≡ has same_sort (User x) (map User texts)
users_have x [] = refl
users_have x (t ∷ texts) = λ i. same_text-sym x t i || users_have x texts i

pub sort_there : (b : Bool) (x : List ℕ) (texts : List (List ℕ)) → list_any (same_text x) texts ≡ has same_sort (User x) (sort_list b texts)
sort_there true x texts = users_have x texts
sort_there false x texts = users_have x texts

-- the list of one name more
pub sorts-more : {B : Type 0} (f : SortName → B) (b : Bool) (xs : List (List ℕ)) (k : ℕ) (d : List ℕ) → k < length xs → map f (sort_list b (take (k + 1) xs)) ≡ map f (sort_list b (take k xs)) ++ f (User (get_or xs k d)) ∷ []
sorts-more f true xs k d h = ap (λ users. map f (Individual ∷ users)) (map_more User xs k d h) ∙ map-append f (Individual ∷ map User (take k xs)) (User (get_or xs k d) ∷ [])
sorts-more f false xs k d h = ap (map f) (map_more User xs k d h) ∙ map-append f (map User (take k xs)) (User (get_or xs k d) ∷ [])

pub indexes-more : {B : Type 0} (f : IndexName → B) (b : Bool) (xs : List (List ℕ)) (k : ℕ) (d : List ℕ) → k < length xs → map f (index_list b (take (k + 1) xs)) ≡ map f (index_list b (take k xs)) ++ f (Named (get_or xs k d)) ∷ []
indexes-more f true xs k d h = ap (λ named. map f (Plain ∷ named)) (map_more Named xs k d h) ∙ map-append f (Plain ∷ map Named (take k xs)) (Named (get_or xs k d) ∷ [])
indexes-more f false xs k d h = ap (map f) (map_more Named xs k d h) ∙ map-append f (map Named (take k xs)) (Named (get_or xs k d) ∷ [])
