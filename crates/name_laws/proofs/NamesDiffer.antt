-- The classical signature of a signature with different names has different names.
use Rattle.std.proofs.Common.{◌≡◌, ℕ, Bool, true, false, List, [], ◌∷◌, ◌++◌, refl, sym, ap, ◌∙◌}
use Rattle.std.specs.Prelude.{◌&&◌, ◌||◌, not, if◌then◌else◌, map}
use Rattle.std.specs.List.{list_all}
use Rattle.std.proofs.lemmas.List.Folds.{list_all-append}
use Rattle.nxf_tree.specs.declared.tree.Signature.{Signature}
use Rattle.nxf_tree.specs.declared.tree.SortEntry.{SortEntry}
use Rattle.nxf_tree.specs.declared.tree.SortName.{SortName}
use Rattle.nxf_tree.specs.declared.tree.SortName.TheVariants.{Individual, User}
use Rattle.nxf_tree.specs.declared.tree.IndexName.{IndexName}
use Rattle.nxf_tree.specs.declared.tree.IndexName.TheVariants.{Plain, Named}
use Rattle.nxf_tree.specs.Counting.{has, all_different}
use Rattle.nxf_tree.specs.Names.{same_text, user_name, user_sort, world_name, actual_name, relation_name, existence_name}
use Rattle.nxf_tree.specs.Signature.{same_sort, same_index, constant_regime, sort_names, existence_sorts, index_names, symbol_names}
use Rattle.nxf_tree.specs.ClassicalSignature.{classical_signature_of}
use Rattle.nxf_tree.specs.Structures.{table_names}
use Rattle.name_laws.specs.NameLaws.{HasDifferentClassicalNames}
use Rattle.nxf_tree.specs.WellFormed.{HasDifferentNames}
use Rattle.name_laws.proofs.Apart.{world-actual, world-relation, world-existence}
use Rattle.name_laws.proofs.GoodSymbols.{DifferentParts, parts-of-names, different-together, users-different}
use Rattle.name_laws.proofs.Spelling.{true-false}
use Rattle.name_laws.proofs.Lists.{and-assoc}
use Rattle.name_laws.proofs.Naming.{same-user_name, same-relation_name, same-existence_name, apart-existence-relation, relation-mk, existence-mk, actual-mk, world-mk, user-apart, apart-user, same-user_sort}
use Rattle.name_laws.proofs.Tables.{tables-named}
use Rattle.name_laws.proofs.Types.{split}
use Rattle.name_laws.proofs.SortedFormulas.{both}

or-false : (b : Bool) → b || false ≡ b
or-false true = refl
or-false false = refl

not-false : (b : Bool) → not b ≡ true → b ≡ false
not-false true h = absurd (true-false (sym h))
not-false false h = refl

has-append : {N : Type 0} (same : N → N → Bool) (x : N) (xs ys : List N) → has same x (xs ++ ys) ≡ has same x xs || has same x ys
has-append same x [] ys = refl
has-append same x (y ∷ xs) ys = ap (λ b. same y x || b) (has-append same x xs ys) ∙ or-assoc (same y x) (has same x xs) (has same x ys)
  where
    or-assoc : (a b c : Bool) → a || (b || c) ≡ (a || b) || c
    or-assoc true b c = refl
    or-assoc false b c = refl

module _ {M N : Type 0} (name : M → N) (same : M → M → Bool) (same' : N → N → Bool) where
  has-map : ((a b : M) → same' (name a) (name b) ≡ same a b) → (x : M) (ns : List M) → has same' (name x) (map name ns) ≡ has same x ns
  has-map h x [] = refl
  has-map h x (n ∷ ns) = λ i. h n x i || has-map h x ns i

  different-map : ((a b : M) → same' (name a) (name b) ≡ same a b) → (ns : List M) (rest : List N) → ((a : M) → has same' (name a) rest ≡ false) → all_different same' (map name ns ++ rest) ≡ all_different same ns && all_different same' rest
  different-map h [] rest k = refl
  different-map h (n ∷ ns) rest k =
      (λ i. not ((has-append same' (name n) (map name ns) rest ∙ (λ j. has-map h n ns j || k n j) ∙ or-false (has same n ns)) i) && different-map h ns rest k i)
      ∙ and-assoc (not (has same n ns)) (all_different same ns) (all_different same' rest)

  different-alone : ((a b : M) → same' (name a) (name b) ≡ same a b) → (ns : List M) → all_different same' (map name ns) ≡ all_different same ns
  different-alone h [] = refl
  different-alone h (n ∷ ns) = λ i. not (has-map h n ns i) && different-alone h ns i

has-none : {M N : Type 0} (name : M → N) (same' : N → N → Bool) (x : N) (ns : List M) → ((a : M) → same' (name a) x ≡ false) → has same' x (map name ns) ≡ false
has-none name same' x [] h = refl
has-none name same' x (n ∷ ns) h = λ i. h n i || has-none name same' x ns h i

all-mapped : {M N : Type 0} (p : N → Bool) (name : M → N) (ms : List M) → list_all p (map name ms) ≡ list_all (λ m. p (name m)) ms
all-mapped p name [] = refl
all-mapped p name (m ∷ ms) = ap (λ b. p (name m) && b) (all-mapped p name ms)

relation-actual : (i : IndexName) → same_text (relation_name i) actual_name ≡ false
unfolding relation_name actual_name
relation-actual Plain = refl
relation-actual (Named a) = refl

existence-actual : (s : SortName) → same_text (existence_name s) actual_name ≡ false
unfolding existence_name actual_name
existence-actual Individual = refl
existence-actual (User a) = refl

sort-world : (s : SortName) → same_sort (user_sort s) (User world_name) ≡ false
sort-world Individual = refl
sort-world (User a) = user-apart a world_name world-mk

-- sorts that aren't constant are among the sorts
fewer-chosen : (s : SortName) (entry : SortEntry) (names few : List SortName) (c : Bool) → (has same_sort s names ≡ false → has same_sort s few ≡ false) → has same_sort s (entry.name ∷ names) ≡ false → has same_sort s (if c then few else entry.name ∷ few) ≡ false
fewer-chosen s entry names few true next h = next (or-second _ _ h)
  where
    or-second : (a b : Bool) → a || b ≡ false → b ≡ false
    or-second true b e = absurd (true-false e)
    or-second false b e = e
fewer-chosen s entry names few false next h = or-both (same_sort entry.name s) (has same_sort s names) (has same_sort s few) next h
  where
    or-both : (a b c : Bool) → (b ≡ false → c ≡ false) → a || b ≡ false → a || c ≡ false
    or-both true b c k e = absurd (true-false e)
    or-both false b c k e = k e

fewer : (s : SortName) (entries : List SortEntry) → has same_sort s (sort_names entries) ≡ false → has same_sort s (existence_sorts entries) ≡ false
fewer s [] h = refl
fewer s (entry ∷ entries) h = fewer-chosen s entry (sort_names entries) (existence_sorts entries) (constant_regime entry.regime) (fewer s entries) h

different-chosen : (entry : SortEntry) (few : List SortName) (c : Bool) → not (has same_sort entry.name few) ≡ true → all_different same_sort few ≡ true → all_different same_sort (if c then few else entry.name ∷ few) ≡ true
different-chosen entry few true h k = k
different-chosen entry few false h k = both _ _ h k

pub existence-sorts-different : (entries : List SortEntry) → all_different same_sort (sort_names entries) ≡ true → all_different same_sort (existence_sorts entries) ≡ true
existence-sorts-different [] h = refl
existence-sorts-different (entry ∷ entries) h =
    different-chosen entry (existence_sorts entries) (constant_regime entry.regime) (ap not (fewer entry.name entries (not-false _ (split _ _ h).0))) (existence-sorts-different entries (split _ _ h).1)

module _ (sig : Signature) where
  abbrev relations : List (List ℕ)
  relations = map relation_name (index_names sig.indexes)

  abbrev existences : List (List ℕ)
  existences = map existence_name (existence_sorts sig.sorts)

  abbrev symbols : List (List ℕ)
  symbols = map user_name (symbol_names sig.symbols)

  printed-different : all_different same_text (relations ++ (existences ++ symbols)) ≡ all_different same_index (index_names sig.indexes) && (all_different same_sort (existence_sorts sig.sorts) && all_different same_text (symbol_names sig.symbols))
  printed-different =
      different-map relation_name same_index same_text same-relation_name (index_names sig.indexes) (existences ++ symbols)
      (λ i. has-append same_text (relation_name i) existences symbols
      ∙ (λ j. has-none existence_name same_text (relation_name i) (existence_sorts sig.sorts) (λ s. apart-existence-relation s i) j || has-none user_name same_text (relation_name i) (symbol_names sig.symbols) (λ x. user-apart x (relation_name i) (relation-mk i)) j))
      ∙ ap (λ b. all_different same_index (index_names sig.indexes) && b)
      (different-map existence_name same_sort same_text same-existence_name (existence_sorts sig.sorts) symbols (λ s. has-none user_name same_text (existence_name s) (symbol_names sig.symbols) (λ x. user-apart x (existence_name s) (existence-mk s)))
      ∙ ap (λ b. all_different same_sort (existence_sorts sig.sorts) && b) (different-alone user_name same_text same_text same-user_name (symbol_names sig.symbols)))

  no-actual : has same_text actual_name (relations ++ (existences ++ symbols)) ≡ false
  no-actual =
      has-append same_text actual_name relations (existences ++ symbols)
      ∙ (λ j. has-none relation_name same_text actual_name (index_names sig.indexes) relation-actual j || (has-append same_text actual_name existences symbols ∙ (λ k. has-none existence_name same_text actual_name (existence_sorts sig.sorts) existence-actual k || has-none user_name same_text actual_name (symbol_names sig.symbols) (λ x. user-apart x actual_name actual-mk) k)) j)

  pub sorts-differ : DifferentParts sig → all_different same_sort (classical_signature_of sig).sorts ≡ true
  sorts-differ h =
      both _ _ (ap not (has-none user_sort same_sort (User world_name) (sort_names sig.sorts) sort-world)) (different-alone user_sort same_sort same_sort same-user_sort (sort_names sig.sorts) ∙ h.sorts)

  pub tables-differ : DifferentParts sig → all_different same_text (actual_name ∷ table_names (classical_signature_of sig).tables) ≡ true
  tables-differ h =
      ap (λ names. all_different same_text (actual_name ∷ names)) (tables-named sig)
      ∙ both _ _ (ap not no-actual) (printed-different ∙ both _ _ h.indexes (both _ _ (existence-sorts-different sig.sorts h.sorts) h.symbols))

  -- whether no sort of the printed problem has the name
  abbrev no_sort : List ℕ → Bool
  no_sort t = not (has same_sort (User t) (User world_name ∷ map user_sort (sort_names sig.sorts)))

  reserved-no_sort : (t : List ℕ) → same_text world_name t ≡ false → ((a : List ℕ) → same_text (user_name a) t ≡ false) → no_sort t ≡ true
  reserved-no_sort t w u = ap not (λ i. w i || has-none user_sort same_sort (User t) (sort_names sig.sorts) by i)
    where
      by : (s : SortName) → same_sort (user_sort s) (User t) ≡ false
      by Individual = refl
      by (User a) = u a

  all-no_sort : {M : Type 0} (name : M → List ℕ) → ((m : M) → no_sort (name m) ≡ true) → (ms : List M) → list_all no_sort (map name ms) ≡ true
  all-no_sort name h [] = refl
  all-no_sort name h (m ∷ ms) = both _ _ (h m) (all-no_sort name h ms)

  symbols-no_sort : (fs : List (List ℕ)) → list_all (λ f. not (has same_sort f (sort_names sig.sorts))) (map User fs) ≡ true → list_all no_sort (map user_name fs) ≡ true
  symbols-no_sort [] h = refl
  symbols-no_sort (f ∷ fs) h =
      let parts : (not (has same_sort (User f) (sort_names sig.sorts)) ≡ true) × (list_all (λ g. not (has same_sort g (sort_names sig.sorts))) (map User fs) ≡ true) = split _ _ h in
      both _ _ (ap not (λ i. apart-user f world_name world-mk i || has-map user_sort same_sort same_sort same-user_sort (User f) (sort_names sig.sorts) i) ∙ parts.0) (symbols-no_sort fs parts.1)

  tables-no_sort : DifferentParts sig → list_all no_sort (actual_name ∷ table_names (classical_signature_of sig).tables) ≡ true
  tables-no_sort h =
      ap (λ names. list_all no_sort (actual_name ∷ names)) (tables-named sig)
      ∙ both _ _ (reserved-no_sort actual_name world-actual (λ a. user-apart a actual_name actual-mk))
      (list_all-append no_sort relations (existences ++ symbols)
      ∙ both _ _ (all-no_sort relation_name (λ i. reserved-no_sort (relation_name i) (world-relation i) (λ a. user-apart a (relation_name i) (relation-mk i))) (index_names sig.indexes))
      (list_all-append no_sort existences symbols
      ∙ both _ _ (all-no_sort existence_name (λ s. reserved-no_sort (existence_name s) (world-existence s) (λ a. user-apart a (existence_name s) (existence-mk s))) (existence_sorts sig.sorts))
      (symbols-no_sort (symbol_names sig.symbols) h.apart)))

  pub names-differ : HasDifferentNames sig → HasDifferentClassicalNames (classical_signature_of sig)
  names-differ h =
      let d : DifferentParts sig = parts-of-names sig h in
      let names = actual_name ∷ table_names (classical_signature_of sig).tables in
      record {
        names = different-together same_sort (map User names) (classical_signature_of sig).sorts (users-different names ∙ tables-differ d) (sorts-differ d) (all-mapped (λ s. not (has same_sort s (classical_signature_of sig).sorts)) User names ∙ tables-no_sort d);
      }
