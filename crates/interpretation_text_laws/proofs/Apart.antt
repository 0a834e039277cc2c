-- Two elements have two names, and none is a name of the signature.
use Rattle.std.proofs.Common.{◌≡◌, ℕ, zero, suc, ◌<◌, Bool, true, false, List, [], ◌∷◌, ◌++◌, map, length, refl, sym, ap, subst, ◌∙◌, append_assoc, arith}
use Rattle.std.specs.Prelude.{codes, ◌||◌, not}
use Rattle.std.proofs.lemmas.Bool.{and_parts, or_right, not-true}
use Rattle.nxf_tree.specs.declared.tree.Signature.{Signature}
use Rattle.nxf_tree.specs.declared.tree.ClassicalSignature.{ClassicalSignature}
use Rattle.nxf_tree.specs.declared.tree.IndexName.{IndexName}
use Rattle.nxf_tree.specs.declared.tree.IndexName.TheVariants.{Plain, Named}
use Rattle.nxf_tree.specs.declared.tree.SortName.{SortName}
use Rattle.nxf_tree.specs.declared.tree.SortName.TheVariants.{Individual, User}
use Rattle.nxf_tree.specs.Counting.{has, all_different}
use Rattle.nxf_tree.specs.Names.{same_text, begins, numeral, user_name, user_sort, world_name, actual_name, relation_name, existence_name}
use Rattle.nxf_tree.specs.Signature.{same_sort, sort_names, existence_sorts, index_names, symbol_names}
use Rattle.nxf_tree.specs.ClassicalSignature.{classical_signature_of}
use Rattle.nxf_tree.specs.Structures.{table_names}
use Rattle.nxf_tree.specs.Problem.{classical_sort_at}
use Rattle.name_laws.specs.NameLaws.{HasDifferentClassicalNames}
use Rattle.name_laws.proofs.GoodSymbols.{has-append}
use Rattle.name_laws.proofs.Naming.{user-apart}
use Rattle.name_laws.proofs.SortedFormulas.{same_sort-refl}
use Rattle.name_laws.proofs.Spelling.{cancel_front, numeral-injective, same_text-refl, true-false}
use Rattle.name_laws.proofs.Tables.{tables-named}
use Rattle.classical_signature_laws.proofs.ClassicalSorts.{classical-names}
use Rattle.interpretation_text_definitions.specs.ElementNames.{stem_of, element_name}
use Rattle.interpretation_text_laws.specs.ElementsApart.{declared_names, ElementsApartLaw}
use Rattle.interpretation_text_laws.proofs.Marks.{numeral_unmarked, split_at_mark}

-- ---- places in a list of different sorts

has_at : (sorts : List SortName) (k : ℕ) → k < length sorts → has same_sort (classical_sort_at sorts k) sorts ≡ true
has_at [] k h = absurd (omega arith)
has_at (s ∷ sorts) zero h = ap (λ b. b || has same_sort s sorts) (same_sort-refl s)
has_at (s ∷ sorts) (suc k) h = or_right (same_sort s (classical_sort_at sorts k)) _ (has_at sorts k (omega arith))

not_later : (s : SortName) (sorts : List SortName) (k : ℕ) → all_different same_sort (s ∷ sorts) ≡ true → k < length sorts → s ≡ classical_sort_at sorts k → ⊥
not_later s sorts k d h e =
    let parts : (not (has same_sort s sorts) ≡ true) × (all_different same_sort sorts ≡ true) = and_parts _ _ d in
    true-false (sym (ap (λ r. has same_sort r sorts) e ∙ has_at sorts k h) ∙ not-true _ parts.0)

-- one sort stands at one place
pub one_place : (sorts : List SortName) (j k : ℕ) → all_different same_sort sorts ≡ true → j < length sorts → k < length sorts → classical_sort_at sorts j ≡ classical_sort_at sorts k → j ≡ k
one_place [] j k d p q e = absurd (omega arith)
one_place (s ∷ sorts) zero zero d p q e = refl
one_place (s ∷ sorts) zero (suc k) d p q e = absurd (not_later s sorts k d (omega arith) e)
one_place (s ∷ sorts) (suc j) zero d p q e = absurd (not_later s sorts j d (omega arith) (sym e))
one_place (s ∷ sorts) (suc j) (suc k) d p q e =
    let parts : (not (has same_sort s sorts) ≡ true) × (all_different same_sort sorts ≡ true) = and_parts _ _ d in
    ap suc (one_place sorts j k parts.1 (omega arith) (omega arith) e)

-- ---- elements apart from each other

-- a name, by the sort's number and name
abbrev named : ℕ → SortName → ℕ → List ℕ
named k s n = stem_of k s ++ numeral n

-- texts that the test tells apart aren't the same
differ : (x y : List ℕ) → same_text x y ≡ false → x ≡ y → ⊥
differ x y h e = true-false (sym (ap (same_text x) (sym e) ∙ same_text-refl x) ∙ h)

-- the same sort of elements, with the same number
record SameElement (j k : ℕ) (s r : SortName) (m n : ℕ) : Type 0 where
  pub number : m ≡ n
  pub worlds : j ≡ 0 → k ≡ 0
  pub others : (i : ℕ) → j ≡ suc i → (l : ℕ) × ((k ≡ suc l) × (s ≡ r))

after_mark : (s : List ℕ) (n : ℕ) → (codes "mk_e_" ++ s ++ codes "_") ++ numeral n ≡ codes "mk_e_" ++ (s ++ 95 ∷ numeral n)
after_mark s n = append_assoc (codes "mk_e_" ++ s) (codes "_") (numeral n) ∙ append_assoc (codes "mk_e_") s (95 ∷ numeral n)

user_elements : (s r : List ℕ) (m n : ℕ) → named 1 (User s) m ≡ named 1 (User r) n → (s ≡ r) × (m ≡ n)
user_elements s r m n e =
    let rest = cancel_front (codes "mk_e_") (s ++ 95 ∷ numeral m) (r ++ 95 ∷ numeral n) (sym (after_mark s m) ∙ e ∙ after_mark r n) in
    let parts = split_at_mark s r (numeral m) (numeral n) (numeral_unmarked m) (numeral_unmarked n) rest in
    (parts.0, numeral-injective m n parts.1)

same_element : (j k : ℕ) (s r : SortName) (m n : ℕ) → named j s m ≡ named k r n → SameElement j k s r m n
same_element zero zero s r m n e = record { number = numeral-injective m n (cancel_front (codes "mk_w_") _ _ e); worlds = λ z. refl; others = λ i z. absurd (omega arith) }
same_element zero (suc k) s Individual m n e = absurd (differ _ _ refl e)
same_element zero (suc k) s (User r) m n e = absurd (differ _ _ refl e)
same_element (suc j) zero Individual r m n e = absurd (differ _ _ refl e)
same_element (suc j) zero (User s) r m n e = absurd (differ _ _ refl e)
same_element (suc j) (suc k) Individual Individual m n e = record { number = numeral-injective m n (cancel_front (codes "mk_i_") _ _ e); worlds = λ z. absurd (omega arith); others = λ i z. (k, (refl, refl)) }
same_element (suc j) (suc k) Individual (User r) m n e = absurd (differ _ _ refl e)
same_element (suc j) (suc k) (User s) Individual m n e = absurd (differ _ _ refl e)
same_element (suc j) (suc k) (User s) (User r) m n e =
    let parts = user_elements s r m n e in
    record { number = parts.1; worlds = λ z. absurd (omega arith); others = λ i z. (k, (refl, ap User parts.0)) }

same_place : (sorts : List SortName) (j k m n : ℕ) → all_different same_sort sorts ≡ true → j < length sorts → k < length sorts → SameElement j k (classical_sort_at sorts j) (classical_sort_at sorts k) m n → j ≡ k
same_place sorts zero k m n d p q h = sym (h.worlds refl)
same_place sorts (suc j) k m n d p q h = one_place sorts (suc j) k d p q (h.others j refl).1.1

-- ---- elements apart from the names of the signature

element_mk : (k : ℕ) (s : SortName) (n : ℕ) → (begins (codes "mk_") (named k s n) ≡ true) × (begins (codes "mk_u_") (named k s n) ≡ false)
element_mk zero s n = (refl, refl)
element_mk (suc k) Individual n = (refl, refl)
element_mk (suc k) (User s) n = (refl, refl)

actual_apart : (k : ℕ) (s : SortName) (n : ℕ) → same_text actual_name (named k s n) ≡ false
unfolding actual_name
actual_apart zero s n = refl
actual_apart (suc k) Individual n = refl
actual_apart (suc k) (User s) n = refl

world_apart : (k : ℕ) (s : SortName) (n : ℕ) → same_text world_name (named k s n) ≡ false
unfolding world_name
world_apart zero s n = refl
world_apart (suc k) Individual n = refl
world_apart (suc k) (User s) n = refl

relation_apart : (k : ℕ) (s : SortName) (n : ℕ) (i : IndexName) → same_text (relation_name i) (named k s n) ≡ false
unfolding relation_name
relation_apart zero s n Plain = refl
relation_apart zero s n (Named a) = refl
relation_apart (suc k) Individual n Plain = refl
relation_apart (suc k) Individual n (Named a) = refl
relation_apart (suc k) (User s) n Plain = refl
relation_apart (suc k) (User s) n (Named a) = refl

existence_apart : (k : ℕ) (s : SortName) (n : ℕ) (r : SortName) → same_text (existence_name r) (named k s n) ≡ false
unfolding existence_name
existence_apart zero s n Individual = refl
existence_apart zero s n (User r) = refl
existence_apart (suc k) Individual n Individual = refl
existence_apart (suc k) Individual n (User r) = refl
existence_apart (suc k) (User s) n Individual = refl
existence_apart (suc k) (User s) n (User r) = refl

none_has : {M N : Type 0} (name : M → N) (same : N → N → Bool) (x : N) (ms : List M) → ((m : M) → same (name m) x ≡ false) → has same x (map name ms) ≡ false
none_has name same x [] h = refl
none_has name same x (m ∷ ms) h = λ i. h m i || none_has name same x ms h i

texts_has : (f : List ℕ) (fs : List (List ℕ)) → has same_sort (User f) (map User fs) ≡ has same_text f fs
texts_has f [] = refl
texts_has f (g ∷ fs) = ap (λ b. same_text g f || b) (texts_has f fs)

sort_apart : (e : List ℕ) → ((a : List ℕ) → same_text (user_name a) e ≡ false) → (s : SortName) → same_sort (user_sort s) (User e) ≡ false
sort_apart e h Individual = refl
sort_apart e h (User a) = h a

module _ (sig : Signature) (k : ℕ) (s : SortName) (n : ℕ) where
  abbrev own : List ℕ
  own = named k s n

  users_apart : (a : List ℕ) → same_text (user_name a) own ≡ false
  users_apart a = user-apart a own (element_mk k s n)

  tables_apart : has same_text own (actual_name ∷ table_names (classical_signature_of sig).tables) ≡ false
  tables_apart =
      let relations = map relation_name (index_names sig.indexes) in
      let existences = map existence_name (existence_sorts sig.sorts) in
      let symbols = map user_name (symbol_names sig.symbols) in
      let rest : has same_text own (existences ++ symbols) ≡ false =
      has-append same_text own existences symbols ∙ (λ i. none_has existence_name same_text own (existence_sorts sig.sorts) (existence_apart k s n) i || none_has user_name same_text own (symbol_names sig.symbols) users_apart i) in
      let all : has same_text own (table_names (classical_signature_of sig).tables) ≡ false =
      ap (has same_text own) (tables-named sig) ∙ has-append same_text own relations (existences ++ symbols) ∙ (λ i. none_has relation_name same_text own (index_names sig.indexes) (relation_apart k s n) i || rest i) in
      (λ i. actual_apart k s n i || all i)

  sorts_apart : has same_sort (User own) (classical_signature_of sig).sorts ≡ false
  sorts_apart = λ i. world_apart k s n i || none_has user_sort same_sort (User own) (sort_names sig.sorts) (sort_apart own users_apart) i

  pub declared_apart : has same_sort (User own) (declared_names (classical_signature_of sig)) ≡ false
  declared_apart =
      has-append same_sort (User own) (map User (actual_name ∷ table_names (classical_signature_of sig).tables)) (classical_signature_of sig).sorts
      ∙ (λ i. (texts_has own (actual_name ∷ table_names (classical_signature_of sig).tables) ∙ tables_apart) i || sorts_apart i)

-- ---- the law

second_differ : (xs ys : List SortName) → all_different same_sort (xs ++ ys) ≡ true → all_different same_sort ys ≡ true
second_differ [] ys d = d
second_differ (x ∷ xs) ys d = second_differ xs ys (and_parts (not (has same_sort x (xs ++ ys))) _ d).1

pub sorts_differ : (csig : ClassicalSignature) → HasDifferentClassicalNames csig → all_different same_sort csig.sorts ≡ true
sorts_differ csig d = second_differ (map User (actual_name ∷ table_names csig.tables)) csig.sorts d.names

pub elements_apart : ElementsApartLaw
unfolding element_name
elements_apart sig csig h = record {
  elements = λ j k m n p q e.
      let same = same_element j k (classical_sort_at csig.sorts j) (classical_sort_at csig.sorts k) m n e in
      (same_place csig.sorts j k m n (sorts_differ csig (classical-names sig csig h)) p q same, same.number);
  declared = λ k n.
      subst (λ (c : ClassicalSignature). has same_sort (User (named k (classical_sort_at csig.sorts k) n)) (declared_names c) ≡ false) (sym h.is)
      (declared_apart sig k (classical_sort_at csig.sorts k) n);
}
