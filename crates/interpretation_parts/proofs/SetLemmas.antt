-- Sets of texts, and texts that are repeated.
use Rattle.std.proofs.Common.{◌≡◌, ℕ, Bool, true, false, List, [], ◌∷◌, ◌++◌, map, refl, ap, ◌∙◌, sym, eq-eqb}
use Rattle.std.specs.Prelude.{◌||◌, ◌&&◌, not, if◌then◌else◌, nat_eq}
use Rattle.std.specs.List.{list_any}
use Rattle.std.proofs.lemmas.List.Folds.{list_any-append}
use Rattle.indexmap.specs.IndexSet.{insert_key, insert_all}
use Rattle.nxf_tree.specs.Names.{same_text}
use Rattle.nxf_tree.specs.Counting.{has, all_different}
use Rattle.interpretation_definitions.specs.declared.element.Element.{Element}
use Rattle.interpretation_definitions.specs.Judging.{same_element, two_sorts}
use Rattle.interpretation_parts.specs.steps.Tables.{repeated, pair_of}
use Rattle.interpretation_parts.proofs.TableLemmas.{same_text-refl, same_text-true, same_text-sym}

pub or_false : (b : Bool) → b || false ≡ b
or_false true = refl
or_false false = refl

or_assoc : (a b c : Bool) → (a || b) || c ≡ a || (b || c)
or_assoc true b c = refl
or_assoc false b c = refl

-- one key more
pub member-insert : (x k : List ℕ) (keys : List (List ℕ)) → list_any (same_text x) (insert_key same_text keys k) ≡ list_any (same_text x) keys || same_text x k
member-insert x k keys = by (list_any (same_text k) keys) refl (same_text x k) refl
  where
    by : (b : Bool) → list_any (same_text k) keys ≡ b → (c : Bool) → same_text x k ≡ c → list_any (same_text x) (if b then keys else keys ++ k ∷ []) ≡ list_any (same_text x) keys || c
    by true h true e = ap (λ z. list_any (same_text z) keys) (same_text-true x k e) ∙ h ∙ sym (ap (λ b. b || true) (ap (λ z. list_any (same_text z) keys) (same_text-true x k e) ∙ h))
    by true h false e = sym (or_false (list_any (same_text x) keys))
    by false h c e = list_any-append (same_text x) keys (k ∷ []) ∙ ap (λ b. list_any (same_text x) keys || b) (or_false (same_text x k) ∙ e)

-- more keys
pub member-insert_all : (x : List ℕ) (keys xs : List (List ℕ)) → list_any (same_text x) (insert_all same_text keys xs) ≡ list_any (same_text x) keys || list_any (same_text x) xs
member-insert_all x keys [] = sym (or_false _)
member-insert_all x keys (k ∷ xs) =
    member-insert_all x (insert_key same_text keys k) xs ∙ ap (λ b. b || list_any (same_text x) xs) (member-insert x k keys) ∙ or_assoc (list_any (same_text x) keys) (same_text x k) (list_any (same_text x) xs)

pub has_is : (x : List ℕ) (ys : List (List ℕ)) → has same_text x ys ≡ list_any (same_text x) ys
has_is x [] = refl
has_is x (y ∷ ys) = ap (λ b. b || has same_text x ys) (same_text-sym y x) ∙ ap (λ b. same_text x y || b) (has_is x ys)

-- one text more
pub repeated-last : (keys xs : List (List ℕ)) (x : List ℕ) → repeated keys (xs ++ x ∷ []) ≡ repeated keys xs || list_any (same_text x) (insert_all same_text keys xs)
repeated-last keys [] x = or_false _
repeated-last keys (y ∷ xs) x =
    ap (λ b. list_any (same_text y) keys || b) (repeated-last (insert_key same_text keys y) xs x)
    ∙ sym (or_assoc (list_any (same_text y) keys) (repeated (insert_key same_text keys y) xs) _)

any_or : {A : Type 0} (p q : A → Bool) (r : A → Bool) → ((x : A) → r x ≡ p x || q x) → (xs : List A) → list_any r xs ≡ list_any p xs || list_any q xs
any_or p q r e [] = refl
any_or p q r e (x ∷ xs) = ap (λ b. b || list_any r xs) (e x) ∙ ap (λ b. (p x || q x) || b) (any_or p q r e xs) ∙ by (p x) (q x) (list_any p xs) (list_any q xs)
  where
    by : (a b c d : Bool) → (a || b) || (c || d) ≡ (a || c) || (b || d)
    by true b c d = refl
    by false true true d = refl
    by false true false d = refl
    by false false c d = refl

any_same : (k : List ℕ) (xs : List (List ℕ)) → list_any (λ x. same_text x k) xs ≡ has same_text k xs
any_same k [] = refl
any_same k (x ∷ xs) = ap (λ b. same_text x k || b) (any_same k xs)

-- a text is repeated where it is among the keys, or where two of the texts are the same
pub repeated_is : (keys xs : List (List ℕ)) → repeated keys xs ≡ list_any (λ x. list_any (same_text x) keys) xs || not (all_different same_text xs)
repeated_is keys [] = refl
repeated_is keys (x ∷ xs) =
    ap (λ b. list_any (same_text x) keys || b)
    (repeated_is (insert_key same_text keys x) xs
    ∙ ap (λ b. b || not (all_different same_text xs))
    (any_or (λ y. list_any (same_text y) keys) (λ y. same_text y x) (λ y. list_any (same_text y) (insert_key same_text keys x)) (λ y. member-insert y x keys) xs
    ∙ ap (λ b. list_any (λ y. list_any (same_text y) keys) xs || b) (any_same x xs)))
    ∙ by (list_any (same_text x) keys) (list_any (λ y. list_any (same_text y) keys) xs) (has same_text x xs) (all_different same_text xs)
  where
    by : (a b h d : Bool) → a || ((b || h) || not d) ≡ (a || b) || not (not h && d)
    by true b h d = refl
    by false true h d = refl
    by false false true d = refl
    by false false false d = refl

pub none_repeated : (xs : List (List ℕ)) → list_any (λ x. list_any (same_text x) []) xs ≡ false
none_repeated [] = refl
none_repeated (x ∷ xs) = none_repeated xs

-- elements are the same where their pairs are
same_pair : (d e : Element) → same_text (pair_of d) (pair_of e) ≡ same_element d e
same_pair d e = by (nat_eq d.sort e.sort) (nat_eq d.number e.number)
  where
    by : (a b : Bool) → (a && (b && true)) ≡ a && b
    by false b = refl
    by true true = refl
    by true false = refl

has_pair : (e : Element) (es : List Element) → has same_text (pair_of e) (map pair_of es) ≡ has same_element e es
has_pair e [] = refl
has_pair e (d ∷ es) = ap (λ b. b || has same_text (pair_of e) (map pair_of es)) (same_pair d e) ∙ ap (λ b. same_element d e || b) (has_pair e es)

different_pairs : (es : List Element) → all_different same_text (map pair_of es) ≡ all_different same_element es
different_pairs [] = refl
different_pairs (e ∷ es) = ap (λ b. not b && all_different same_text (map pair_of es)) (has_pair e es) ∙ ap (λ b. not (has same_element e es) && b) (different_pairs es)

pub repeated_pairs : (es : List Element) → repeated [] (map pair_of es) ≡ not (all_different same_element es)
repeated_pairs es = repeated_is [] (map pair_of es) ∙ ap (λ b. b || not (all_different same_text (map pair_of es))) (none_repeated (map pair_of es)) ∙ ap not (different_pairs es)

-- the first element is of its own sort
pub two_sorts_is : (e : Element) (es : List Element) → list_any (λ (d : Element). not (nat_eq d.sort e.sort)) (e ∷ es) ≡ two_sorts (e ∷ es)
two_sorts_is e es = ap (λ b. not b || list_any (λ (d : Element). not (nat_eq d.sort e.sort)) es) (eq-eqb e.sort e.sort refl)
