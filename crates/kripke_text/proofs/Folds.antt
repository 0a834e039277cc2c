-- Marks put one after the other.
use Rattle.std.proofs.Common.{◌≡◌, ℕ, zero, suc, ◌+◌, ◌<◌, ◌≤◌, Bool, true, List, [], ◌∷◌, ◌++◌, map, length, drop, get_or, Result, Ok, Err, refl, sym, ap, ◌∙◌, append_assoc, append-nil, length-append, arith}
use Rattle.std.specs.Prelude.{nat_lt, codes, OnOk}
use Rattle.std.specs.List.{fold}
use Rattle.std.proofs.lemmas.Bool.Decides.{nat_tests}
use Rattle.std.proofs.lemmas.List.{drop_all, length-map}
use Rattle.std.proofs.lemmas.List.{map-append}
use Rattle.nxf_tree.specs.declared.tree.SortName.{SortName}
use Rattle.nxf_tree.specs.Rows.{numbers_below}
use Rattle.plain_tokens.specs.Marks.{Mark, Sign, mark_text, spelled}
use Rattle.kripke_text_definitions.specs.KripkeText.{element, elements, more_elements, statement, all_of, between, later, or_sign}
use Rattle.kripke_text.specs.steps.Taking.{printed, elements_from, comma_marks, bar_marks, opening_marks, closing_marks, binder_front, rest_marks, numbered}

pub fold_more : {A B : Type 0} → (f : B → A → B) → (a : B) → (xs ys : List A) → fold f a (xs ++ ys) ≡ fold f (fold f a xs) ys
fold_more f a [] ys = refl
fold_more f a (x ∷ xs) ys = fold_more f (f a x) xs ys

-- what follows from what holds after an Ok
pub on_ok : {T E : Type 0} {P Q : Type 0} → (r : Result T E) → (P → Q) → OnOk r P → OnOk r Q
on_ok (Ok x) f h = f h
on_ok (Err e) f h = h

-- a printed text grows by the text of the marks
pub fold_printed : (text : List ℕ) (ms : List Mark) → fold printed text ms ≡ text ++ spelled ms
fold_printed text [] = sym (append-nil text)
fold_printed text (m ∷ ms) = fold_printed (text ++ mark_text m) ms ∙ append_assoc text (mark_text m) (spelled ms)

more_at : (sorts : List SortName) (row : List ℕ) (i : ℕ) (d : SortName) → i < length sorts → i < length row → more_elements (drop i sorts) (drop i row) ≡ Sign (codes ",") ∷ element (get_or sorts i d) (get_or row i 0) ∷ more_elements (drop (suc i) sorts) (drop (suc i) row)
more_at [] row i d h k = absurd (omega arith)
more_at (s ∷ sorts) [] i d h k = absurd (omega arith)
more_at (s ∷ sorts) (x ∷ row) zero d h k = refl
more_at (s ∷ sorts) (x ∷ row) (suc i) d h k = more_at sorts row i d (omega arith) (omega arith)

first_at : (sorts : List SortName) (row : List ℕ) (d : SortName) → 0 < length sorts → 0 < length row → elements sorts row ≡ element (get_or sorts 0 d) (get_or row 0 0) ∷ more_elements (drop 1 sorts) (drop 1 row)
first_at [] row d h k = absurd (omega arith)
first_at (s ∷ sorts) [] d h k = absurd (omega arith)
first_at (s ∷ sorts) (x ∷ row) d h k = refl

some_behind : (i : ℕ) → nat_lt 0 (suc i) ≡ true
some_behind i = grind (arith, nat_tests)

-- what is put of a row from a place on: a comma behind others, an element, and the rest
pub elements_step : (sorts : List SortName) (row : List ℕ) (i : ℕ) (d : SortName) → i < length sorts → i < length row → elements_from sorts row i ≡ comma_marks (nat_lt 0 i) ++ element (get_or sorts i d) (get_or row i 0) ∷ elements_from sorts row (suc i)
elements_step sorts row zero d h k = first_at sorts row d h k
elements_step sorts row (suc i) d h k =
    more_at sorts row (suc i) d h k
    ∙ ap (λ (b : Bool). comma_marks b ++ element (get_or sorts (suc i) d) (get_or row (suc i) 0) ∷ elements_from sorts row (suc (suc i))) (sym (some_behind i))

pub elements_none : (sorts : List SortName) (row : List ℕ) (i : ℕ) → length row ≤ i → length sorts ≡ length row → elements_from sorts row i ≡ []
elements_none [] [] zero h k = refl
elements_none (s ∷ sorts) [] i h k = absurd (omega arith)
elements_none [] (x ∷ row) i h k = absurd (omega arith)
elements_none sorts row (suc i) h k = ap (λ (r : List SortName). more_elements r (drop (suc i) row)) (drop_all (suc i) sorts (omega arith))
elements_none (s ∷ sorts) (x ∷ row) zero h k = absurd (omega arith)

pub elements_next : {S : Type 0} → (takes : S → Mark → S) → (s t u goal : S) → (sorts : List SortName) (row : List ℕ) (i : ℕ) (e : SortName) (x : ℕ) (d : SortName) → i < length sorts → i < length row → e ≡ get_or sorts i d → x ≡ get_or row i 0 → fold takes s (elements_from sorts row i) ≡ goal → t ≡ fold takes s (comma_marks (nat_lt 0 i)) → u ≡ takes t (element e x) → fold takes u (elements_from sorts row (i + 1)) ≡ goal
elements_next takes s t u goal sorts row i e x d h k is_e is_x inv a b =
    let rest = elements_from sorts row (suc i) in
    let one : i + 1 ≡ suc i = omega arith in
    ap (λ (n : ℕ). fold takes u (elements_from sorts row n)) one
    ∙ ap (λ (v : _). fold takes v rest) (b ∙ (λ j. takes (a j) (element (is_e j) (is_x j))))
    ∙ sym (fold_more takes s (comma_marks (nat_lt 0 i)) (element (get_or sorts i d) (get_or row i 0) ∷ rest))
    ∙ ap (fold takes s) (sym (elements_step sorts row i d h k))
    ∙ inv

-- ---- members of a list of objects

later_more : (separator : List Mark) (parts : List (List Mark)) (part : List Mark) → later separator (parts ++ part ∷ []) ≡ later separator parts ++ (separator ++ part)
later_more separator [] part = ap (λ (r : List Mark). separator ++ r) (append-nil part)
later_more separator (p ∷ parts) part =
    ap (λ (r : List Mark). separator ++ (p ++ r)) (later_more separator parts part)
    ∙ ap (λ (r : List Mark). separator ++ r) (sym (append_assoc p (later separator parts) (separator ++ part)))
    ∙ sym (append_assoc separator (p ++ later separator parts) (separator ++ part))

between_more : (separator : List Mark) (p : List Mark) (parts : List (List Mark)) (part : List Mark) → between separator ((p ∷ parts) ++ part ∷ []) ≡ between separator (p ∷ parts) ++ (separator ++ part)
between_more separator p parts part =
    ap (λ (r : List Mark). p ++ r) (later_more separator parts part) ∙ sym (append_assoc p (later separator parts) (separator ++ part))

abbrev pub some_members : (ℕ → List Mark) → ℕ → List Mark
some_members one n = between or_sign (map one (numbers_below n))

not_none : (n : ℕ) (xs : List (List Mark)) → length xs ≡ suc n → (p : List Mark) × (ps : List (List Mark)) × (xs ≡ p ∷ ps)
not_none n [] h = absurd (omega arith)
not_none n (p ∷ ps) h = (p, ps, refl)

pub length-numbers : (n : ℕ) → length (numbers_below n) ≡ n
length-numbers zero = refl
length-numbers (suc n) = omega (arith, length-append (numbers_below n) (n ∷ []), length-numbers n)

-- one more object
pub members_step : (one : ℕ → List Mark) (n : ℕ) → some_members one (suc n) ≡ some_members one n ++ (bar_marks (nat_lt 0 n) ++ one n)
members_step one zero = append-nil (one 0)
members_step one (suc n) =
    let xs = map one (numbers_below (suc n)) in
    let some = not_none n xs (length-map (numbers_below (suc n)) one ∙ length-numbers (suc n)) in
    let e = some.2 in
    ap (between or_sign) (map-append one (numbers_below (suc n)) (suc n ∷ []))
    ∙ ap (λ (r : List (List Mark)). between or_sign (r ++ one (suc n) ∷ [])) e
    ∙ between_more or_sign some.0 some.1 (one (suc n))
    ∙ ap (λ (r : List (List Mark)). between or_sign r ++ (or_sign ++ one (suc n))) (sym e)
    ∙ ap (λ (b : Bool). between or_sign xs ++ (bar_marks b ++ one (suc n))) (sym (some_behind n))

pub members_next : {S : Type 0} → (takes : S → Mark → S) → (start s t u : S) → (one : ℕ → List Mark) (n : ℕ) → s ≡ fold takes start (some_members one n) → t ≡ fold takes s (bar_marks (nat_lt 0 n)) → u ≡ fold takes t (one n) → u ≡ fold takes start (some_members one (n + 1))
members_next takes start s t u one n inv a b =
    let next : n + 1 ≡ suc n = omega arith in
    b
    ∙ ap (λ (v : _). fold takes v (one n)) (a ∙ ap (λ (v : _). fold takes v (bar_marks (nat_lt 0 n))) inv)
    ∙ sym (fold_more takes (fold takes start (some_members one n)) (bar_marks (nat_lt 0 n)) (one n))
    ∙ sym (fold_more takes start (some_members one n) (bar_marks (nat_lt 0 n) ++ one n))
    ∙ ap (fold takes start) (sym (members_step one n) ∙ ap (some_members one) (sym next))

-- ---- whole statements

-- a statement from its parts
pub statement_put : {S : Type 0} → (takes : S → Mark → S) → (s t u v : S) → (name : List ℕ) (body : List Mark) → t ≡ fold takes s (opening_marks name) → u ≡ fold takes t body → v ≡ fold takes u closing_marks → v ≡ fold takes s (statement name body)
statement_put takes s t u v name body a b c =
    c
    ∙ ap (λ (w : _). fold takes w closing_marks) (b ∙ ap (λ (w : _). fold takes w body) a)
    ∙ sym (fold_more takes (fold takes s (opening_marks name)) body closing_marks)

-- the objects behind a binder
pub objects_put : {S : Type 0} → (takes : S → Mark → S) → (s t u v : S) → (variable front : List ℕ) (sort : Mark) (n : ℕ) → t ≡ fold takes s (binder_front variable) → u ≡ takes t sort → v ≡ fold takes u (rest_marks variable front n) → v ≡ fold takes s (all_of variable sort (numbered front) n)
objects_put takes s t u v variable front sort n a b c =
    c ∙ ap (λ (w : _). fold takes w (rest_marks variable front n)) (b ∙ ap (λ (w : _). takes w sort) a)
