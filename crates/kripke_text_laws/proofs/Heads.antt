-- The statements of the head tell their numbers.
use Rattle.std.proofs.Common.{◌≡◌, ℕ, zero, suc, ◌+◌, ◌*◌, ◌<◌, List, [], ◌∷◌, ◌++◌, map, length, refl, sym, ap, ◌∙◌, arith, length-append}
use Rattle.std.specs.Prelude.{codes}
use Rattle.std.proofs.lemmas.List.{append_cancel_left, append_cancel_right}
use Rattle.std.proofs.lemmas.Grind.{flat_map-append}
use Rattle.nxf_tree.specs.declared.tree.SortName.{SortName}
use Rattle.nxf_tree.specs.Names.{numeral}
use Rattle.nxf_tree.specs.Rows.{numbers_below}
use Rattle.plain_tokens.specs.Marks.{Mark, Sign, Dollar, Object, Blank, Line, plains, mark_plains}
use Rattle.kripke_text_definitions.specs.KripkeText as text
use Rattle.kripke_text_laws.proofs.Apart.{object_apart, tails}

-- the body of a statement whose name is known
pub same_body : (name : List ℕ) (body other : List Mark) → plains (text.statement name body) ≡ plains (text.statement name other) → plains body ≡ plains other
same_body name body other e =
    let tail : List Mark = Sign (codes ")") ∷ Sign (codes ".") ∷ Line ∷ [] in
    let inner = tails _ _ _ _ (tails _ _ _ _ (tails _ _ _ _ (tails _ _ _ _ (tails _ _ _ _ (tails _ _ _ _ e))))) in
    append_cancel_right (plains body) (plains other) (plains tail) (sym (flat_map-append mark_plains body tail) ∙ inner ∙ flat_map-append mark_plains other tail)

-- numbered objects
abbrev pub numbered : List ℕ → ℕ → Mark
numbered front n = Object (front ++ numeral n)

later_count : (variable front : List ℕ) (ns : List ℕ) → length (plains (text.later text.or_sign (map (text.member variable (numbered front)) ns))) ≡ 4 * length ns
later_count variable front [] = omega arith
later_count variable front (n ∷ ns) = omega (arith, later_count variable front ns)

between_count : (variable front : List ℕ) (n : ℕ) (ns : List ℕ) → length (plains (text.between text.or_sign (map (text.member variable (numbered front)) (n ∷ ns)))) ≡ 3 + 4 * length ns
between_count variable front n ns = omega (arith, later_count variable front ns)

length-numbers : (n : ℕ) → length (numbers_below n) ≡ n
length-numbers zero = refl
length-numbers (suc n) = omega (arith, length-append (numbers_below n) (n ∷ []), length-numbers n)

pub counted : (variable front : List ℕ) (ns : List ℕ) → 0 < length ns → length (plains (text.between text.or_sign (map (text.member variable (numbered front)) ns))) + 1 ≡ 4 * length ns
counted variable front [] h = absurd (omega arith)
counted variable front (n ∷ ns) h = omega (arith, between_count variable front n ns)

-- `X = "s0" | ..` tells how many there are
pub all_of_same : (variable front : List ℕ) (sort : Mark) (m n : ℕ) → 0 < m → 0 < n → plains (text.all_of variable sort (numbered front) m) ≡ plains (text.all_of variable sort (numbered front) n) → m ≡ n
all_of_same variable front sort m n p q e =
    let before : List Mark = Sign (codes "!") ∷ Sign (codes "[") ∷ [] in
    let close : List Mark = Blank ∷ Sign (codes ")") ∷ [] in
    let some : ℕ → List Mark = λ k. text.between text.or_sign (map (text.member variable (numbered front)) (numbers_below k)) in
    let whole = tails _ _ _ _ (tails _ _ _ _ (tails _ _ _ _ (tails _ _ _ _ e))) in
    let behind = append_cancel_left (mark_plains sort) _ _ whole in
    let inner = tails _ _ _ _ (tails _ _ _ _ (tails _ _ _ _ behind)) in
    let same = append_cancel_right (plains (some m)) (plains (some n)) (plains close) (sym (flat_map-append mark_plains (some m) close) ∙ inner ∙ flat_map-append mark_plains (some n) close) in
    let long = ap length same in
    omega (arith, long, counted variable front (numbers_below m) (omega (arith, length-numbers m)), counted variable front (numbers_below n) (omega (arith, length-numbers n)), length-numbers m, length-numbers n)

pub worlds_same : (m n : ℕ) → 0 < m → 0 < n → plains (text.worlds_statement m) ≡ plains (text.worlds_statement n) → m ≡ n
worlds_same m n p q e = all_of_same (codes "W") (codes "w") (Dollar (codes "$world")) m n p q (same_body (codes "worlds") (text.all_of (codes "W") (Dollar (codes "$world")) text.world m) (text.all_of (codes "W") (Dollar (codes "$world")) text.world n) e)

pub local_same : (m n : ℕ) → plains (text.local_statement m) ≡ plains (text.local_statement n) → m ≡ n
local_same m n e =
    let body : ℕ → List Mark = λ w. Dollar (codes "$local_world") ∷ (text.equals ++ text.world w ∷ []) in
    let inner = same_body (codes "local") (body m) (body n) e in
    (object_apart (codes "w") m n [] [] (append_cancel_left (plains (Dollar (codes "$local_world") ∷ text.equals)) _ _ inner)).0

pub domain_same : (s : SortName) (m n : ℕ) → 0 < m → 0 < n → plains (text.domain_statement s m) ≡ plains (text.domain_statement s n) → m ≡ n
domain_same s m n p q e = all_of_same (codes "X") (text.prefix s) (text.sort_mark s) m n p q (same_body (codes "domain") (text.all_of (codes "X") (text.sort_mark s) (text.element s) m) (text.all_of (codes "X") (text.sort_mark s) (text.element s) n) e)
