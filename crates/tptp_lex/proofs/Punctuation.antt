-- Punctuation: the first spelling of the table that fits is the longest.
use Rattle.std.proofs.Common.{◌≡◌, ℕ, ◌≤◌, ◌<◌, Bool, true, false, cond, ◌&&◌, List, [], ◌∷◌, ◌++◌, length, take, refl, sym, ap, subst, ◌∙◌, arith, inl, inr, ⊎_elim}
use Rattle.std.specs.Prelude.{nat_eq, nat_le}
use Rattle.std.specs.List.{list_all, starts_with}
use Rattle.std.specs.Cmp.Lexicographic.{same_text, bytes_decides}
use Rattle.std.proofs.lemmas.Bool.{and_parts, leb-true, cond_both}
use Rattle.std.proofs.Math.Seq.{take-append_seam}
use Rattle.tptp_lex.specs.Front.{first_len}
use Rattle.tptp_lex.specs.Shapes.{IsOneOf}

-- none is followed by a longer one
abbrev pub longest_first : List (List ℕ) → Bool
longest_first [] = true
longest_first (p ∷ ps) = list_all (λ q. nat_le (length q) (length p)) ps && longest_first ps

pub one_passes : (test : List ℕ → Bool) (ps : List (List ℕ)) (s : List ℕ) → list_all test ps ≡ true → IsOneOf ps s → test s ≡ true
one_passes test [] s h one = absurd one
one_passes test (p ∷ ps) s h one =
    let t = and_parts (test p) (list_all test ps) h in
    ⊎_elim (λ (e : s ≡ p). ap test e ∙ t.0) (λ (o : IsOneOf ps s). one_passes test ps s t.1 o) one

pub starts : (s a : List ℕ) → starts_with nat_eq (s ++ a) s ≡ true
starts s a = rw (take-append_seam s a) ((bytes_decides s s).1 refl)

pub first_longest : (ps : List (List ℕ)) (s a : List ℕ) → longest_first ps ≡ true → IsOneOf ps s → length s ≤ first_len ps (s ++ a)
first_longest [] s a h one = absurd one
first_longest (p ∷ ps) s a h one =
    let t = and_parts (list_all (λ q. nat_le (length q) (length p)) ps) (longest_first ps) h in
    ⊎_elim
    (λ (e : s ≡ p). subst (λ (q : List ℕ). length s ≤ cond (starts_with nat_eq (s ++ a) q) (length q) (first_len ps (s ++ a))) e (rw (starts s a) (omega arith)))
    (λ (o : IsOneOf ps s). cond_both (starts_with nat_eq (s ++ a) p) (length p) (first_len ps (s ++ a)) (λ (n : ℕ). length s ≤ n)
    (λ e. leb-true (length s) (length p) (one_passes (λ q. nat_le (length q) (length p)) ps s t.0 o))
    (λ e. first_longest ps s a t.1 o))
    one

first_found_by : (p : List ℕ) (ps : List (List ℕ)) (text : List ℕ) (t : Bool) → starts_with nat_eq text p ≡ t → (0 < first_len ps text → IsOneOf ps (take (first_len ps text) text)) → 0 < cond t (length p) (first_len ps text) → IsOneOf (p ∷ ps) (take (cond t (length p) (first_len ps text)) text)
first_found_by p ps text true e more some = inl (sym (same_text p (take (length p) text) (sym e)))
first_found_by p ps text false e more some = inr (more some)

pub first_found : (ps : List (List ℕ)) (text : List ℕ) → 0 < first_len ps text → IsOneOf ps (take (first_len ps text) text)
first_found [] text some = absurd (omega arith)
first_found (p ∷ ps) text some = first_found_by p ps text (starts_with nat_eq text p) refl (first_found ps text) some
