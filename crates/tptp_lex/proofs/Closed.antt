-- Comments and quoted texts: each ends where it ends, whatever follows.
use Rattle.std.proofs.Common.{◌≡◌, ℕ, ◌+◌, Bool, true, false, cond, ◌&&◌, ◌||◌, Some, None, List, [], ◌∷◌, ◌++◌, length, ap, ◌∙◌, arith}
use Rattle.std.specs.Prelude.{◌==◌, nat_lt, nat_le}
use Rattle.std.proofs.lemmas.Bool.{and_parts, eqb-true, cond-true, cond-false}
use Rattle.std.proofs.lemmas.Bool.Decides.{nat_tests}
use Rattle.tptp_lex.specs.Front.{close_len, quote_len}
use Rattle.tptp_lex.specs.Shapes.{ends_at_close, closes}

by_test : {A : Type 0} (t u v : Bool) (x y z : A) → cond t u v ≡ true → (u ≡ true → x ≡ z) → (v ≡ true → y ≡ z) → cond t x y ≡ z
by_test true u v x y z h f g = f h
by_test false u v x y z h f g = g h

pub close_front : (is_star : Bool) (at : ℕ) (s a : List ℕ) → ends_at_close is_star s ≡ true → close_len is_star at (s ++ a) ≡ Some (at + length s)
close_front is_star at [] a h = absurd cc
close_front is_star at (b ∷ bs) a h =
    by_test (is_star && b == 47) (length bs == 0) (ends_at_close (b == 42) bs) (Some (at + 1)) (close_len (b == 42) (at + 1) (bs ++ a)) (Some (at + length (b ∷ bs))) h
    (λ e. let n : length bs ≡ 0 = eqb-true (length bs) 0 e in ap Some (omega arith))
    (λ e. close_front (b == 42) (at + 1) bs a e ∙ ap Some (omega arith))

printable : (b : ℕ) → (nat_le 32 b && nat_le b 126) ≡ true → (nat_lt b 32 || nat_lt 126 b) ≡ false
printable b h = grind (arith, nat_tests)

pub quote_front : (quote : ℕ) (is_escaped : Bool) (at : ℕ) (s a : List ℕ) → closes quote is_escaped s ≡ true → quote_len quote is_escaped at (s ++ a) ≡ Some (at + length s)
quote_front quote true at [] a h = absurd cc
quote_front quote false at [] a h = absurd cc
quote_front quote true at (b ∷ bs) a h =
    let t = and_parts (b == quote || b == 92) (closes quote false bs) h in
    cond-true (b == quote || b == 92) _ _ t.0 ∙ quote_front quote false (at + 1) bs a t.1 ∙ ap Some (omega arith)
quote_front quote false at (b ∷ bs) a h =
    by_test (b == quote) (length bs == 0) ((nat_le 32 b && nat_le b 126) && closes quote (b == 92) bs) (Some (at + 1))
    (cond (nat_lt b 32 || nat_lt 126 b) None (quote_len quote (b == 92) (at + 1) (bs ++ a))) (Some (at + length (b ∷ bs))) h
    (λ e. let n : length bs ≡ 0 = eqb-true (length bs) 0 e in ap Some (omega arith))
    (λ e. let t = and_parts (nat_le 32 b && nat_le b 126) (closes quote (b == 92) bs) e in
    cond-false (nat_lt b 32 || nat_lt 126 b) None (quote_len quote (b == 92) (at + 1) (bs ++ a)) (printable b t.0) ∙ quote_front quote (b == 92) (at + 1) bs a t.1 ∙ ap Some (omega arith))
