-- Numbers: no number that begins a text is longer than the one that is found.
use Rattle.std.proofs.Common.{◌≡◌, ℕ, ◌+◌, ◌≤◌, ◌<◌, suc, Bool, true, false, cond, ◌||◌, List, [], ◌∷◌, ◌++◌, length, drop, refl, ◌∙◌, arith}
use Rattle.std.specs.Prelude.{◌==◌}
use Rattle.std.specs.List.{list_all}
use Rattle.std.proofs.lemmas.Bool.{and_parts}
use Rattle.std.proofs.lemmas.Bool.Decides.{nat_tests}
use Rattle.std.proofs.Math.Seq.{drop-append_seam, drop-append-add}
use Rattle.nxf_base.specs.Bytes.{is_digit}
use Rattle.tptp_lex.specs.Front.{digits_len, more, fraction_len, signed_len, exponent_len, number_len}
use Rattle.tptp_lex.specs.Shapes.{is_digits, is_fraction, is_signed, is_exponent}
use Rattle.tptp_lex.proofs.Runs.{run_front, run_exact, stops}

more_some : (m n : ℕ) → 0 < m → m ≤ n → 1 + m ≤ more n
more_some m n some h = grind (arith, nat_tests)

more_exact : (m n : ℕ) → 0 < m → n ≡ m → more n ≡ 1 + m
more_exact m n some h = grind (arith, nat_tests)

digits_front : (s a : List ℕ) → is_digits s ≡ true → (0 < length s) × (length s ≤ digits_len (s ++ a))
digits_front [] a h = absurd cc
digits_front (b ∷ bs) a h = (omega arith, run_front is_digit (b ∷ bs) a h)

digits_exact : (s a : List ℕ) → is_digits s ≡ true → stops is_digit a → digits_len (s ++ a) ≡ length s
digits_exact [] a h stop = absurd cc
digits_exact (b ∷ bs) a h stop = run_exact is_digit (b ∷ bs) a h stop

signed_by : (t : Bool) (b : ℕ) (bs a : List ℕ) → cond t (is_digits bs) (is_digits (b ∷ bs)) ≡ true → suc (length bs) ≤ cond t (more (digits_len (bs ++ a))) (digits_len (b ∷ (bs ++ a)))
signed_by true b bs a h = let d = digits_front bs a h in omega (arith, more_some (length bs) (digits_len (bs ++ a)) d.0 d.1)
signed_by false b bs a h = (digits_front (b ∷ bs) a h).1

signed_front : (s a : List ℕ) → is_signed s ≡ true → (0 < length s) × (length s ≤ signed_len (s ++ a))
signed_front [] a h = absurd cc
signed_front (b ∷ bs) a h = (omega arith, signed_by (b == 43 || b == 45) b bs a h)

exponent_front : (s a : List ℕ) → is_exponent s ≡ true → length s ≤ exponent_len (s ++ a)
exponent_front [] a h = omega arith
exponent_front (b ∷ bs) a h =
    let t = and_parts (b == 101 || b == 69) (is_signed bs) h in
    let d = signed_front bs a t.1 in
    rw t.0 (omega (arith, more_some (length bs) (signed_len (bs ++ a)) d.0 d.1))

e_no_digit : (b : ℕ) → (b == 101 || b == 69) ≡ true → is_digit b ≡ false
e_no_digit b h = grind (arith, nat_tests)

e_no_point : (b : ℕ) → (b == 101 || b == 69) ≡ true → (b == 46) ≡ false
e_no_point b h = grind (arith, nat_tests)

point_no_digit : (b : ℕ) → (b == 46) ≡ true → is_digit b ≡ false
point_no_digit b h = grind (arith, nat_tests)

-- After the digits w the rest is f, which begins with no digit.
after_whole : (w rest : List ℕ) → list_all is_digit w ≡ true → stops is_digit rest → number_len (w ++ rest) ≡ length w + fraction_len rest + exponent_len (drop (fraction_len rest) rest)
after_whole w rest digits stop =
    let whole = run_exact is_digit w rest digits stop in
    rw whole (rw (drop-append_seam w rest) (rw (drop-append-add w rest (fraction_len rest)) refl))

pub number_parts : (w f e a : List ℕ) → list_all is_digit w ≡ true → is_fraction f ≡ true → is_exponent e ≡ true → length w + length f + length e ≤ number_len (w ++ (f ++ (e ++ a)))
number_parts w [] [] a digits hf he = omega (arith, run_front is_digit w a digits)
number_parts w [] (b ∷ e) a digits hf he =
    let t = and_parts (b == 101 || b == 69) (is_signed e) he in
    let none : fraction_len ((b ∷ e) ++ a) ≡ 0 = rw (e_no_point b t.0) refl in
    let whole = after_whole w ((b ∷ e) ++ a) digits (e_no_digit b t.0) in
    let long = exponent_front (b ∷ e) a he in
    rw whole (rw none (omega (arith, long)))
number_parts w (p ∷ f) [] a digits hf he =
    let t = and_parts (p == 46) (is_digits f) hf in
    let d = digits_front f a t.1 in
    let whole = after_whole w ((p ∷ f) ++ a) digits (point_no_digit p t.0) in
    let some : length (p ∷ f) ≤ fraction_len ((p ∷ f) ++ a) = rw t.0 (omega (arith, more_some (length f) (digits_len (f ++ a)) d.0 d.1)) in
    rw whole (omega (arith, some))
number_parts w (p ∷ f) (b ∷ e) a digits hf he =
    let t = and_parts (p == 46) (is_digits f) hf in
    let u = and_parts (b == 101 || b == 69) (is_signed e) he in
    let d = digits_front f ((b ∷ e) ++ a) t.1 in
    let exact = digits_exact f ((b ∷ e) ++ a) t.1 (e_no_digit b u.0) in
    let whole = after_whole w ((p ∷ f) ++ ((b ∷ e) ++ a)) digits (point_no_digit p t.0) in
    let some : fraction_len ((p ∷ f) ++ ((b ∷ e) ++ a)) ≡ length (p ∷ f) = rw t.0 (more_exact (length f) (digits_len (f ++ ((b ∷ e) ++ a))) d.0 exact ∙ omega arith) in
    let long = exponent_front (b ∷ e) a he in
    rw whole (rw some (rw (drop-append_seam (p ∷ f) ((b ∷ e) ++ a)) (omega (arith, long))))
