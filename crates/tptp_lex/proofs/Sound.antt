-- What is found is a lexeme of the kind that is said.
use Rattle.std.proofs.Common.{◌≡◌, ℕ, ◌+◌, ◌≤◌, ◌<◌, suc, Bool, true, false, cond, not, ◌&&◌, ◌||◌, Option, Some, None, List, [], ◌∷◌, ◌++◌, length, take, drop, refl, sym, ap, subst, ◌∙◌, arith, inl, inr, one-add, append_assoc}
use Rattle.std.specs.Prelude.{◌==◌, nat_lt, nat_le, option_and_then}
use Rattle.std.specs.List.{prefix_len, list_all}
use Rattle.std.proofs.lemmas.Bool.{and_parts, and_from, eqb-true, eqb-false, cond-true, cond-false, not_from_false}
use Rattle.std.proofs.lemmas.Bool.Decides.{nat_tests}
use Rattle.std.proofs.Math.Seq.{take-add}
use Rattle.std.proofs.lemmas.List.{length-take-le}
use Rattle.tptp_lex.specs.declared.front.Class.{Class}
use Rattle.tptp_lex.specs.declared.front.Class.TheVariants as class
use Rattle.tptp_lex.specs.declared.token.Kind.{Kind}
use Rattle.tptp_lex.specs.declared.token.Kind.TheVariants as kind
use Rattle.tptp_lex.specs.declared.token.Lexeme.{Lexeme}
use Rattle.tptp_lex.specs.declared.token.Lexeme.TheVariants as lexeme
use Rattle.tptp_lex.specs.Punctuation.{punctuation}
use Rattle.nxf_base.specs.Bytes.{is_word_byte, is_name_byte, is_in_line, is_digit, is_lower, is_upper, is_blank}
use Rattle.tptp_lex.specs.Front.{class_of, front, front_by, close_len, quote_len, slash, dollar, name_after, digits_len, more, fraction_len, signed_len, exponent_len, number_len, punctuation_len, first_len, other}
use Rattle.tptp_lex.specs.Shapes.{ends_at_close, closes, is_quoted, is_name_bytes, is_dollar_rest, is_digits, is_fraction, is_signed, is_exponent, IsNumber, IsLexeme}
use Rattle.tptp_lex.proofs.Runs.{run_taken, run_some}
use Rattle.tptp_lex.proofs.Punctuation.{first_found}

-- ---- classes

lower_class : (b : ℕ) → class_of b ≡ class.Lower → is_lower b ≡ true
lower_class b h = grind (arith, nat_tests)

upper_class : (b : ℕ) → class_of b ≡ class.Upper → is_upper b ≡ true
upper_class b h = grind (arith, nat_tests)

digit_class : (b : ℕ) → class_of b ≡ class.Digit → is_digit b ≡ true
digit_class b h = grind (arith, nat_tests)

blank_class : (b : ℕ) → class_of b ≡ class.Blank → is_blank b ≡ true
blank_class b h = grind (arith, nat_tests)

percent_class : (b : ℕ) → class_of b ≡ class.Percent → (b == 37) ≡ true
percent_class b h = grind (arith, nat_tests)

slash_class : (b : ℕ) → class_of b ≡ class.Slash → (b == 47) ≡ true
slash_class b h = grind (arith, nat_tests)

dollar_class : (b : ℕ) → class_of b ≡ class.Dollar → (b == 36) ≡ true
dollar_class b h = grind (arith, nat_tests)

quote_class : (b : ℕ) → class_of b ≡ class.Quote → (b == 39) ≡ true
quote_class b h = grind (arith, nat_tests)

double_quote_class : (b : ℕ) → class_of b ≡ class.DoubleQuote → (b == 34) ≡ true
double_quote_class b h = grind (arith, nat_tests)

digit_no_sign : (b : ℕ) → is_digit b ≡ true → (b == 43 || b == 45) ≡ false
digit_no_sign b h = grind (arith, nat_tests)

name_no_dollar : (b : ℕ) → is_name_byte b ≡ true → (b == 36) ≡ false
name_no_dollar b h = grind (arith, nat_tests)

-- ---- what a test chose

pub data Chosen {A : Type 0} (t : Bool) (x y z : A) : Type 0 where
  yes : t ≡ true → x ≡ z → Chosen t x y z
  no : t ≡ false → y ≡ z → Chosen t x y z

pub chosen : {A : Type 0} (t : Bool) (x y z : A) → cond t x y ≡ z → Chosen t x y z
chosen true x y z h = yes refl h
chosen false x y z h = no refl h

-- A lexeme of the kind k takes n bytes of the text.
abbrev pub Takes : List ℕ → Lexeme × ℕ → Type 0
Takes text found = IsLexeme found.0 (take found.1 text) (drop found.1 text)

moved : (text : List ℕ) (x y : Lexeme × ℕ) → Some x ≡ Some y → Takes text x → Takes text y
moved text x y e t = let same : x ≡ y = cc in subst (Takes text) same t

-- ---- closed lexemes

record Closes (P : List ℕ → Type 0) (at n : ℕ) (text : List ℕ) : Type 0 where
  len : ℕ
  counted : n ≡ at + len
  within : len ≤ length text
  ends : P (take len text)

close_by : (is_star : Bool) (at n b : ℕ) (bs : List ℕ) → Chosen (is_star && b == 47) (Some (at + 1)) (close_len (b == 42) (at + 1) bs) (Some n) → (close_len (b == 42) (at + 1) bs ≡ Some n → Closes (λ s. ends_at_close (b == 42) s ≡ true) (at + 1) n bs) → Closes (λ s. ends_at_close is_star s ≡ true) at n (b ∷ bs)
close_by is_star at n b bs (yes t e) again = let k : at + 1 ≡ n = cc in record { len = 1; counted = sym k; within = omega arith; ends = cond-true (is_star && b == 47) true (ends_at_close (b == 42) []) t }
close_by is_star at n b bs (no t e) again =
    let c = again e in
    record { len = suc c.len; counted = omega (arith, c.counted); within = omega (arith, c.within); ends = cond-false (is_star && b == 47) (length (take c.len bs) == 0) (ends_at_close (b == 42) (take c.len bs)) t ∙ c.ends }

close_sound : (is_star : Bool) (at n : ℕ) (text : List ℕ) → close_len is_star at text ≡ Some n → Closes (λ s. ends_at_close is_star s ≡ true) at n text
close_sound is_star at n [] h = absurd cc
close_sound is_star at n (b ∷ bs) h = close_by is_star at n b bs (chosen (is_star && b == 47) (Some (at + 1)) (close_len (b == 42) (at + 1) bs) (Some n) h) (close_sound (b == 42) (at + 1) n bs)

printed : (b : ℕ) → (nat_lt b 32 || nat_lt 126 b) ≡ false → (nat_le 32 b && nat_le b 126) ≡ true
printed b h = grind (arith, nat_tests)

escaped_by : (quote at n b : ℕ) (bs : List ℕ) → Chosen (b == quote || b == 92) (quote_len quote false (at + 1) bs) None (Some n) → (quote_len quote false (at + 1) bs ≡ Some n → Closes (λ s. closes quote false s ≡ true) (at + 1) n bs) → Closes (λ s. closes quote true s ≡ true) at n (b ∷ bs)
escaped_by quote at n b bs (yes t e) again =
    let c = again e in
    record { len = suc c.len; counted = omega (arith, c.counted); within = omega (arith, c.within); ends = and_from (b == quote || b == 92) (closes quote false (take c.len bs)) t c.ends }
escaped_by quote at n b bs (no t e) again = absurd cc

plain_by : (quote at n b : ℕ) (bs : List ℕ) → (b == quote) ≡ false → Chosen (nat_lt b 32 || nat_lt 126 b) None (quote_len quote (b == 92) (at + 1) bs) (Some n) → (quote_len quote (b == 92) (at + 1) bs ≡ Some n → Closes (λ s. closes quote (b == 92) s ≡ true) (at + 1) n bs) → Closes (λ s. closes quote false s ≡ true) at n (b ∷ bs)
plain_by quote at n b bs other (yes t e) again = absurd cc
plain_by quote at n b bs other (no t e) again =
    let c = again e in
    record {
      len = suc c.len;
      counted = omega (arith, c.counted);
      within = omega (arith, c.within);
      ends = cond-false (b == quote) (length (take c.len bs) == 0) ((nat_le 32 b && nat_le b 126) && closes quote (b == 92) (take c.len bs)) other
          ∙ and_from (nat_le 32 b && nat_le b 126) (closes quote (b == 92) (take c.len bs)) (printed b t) c.ends;
    }

quote_by : (quote at n b : ℕ) (bs : List ℕ) → Chosen (b == quote) (Some (at + 1)) (cond (nat_lt b 32 || nat_lt 126 b) None (quote_len quote (b == 92) (at + 1) bs)) (Some n) → (quote_len quote (b == 92) (at + 1) bs ≡ Some n → Closes (λ s. closes quote (b == 92) s ≡ true) (at + 1) n bs) → Closes (λ s. closes quote false s ≡ true) at n (b ∷ bs)
quote_by quote at n b bs (yes t e) again =
    let k : at + 1 ≡ n = cc in
    record { len = 1; counted = sym k; within = omega arith; ends = cond-true (b == quote) true ((nat_le 32 b && nat_le b 126) && closes quote (b == 92) []) t }
quote_by quote at n b bs (no t e) again = plain_by quote at n b bs t (chosen (nat_lt b 32 || nat_lt 126 b) None (quote_len quote (b == 92) (at + 1) bs) (Some n) e) again

quote_sound : (quote : ℕ) (is_escaped : Bool) (at n : ℕ) (text : List ℕ) → quote_len quote is_escaped at text ≡ Some n → Closes (λ s. closes quote is_escaped s ≡ true) at n text
quote_sound quote true at n [] h = absurd cc
quote_sound quote false at n [] h = absurd cc
quote_sound quote true at n (b ∷ bs) h = escaped_by quote at n b bs (chosen (b == quote || b == 92) (quote_len quote false (at + 1) bs) None (Some n) h) (quote_sound quote false (at + 1) n bs)
quote_sound quote false at n (b ∷ bs) h = quote_by quote at n b bs (chosen (b == quote) (Some (at + 1)) (cond (nat_lt b 32 || nat_lt 126 b) None (quote_len quote (b == 92) (at + 1) bs)) (Some n) h) (quote_sound quote (b == 92) (at + 1) n bs)

-- one more byte in front
quoted_at : (quote b m : ℕ) (rest : List ℕ) → (b == quote) ≡ true → (m == 1) ≡ false → Closes (λ s. closes quote false s ≡ true) 0 m rest → is_quoted quote (take (1 + m) (b ∷ rest)) ≡ true
quoted_at quote b m rest at not_one c =
    let same : c.len ≡ m = omega (arith, c.counted) in
    let ends : closes quote false (take m rest) ≡ true = subst (λ (k : ℕ). closes quote false (take k rest) ≡ true) same c.ends in
    let long : (length (take m rest) == 1) ≡ false = rw (length-take-le m rest (omega (arith, c.within, same))) not_one in
    rw one-add (and_from (b == quote) (closes quote false (take m rest) && not (length (take m rest) == 1)) at (and_from (closes quote false (take m rest)) (not (length (take m rest) == 1)) ends (not_from_false (length (take m rest) == 1) long)))

quoted_by : (k : Kind) (quote b m : ℕ) (rest : List ℕ) (found : Lexeme × ℕ) → (b == quote) ≡ true → quote_len quote false 0 rest ≡ Some m → Chosen (m == 1) None (Some (lexeme.Token k, 1 + m)) (Some found) → ((s a : List ℕ) → is_quoted quote s ≡ true → IsLexeme (lexeme.Token k) s a) → Takes (b ∷ rest) found
quoted_by k quote b m rest found at len (yes t e) is = absurd cc
quoted_by k quote b m rest found at len (no t e) is = moved (b ∷ rest) (lexeme.Token k, 1 + m) found e (is (take (1 + m) (b ∷ rest)) (drop (1 + m) (b ∷ rest)) (quoted_at quote b m rest at t (quote_sound quote false 0 m rest len)))

quoted_found : (k : Kind) (quote b : ℕ) (rest : List ℕ) (found : Lexeme × ℕ) → (b == quote) ≡ true → (o : Option ℕ) → quote_len quote false 0 rest ≡ o → option_and_then (λ n. cond (n == 1) None (Some (lexeme.Token k, 1 + n))) o ≡ Some found → ((s a : List ℕ) → is_quoted quote s ≡ true → IsLexeme (lexeme.Token k) s a) → Takes (b ∷ rest) found
quoted_found k quote b rest found at None len h is = absurd cc
quoted_found k quote b rest found at (Some m) len h is = quoted_by k quote b m rest found at len (chosen (m == 1) None (Some (lexeme.Token k, 1 + m)) (Some found) h) is

block_found : (b c : ℕ) (rest : List ℕ) (found : Lexeme × ℕ) → (b == 47) ≡ true → (c == 42) ≡ true → (o : Option ℕ) → close_len false 0 rest ≡ o → option_and_then (λ n. Some (lexeme.Comment, 2 + n)) o ≡ Some found → Takes (b ∷ c ∷ rest) found
block_found b c rest found at star None len h = absurd cc
block_found b c rest found at star (Some m) len h =
    let k = close_sound false 0 m rest len in
    let same : k.len ≡ m = omega (arith, k.counted) in
    let ends : ends_at_close false (take m rest) ≡ true = subst (λ (k : ℕ). ends_at_close false (take k rest) ≡ true) same k.ends in
    let two : 2 + m ≡ suc (suc m) = omega arith in
    moved (b ∷ c ∷ rest) (lexeme.Comment, 2 + m) found h (inr (rw two (and_from (b == 47) (c == 42 && ends_at_close false (take m rest)) at (and_from (c == 42) (ends_at_close false (take m rest)) star ends))))

slash_by : (b c : ℕ) (rest : List ℕ) (found : Lexeme × ℕ) → (b == 47) ≡ true → Chosen (c == 42) (option_and_then (λ n. Some (lexeme.Comment, 2 + n)) (close_len false 0 rest)) (Some (lexeme.Token kind.Punct, 1)) (Some found) → Takes (b ∷ c ∷ rest) found
slash_by b c rest found at (yes t e) = block_found b c rest found at t (close_len false 0 rest) refl e
slash_by b c rest found at (no t e) = moved (b ∷ c ∷ rest) (lexeme.Token kind.Punct, 1) found e (inr (ap (λ (x : ℕ). x ∷ []) (eqb-true b 47 at), eqb-false c 42 t))

slash_found : (b : ℕ) (rest : List ℕ) (found : Lexeme × ℕ) → (b == 47) ≡ true → slash rest ≡ Some found → Takes (b ∷ rest) found
slash_found b [] found at h = moved (b ∷ []) (lexeme.Token kind.Punct, 1) found h (inr (ap (λ (x : ℕ). x ∷ []) (eqb-true b 47 at), tt))
slash_found b (c ∷ rest) found at h = slash_by b c rest found at (chosen (c == 42) (option_and_then (λ n. Some (lexeme.Comment, 2 + n)) (close_len false 0 rest)) (Some (lexeme.Token kind.Punct, 1)) (Some found) h)

some_from_test : (n : ℕ) → (n == 0) ≡ false → 0 < n
some_from_test n h = grind (arith, nat_tests)

name_at : (rest : List ℕ) → (prefix_len is_name_byte rest == 0) ≡ false → is_name_bytes (take (prefix_len is_name_byte rest) rest) ≡ true
name_at rest h = run_some is_name_byte rest (some_from_test (prefix_len is_name_byte rest) h)

-- what begins with a name byte begins with no dollar
one_dollar : (t : List ℕ) → is_name_bytes t ≡ true → is_dollar_rest t ≡ true
one_dollar [] h = absurd cc
one_dollar (b ∷ bs) h =
    let n = and_parts (is_name_byte b) (list_all is_name_byte bs) h in
    let other : (b == 36) ≡ false = name_no_dollar b n.0 in
    cond-false (b == 36) (is_name_bytes bs) (is_name_bytes (b ∷ bs)) other ∙ h

name_one : (b : ℕ) (rest : List ℕ) (found : Lexeme × ℕ) → (b == 36) ≡ true → Chosen (prefix_len is_name_byte rest == 0) None (Some (lexeme.Token kind.Dollar, 1 + prefix_len is_name_byte rest)) (Some found) → Takes (b ∷ rest) found
name_one b rest found at (yes t e) = absurd cc
name_one b rest found at (no t e) =
    moved (b ∷ rest) (lexeme.Token kind.Dollar, 1 + prefix_len is_name_byte rest) found e
    (rw one-add (and_from (b == 36) (is_dollar_rest (take (prefix_len is_name_byte rest) rest)) at (one_dollar (take (prefix_len is_name_byte rest) rest) (name_at rest t))))

name_two : (b c : ℕ) (rest : List ℕ) (found : Lexeme × ℕ) → (b == 36) ≡ true → (c == 36) ≡ true → Chosen (prefix_len is_name_byte rest == 0) None (Some (lexeme.Token kind.Dollar, 2 + prefix_len is_name_byte rest)) (Some found) → Takes (b ∷ c ∷ rest) found
name_two b c rest found at second (yes t e) = absurd cc
name_two b c rest found at second (no t e) =
    let n = prefix_len is_name_byte rest in
    let two : 2 + n ≡ suc (suc n) = omega arith in
    moved (b ∷ c ∷ rest) (lexeme.Token kind.Dollar, 2 + n) found e
    (rw two (and_from (b == 36) (cond (c == 36) (is_name_bytes (take n rest)) (is_name_bytes (c ∷ take n rest))) at (cond-true (c == 36) (is_name_bytes (take n rest)) (is_name_bytes (c ∷ take n rest)) second ∙ name_at rest t)))

dollar_by : (b c : ℕ) (rest : List ℕ) (found : Lexeme × ℕ) → (b == 36) ≡ true → Chosen (c == 36) (name_after 2 rest) (name_after 1 (c ∷ rest)) (Some found) → Takes (b ∷ c ∷ rest) found
dollar_by b c rest found at (yes t e) = name_two b c rest found at t (chosen (prefix_len is_name_byte rest == 0) None (Some (lexeme.Token kind.Dollar, 2 + prefix_len is_name_byte rest)) (Some found) e)
dollar_by b c rest found at (no t e) = name_one b (c ∷ rest) found at (chosen (prefix_len is_name_byte (c ∷ rest) == 0) None (Some (lexeme.Token kind.Dollar, 1 + prefix_len is_name_byte (c ∷ rest))) (Some found) e)

dollar_found : (b : ℕ) (rest : List ℕ) (found : Lexeme × ℕ) → (b == 36) ≡ true → dollar rest ≡ Some found → Takes (b ∷ rest) found
dollar_found b [] found at h = absurd cc
dollar_found b (c ∷ rest) found at h = dollar_by b c rest found at (chosen (c == 36) (name_after 2 rest) (name_after 1 (c ∷ rest)) (Some found) h)

-- ---- numbers

more_by : (b m : ℕ) (bs : List ℕ) (P : List ℕ → Type 0) → P [] → (0 < m → P (b ∷ take m bs)) → (t : Bool) → (m == 0) ≡ t → P (take (cond t 0 (1 + m)) (b ∷ bs))
more_by b m bs P none some true e = none
more_by b m bs P none some false e = rw one-add (some (some_from_test m e))

fraction_by : (b : ℕ) (bs : List ℕ) (t : Bool) → (b == 46) ≡ t → is_fraction (take (cond t (more (digits_len bs)) 0) (b ∷ bs)) ≡ true
fraction_by b bs true e = more_by b (digits_len bs) bs (λ s. is_fraction s ≡ true) refl (λ some. and_from (b == 46) (is_digits (take (digits_len bs) bs)) e (run_some is_digit bs some)) (digits_len bs == 0) refl
fraction_by b bs false e = refl

fraction_sound : (text : List ℕ) → is_fraction (take (fraction_len text) text) ≡ true
fraction_sound [] = refl
fraction_sound (b ∷ bs) = fraction_by b bs (b == 46) refl

-- a digit is no sign
signed_digits : (t : List ℕ) → is_digits t ≡ true → is_signed t ≡ true
signed_digits [] h = absurd cc
signed_digits (b ∷ bs) h =
    let n = and_parts (is_digit b) (list_all is_digit bs) h in
    cond-false (b == 43 || b == 45) (is_digits bs) (is_digits (b ∷ bs)) (digit_no_sign b n.0) ∙ h

signed_none : (b : ℕ) (bs : List ℕ) → (b == 43 || b == 45) ≡ false → 0 < digits_len (b ∷ bs) → is_signed (take (digits_len (b ∷ bs)) (b ∷ bs)) ≡ true
signed_none b bs e some = signed_digits (take (digits_len (b ∷ bs)) (b ∷ bs)) (run_some is_digit (b ∷ bs) some)

signed_plus : (b m : ℕ) (bs : List ℕ) → (b == 43 || b == 45) ≡ true → (0 < m → is_digits (take m bs) ≡ true) → (t : Bool) → (m == 0) ≡ t → 0 < cond t 0 (1 + m) → is_signed (take (cond t 0 (1 + m)) (b ∷ bs)) ≡ true
signed_plus b m bs e digits true none some = absurd (omega arith)
signed_plus b m bs e digits false none some = rw one-add (cond-true (b == 43 || b == 45) (is_digits (take m bs)) (is_digits (b ∷ take m bs)) e ∙ digits (some_from_test m none))

signed_some : (b : ℕ) (bs : List ℕ) (t : Bool) → (b == 43 || b == 45) ≡ t → 0 < cond t (more (digits_len bs)) (digits_len (b ∷ bs)) → is_signed (take (cond t (more (digits_len bs)) (digits_len (b ∷ bs))) (b ∷ bs)) ≡ true
signed_some b bs true e some = signed_plus b (digits_len bs) bs e (run_some is_digit bs) (digits_len bs == 0) refl some
signed_some b bs false e some = signed_none b bs e some

signed_sound : (text : List ℕ) → 0 < signed_len text → is_signed (take (signed_len text) text) ≡ true
signed_sound [] some = absurd (omega arith)
signed_sound (b ∷ bs) some = signed_some b bs (b == 43 || b == 45) refl some

exponent_by : (b : ℕ) (bs : List ℕ) (t : Bool) → (b == 101 || b == 69) ≡ t → is_exponent (take (cond t (more (signed_len bs)) 0) (b ∷ bs)) ≡ true
exponent_by b bs true e = more_by b (signed_len bs) bs (λ s. is_exponent s ≡ true) refl (λ some. and_from (b == 101 || b == 69) (is_signed (take (signed_len bs) bs)) e (signed_sound bs some)) (signed_len bs == 0) refl
exponent_by b bs false e = refl

exponent_sound : (text : List ℕ) → is_exponent (take (exponent_len text) text) ≡ true
exponent_sound [] = refl
exponent_sound (b ∷ bs) = exponent_by b bs (b == 101 || b == 69) refl

number_split : (w f e : ℕ) (rest : List ℕ) → take (w + f + e) rest ≡ take w rest ++ (take f (drop w rest) ++ take e (drop (w + f) rest))
number_split w f e rest = take-add (w + f) e rest ∙ ap (λ (x : List ℕ). x ++ take e (drop (w + f) rest)) (take-add w f rest) ∙ append_assoc (take w rest) (take f (drop w rest)) (take e (drop (w + f) rest))

number_found : (b : ℕ) (rest : List ℕ) → is_digit b ≡ true → IsNumber (take (1 + number_len rest) (b ∷ rest))
number_found b rest digit =
    let w = digits_len rest in
    let f = fraction_len (drop w rest) in
    let e = exponent_len (drop (w + f) rest) in
    record {
      whole = b ∷ take w rest;
      fraction = take f (drop w rest);
      exponent = take e (drop (w + f) rest);
      parts = rw one-add (ap (λ (x : List ℕ). b ∷ x) (number_split w f e rest));
      is_whole = and_from (is_digit b) (list_all is_digit (take w rest)) digit (run_taken is_digit rest);
      has_fraction = fraction_sound (drop w rest);
      has_exponent = exponent_sound (drop (w + f) rest);
    }

other_by : (text : List ℕ) (found : Lexeme × ℕ) → Chosen (first_len punctuation text == 0) None (Some (lexeme.Token kind.Punct, first_len punctuation text)) (Some found) → Takes text found
other_by text found (yes t e) = absurd cc
other_by text found (no t e) = moved text (lexeme.Token kind.Punct, first_len punctuation text) found e (inl (first_found punctuation text (some_from_test (first_len punctuation text) t)))

-- ---- each class

found_by : (c : Class) (b : ℕ) (rest : List ℕ) (found : Lexeme × ℕ) → class_of b ≡ c → front_by c b rest ≡ Some found → Takes (b ∷ rest) found
unfolding punctuation_len
found_by class.Blank b rest found at h = moved (b ∷ rest) (lexeme.Blank, 1) found h (b, refl, blank_class b at)
found_by class.Percent b rest found at h = moved (b ∷ rest) (lexeme.Comment, 1 + prefix_len is_in_line rest) found h (inl (rw one-add (and_from (b == 37) (list_all is_in_line (take (prefix_len is_in_line rest) rest)) (percent_class b at) (run_taken is_in_line rest))))
found_by class.Lower b rest found at h = moved (b ∷ rest) (lexeme.Token kind.Word, 1 + prefix_len is_word_byte rest) found h (rw one-add (and_from (is_lower b) (list_all is_word_byte (take (prefix_len is_word_byte rest) rest)) (lower_class b at) (run_taken is_word_byte rest)))
found_by class.Upper b rest found at h = moved (b ∷ rest) (lexeme.Token kind.Upper, 1 + prefix_len is_name_byte rest) found h (rw one-add (and_from (is_upper b) (list_all is_name_byte (take (prefix_len is_name_byte rest) rest)) (upper_class b at) (run_taken is_name_byte rest)))
found_by class.Slash b rest found at h = slash_found b rest found (slash_class b at) h
found_by class.Dollar b rest found at h = dollar_found b rest found (dollar_class b at) h
found_by class.Quote b rest found at h = quoted_found kind.Quoted 39 b rest found (quote_class b at) (quote_len 39 false 0 rest) refl h (λ s a q. q)
found_by class.DoubleQuote b rest found at h = quoted_found kind.Distinct 34 b rest found (double_quote_class b at) (quote_len 34 false 0 rest) refl h (λ s a q. q)
found_by class.Digit b rest found at h = moved (b ∷ rest) (lexeme.Token kind.Number, 1 + number_len rest) found h (number_found b rest (digit_class b at))
found_by class.Other b rest found at h = other_by (b ∷ rest) found (chosen (first_len punctuation (b ∷ rest) == 0) None (Some (lexeme.Token kind.Punct, first_len punctuation (b ∷ rest))) (Some found) h)

pub sound : (text : List ℕ) (found : Lexeme × ℕ) → front text ≡ Some found → Takes text found
unfolding front
sound [] found h = absurd cc
sound (b ∷ rest) found h = found_by (class_of b) b rest found refl h
