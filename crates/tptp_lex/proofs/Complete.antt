-- Where a lexeme begins a text, one of its kind is found, and none shorter.
use Rattle.std.proofs.Common.{◌≡◌, ℕ, ◌+◌, ◌≤◌, suc, Bool, true, false, cond, not, ◌&&◌, Some, List, [], ◌∷◌, ◌++◌, length, refl, sym, ap, subst, ◌∙◌, arith, ⊎_elim, append_assoc, length-append}
use Rattle.std.specs.Prelude.{◌==◌}
use Rattle.std.specs.List.{prefix_len, list_all}
use Rattle.std.proofs.lemmas.Bool.{and_parts, cond-true, cond-false, not-true, ne_eqb}
use Rattle.std.proofs.lemmas.Bool.Decides.{nat_tests}
use Rattle.tptp_lex.specs.declared.front.Class.{Class}
use Rattle.tptp_lex.specs.declared.front.Class.TheVariants as class
use Rattle.tptp_lex.specs.declared.token.Kind.{Kind}
use Rattle.tptp_lex.specs.declared.token.Kind.TheVariants as kind
use Rattle.tptp_lex.specs.declared.token.Lexeme.{Lexeme}
use Rattle.tptp_lex.specs.declared.token.Lexeme.TheVariants as lexeme
use Rattle.tptp_lex.specs.Punctuation.{punctuation}
use Rattle.nxf_base.specs.Bytes.{is_word_byte, is_name_byte, is_in_line, is_digit, is_lower, is_upper, is_blank}
use Rattle.tptp_lex.specs.Front.{class_of, front, front_by, quote_len, quoted, slash, dollar, name_after, number_len, punctuation_len, first_len}
use Rattle.nxf_base.specs.Bytes.{begins_then}
use Rattle.tptp_lex.specs.Shapes.{is_line_comment, is_block_rest, is_block_comment, ends_at_close, closes, is_quoted, is_name_bytes, is_dollar_rest, is_dollar, is_digits, is_fraction, is_exponent, IsOneOf, IsAloneBefore, IsLexeme}
use Rattle.tptp_lex.proofs.Classes.{class_lower, class_upper, class_digit, class_blank, class_at}
use Rattle.tptp_lex.proofs.Runs.{run_front}
use Rattle.tptp_lex.proofs.Closed.{close_front, quote_front}
use Rattle.tptp_lex.proofs.Numbers.{number_parts}
use Rattle.tptp_lex.proofs.Punctuation.{longest_first, one_passes, first_longest}

-- a lexeme of this kind is found, at least as long as s
pub record Reaches (k : Lexeme) (s a : List ℕ) : Type 0 where
  pub len : ℕ
  pub found : front (s ++ a) ≡ Some (k, len)
  pub long : length s ≤ len

by_class : (c : Class) (b : ℕ) (rest : List ℕ) (k : Lexeme) (n : ℕ) → class_of b ≡ c → front_by c b rest ≡ Some (k, n) → front (b ∷ rest) ≡ Some (k, n)
unfolding front
by_class c b rest k n e h = ap (λ x. front_by x b rest) e ∙ h

reaches_word : (s a : List ℕ) → begins_then is_lower is_word_byte s ≡ true → Reaches (lexeme.Token kind.Word) s a
reaches_word [] a h = absurd cc
reaches_word (b ∷ bs) a h =
    let t = and_parts (is_lower b) (list_all is_word_byte bs) h in
    record { len = 1 + prefix_len is_word_byte (bs ++ a); found = by_class class.Lower b (bs ++ a) _ _ (class_lower b t.0) refl; long = omega (arith, run_front is_word_byte bs a t.1) }

reaches_upper : (s a : List ℕ) → begins_then is_upper is_name_byte s ≡ true → Reaches (lexeme.Token kind.Upper) s a
reaches_upper [] a h = absurd cc
reaches_upper (b ∷ bs) a h =
    let t = and_parts (is_upper b) (list_all is_name_byte bs) h in
    record { len = 1 + prefix_len is_name_byte (bs ++ a); found = by_class class.Upper b (bs ++ a) _ _ (class_upper b t.0) refl; long = omega (arith, run_front is_name_byte bs a t.1) }

reaches_blank : (s a : List ℕ) (b : ℕ) → s ≡ b ∷ [] → is_blank b ≡ true → Reaches lexeme.Blank s a
reaches_blank s a b e h =
    subst (λ (x : List ℕ). Reaches lexeme.Blank x a) (sym e) (record { len = 1; found = by_class class.Blank b a _ _ (class_blank b h) refl; long = omega arith })

reaches_line : (s a : List ℕ) → is_line_comment s ≡ true → Reaches lexeme.Comment s a
reaches_line [] a h = absurd cc
reaches_line (b ∷ bs) a h =
    let t = and_parts (b == 37) (list_all is_in_line bs) h in
    record { len = 1 + prefix_len is_in_line (bs ++ a); found = by_class class.Percent b (bs ++ a) _ _ (class_at b 37 t.0) refl; long = omega (arith, run_front is_in_line bs a t.1) }

block_slash : (bs a : List ℕ) → is_block_rest bs ≡ true → slash (bs ++ a) ≡ Some (lexeme.Comment, suc (length bs))
block_slash [] a h = absurd cc
block_slash (c ∷ bs) a h =
    let t = and_parts (c == 42) (ends_at_close false bs) h in
    rw (t.0, close_front false 0 bs a t.1) (ap (λ (n : ℕ). Some (lexeme.Comment, n)) (omega arith))

reaches_block : (s a : List ℕ) → is_block_comment s ≡ true → Reaches lexeme.Comment s a
reaches_block [] a h = absurd cc
reaches_block (b ∷ bs) a h =
    let t = and_parts (b == 47) (is_block_rest bs) h in
    record { len = suc (length bs); found = by_class class.Slash b (bs ++ a) _ _ (class_at b 47 t.0) (block_slash bs a t.1); long = omega arith }

names_some : (n : ℕ) (bs a : List ℕ) → is_name_bytes bs ≡ true → (name_after n (bs ++ a) ≡ Some (lexeme.Token kind.Dollar, n + prefix_len is_name_byte (bs ++ a))) × (length bs ≤ prefix_len is_name_byte (bs ++ a))
names_some n [] a h = absurd cc
names_some n (b ∷ bs) a h =
    let long = run_front is_name_byte (b ∷ bs) a h in
    let some : (prefix_len is_name_byte (b ∷ (bs ++ a)) == 0) ≡ false = grind (arith, nat_tests) in
    (cond-false _ _ _ some, long)

record DollarRest (bs a : List ℕ) : Type 0 where
  len : ℕ
  found : dollar (bs ++ a) ≡ Some (lexeme.Token kind.Dollar, len)
  long : suc (length bs) ≤ len

dollar_by : (t : Bool) (b : ℕ) (bs a : List ℕ) → (b == 36) ≡ t → cond t (is_name_bytes bs) (is_name_bytes (b ∷ bs)) ≡ true → DollarRest (b ∷ bs) a
dollar_by true b bs a e h =
    let n = names_some 2 bs a h in
    record { len = 2 + prefix_len is_name_byte (bs ++ a); found = cond-true (b == 36) _ _ e ∙ n.0; long = omega (arith, n.1) }
dollar_by false b bs a e h =
    let n = names_some 1 (b ∷ bs) a h in
    record { len = 1 + prefix_len is_name_byte ((b ∷ bs) ++ a); found = cond-false (b == 36) _ _ e ∙ n.0; long = omega (arith, n.1) }

dollar_rest : (bs a : List ℕ) → is_dollar_rest bs ≡ true → DollarRest bs a
dollar_rest [] a h = absurd cc
dollar_rest (b ∷ bs) a h = dollar_by (b == 36) b bs a refl h

reaches_dollar : (s a : List ℕ) → is_dollar s ≡ true → Reaches (lexeme.Token kind.Dollar) s a
reaches_dollar [] a h = absurd cc
reaches_dollar (b ∷ bs) a h =
    let t = and_parts (b == 36) (is_dollar_rest bs) h in
    let d = dollar_rest bs a t.1 in
    record { len = d.len; found = by_class class.Dollar b (bs ++ a) _ _ (class_at b 36 t.0) d.found; long = d.long }

quoted_some : (k : Kind) (quote : ℕ) (bs a : List ℕ) → (closes quote false bs && not (length bs == 1)) ≡ true → quoted k quote (bs ++ a) ≡ Some (lexeme.Token k, 1 + length bs)
quoted_some k quote bs a h =
    let t = and_parts (closes quote false bs) (not (length bs == 1)) h in
    let len : quote_len quote false 0 (bs ++ a) ≡ Some (length bs) = quote_front quote false 0 bs a t.0 ∙ ap Some (omega arith) in
    rw len (cond-false (length bs == 1) _ _ (not-true (length bs == 1) t.1))

reaches_quoted : (k : Kind) (c : Class) (quote : ℕ) (s a : List ℕ) → class_of quote ≡ c → ((b : ℕ) (rest : List ℕ) → front_by c b rest ≡ quoted k quote rest) → is_quoted quote s ≡ true → Reaches (lexeme.Token k) s a
reaches_quoted k c quote [] a at by h = absurd cc
reaches_quoted k c quote (b ∷ bs) a at by h =
    let t = and_parts (b == quote) (closes quote false bs && not (length bs == 1)) h in
    record { len = 1 + length bs; found = by_class c b (bs ++ a) _ _ (class_at b quote t.0 ∙ at) (by b (bs ++ a) ∙ quoted_some k quote bs a t.1); long = omega arith }

number_whole : (w f e a s : List ℕ) → s ≡ w ++ (f ++ e) → is_digits w ≡ true → is_fraction f ≡ true → is_exponent e ≡ true → Reaches (lexeme.Token kind.Number) s a
number_whole [] f e a s parts hw hf he = absurd cc
number_whole (b ∷ w) f e a s parts hw hf he =
    let t = and_parts (is_digit b) (list_all is_digit w) hw in
    let rest : (w ++ (f ++ e)) ++ a ≡ w ++ (f ++ (e ++ a)) = append_assoc w (f ++ e) a ∙ ap (λ (x : List ℕ). w ++ x) (append_assoc f e a) in
    let long = number_parts w f e a t.1 hf he in
    subst (λ (x : List ℕ). Reaches (lexeme.Token kind.Number) x a) (sym parts) (record {
      len = 1 + number_len ((w ++ (f ++ e)) ++ a);
      found = by_class class.Digit b ((w ++ (f ++ e)) ++ a) _ _ (class_digit b t.0) refl;
      long = rw rest (omega (arith, long, length-append w (f ++ e), length-append f e));
    })

-- each spelling of the table is one or more bytes, of which the first is of no other class
abbrev is_other : Class → Bool
is_other class.Other = true
is_other class.Blank = false
is_other class.Percent = false
is_other class.Slash = false
is_other class.Dollar = false
is_other class.Quote = false
is_other class.DoubleQuote = false
is_other class.Lower = false
is_other class.Upper = false
is_other class.Digit = false

abbrev begins_other : List ℕ → Bool
begins_other [] = false
begins_other (b ∷ bs) = is_other (class_of b)

other_class : (c : Class) → is_other c ≡ true → c ≡ class.Other
other_class class.Other h = refl
other_class class.Blank h = absurd cc
other_class class.Percent h = absurd cc
other_class class.Slash h = absurd cc
other_class class.Dollar h = absurd cc
other_class class.Quote h = absurd cc
other_class class.DoubleQuote h = absurd cc
other_class class.Lower h = absurd cc
other_class class.Upper h = absurd cc
other_class class.Digit h = absurd cc

table_begins_other : list_all begins_other punctuation ≡ true
table_begins_other = refl

table_longest_first : longest_first punctuation ≡ true
table_longest_first = refl

reaches_table : (s a : List ℕ) → begins_other s ≡ true → IsOneOf punctuation s → Reaches (lexeme.Token kind.Punct) s a
unfolding punctuation_len
reaches_table [] a h one = absurd cc
reaches_table (b ∷ bs) a h one =
    let long : suc (length bs) ≤ first_len punctuation (b ∷ (bs ++ a)) = first_longest punctuation (b ∷ bs) a table_longest_first one in
    let some : (first_len punctuation (b ∷ (bs ++ a)) == 0) ≡ false = ne_eqb _ _ (λ e. omega (arith, e, long)) in
    record { len = first_len punctuation (b ∷ (bs ++ a)); found = by_class class.Other b (bs ++ a) _ _ (other_class (class_of b) h) (cond-false _ _ _ some); long = long }

slash_alone : (a : List ℕ) → IsAloneBefore a → slash a ≡ Some (lexeme.Token kind.Punct, 1)
slash_alone [] h = refl
slash_alone (b ∷ a) h = cond-false (b == 42) _ _ (ne_eqb b 42 h)

reaches_slash : (s a : List ℕ) → s ≡ 47 ∷ [] → IsAloneBefore a → Reaches (lexeme.Token kind.Punct) s a
reaches_slash s a e h =
    subst (λ (x : List ℕ). Reaches (lexeme.Token kind.Punct) x a) (sym e) (record { len = 1; found = by_class class.Slash 47 a _ _ refl (slash_alone a h); long = omega arith })

pub reaches : (k : Lexeme) (s a : List ℕ) → IsLexeme k s a → Reaches k s a
reaches lexeme.Blank s a h = reaches_blank s a h.0 h.1 h.2
reaches lexeme.Comment s a h = ⊎_elim (reaches_line s a) (reaches_block s a) h
reaches (lexeme.Token kind.Word) s a h = reaches_word s a h
reaches (lexeme.Token kind.Upper) s a h = reaches_upper s a h
reaches (lexeme.Token kind.Dollar) s a h = reaches_dollar s a h
reaches (lexeme.Token kind.Quoted) s a h = reaches_quoted kind.Quoted class.Quote 39 s a refl (λ b rest. refl) h
reaches (lexeme.Token kind.Distinct) s a h = reaches_quoted kind.Distinct class.DoubleQuote 34 s a refl (λ b rest. refl) h
reaches (lexeme.Token kind.Number) s a h = number_whole h.whole h.fraction h.exponent a s h.parts h.is_whole h.has_fraction h.has_exponent
reaches (lexeme.Token kind.Punct) s a h =
    ⊎_elim (λ (o : IsOneOf punctuation s). reaches_table s a (one_passes begins_other punctuation s table_begins_other o) o)
    (λ (h : (s ≡ 47 ∷ []) × IsAloneBefore a). reaches_slash s a h.0 h.1) h
