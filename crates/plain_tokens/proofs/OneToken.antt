-- Printed pieces that lex to one token.
use Rattle.std.proofs.Common.{◌≡◌, ℕ, zero, suc, ◌+◌, ◌<◌, ◌||◌, true, false, Some, List, [], ◌∷◌, ◌++◌, map, length, drop, refl, sym, ap, subst, ◌∙◌, append-nil, arith}
use Rattle.std.specs.Prelude.{◌==◌}
use Rattle.std.specs.List.{list_all, prefix_len}
use Rattle.std.specs.Int.Digits.{digits_of, AllBelowBase, number_from_digits_after}
use Rattle.std.proofs.lemmas.Int.Digits.{all_below_base_digits_of, number_digits_of}
use Rattle.std.proofs.lemmas.List.{drop_all}
use Rattle.std.proofs.lemmas.Bool.{and_from, and_parts, cond-false}
use Rattle.std.proofs.lemmas.Bool.Decides.{nat_tests}
use Rattle.nxf_base.specs.Bytes.{is_digit}
use Rattle.tptp_lex.specs.declared.token.Kind.TheVariants as kind
use Rattle.tptp_lex.specs.declared.token.Lexeme.TheVariants as lexeme
use Rattle.tptp_lex.specs.Front.{front, front_by, number_len}
use Rattle.tptp_lex.specs.Lexing.{Piece, Begins, Lexes, tokens_from}
use Rattle.tptp_lex.specs.Shapes.{IsLongest}
use Rattle.tptp_lex.specs.Texts.{token_text, unescaped}
use Rattle.tptp_lex.proofs.CallerLemmas.{class_digit, spelled_longest, run_exact}
use Rattle.plain_tokens.specs.PlainTokens.{Plain, plains_of}
use Rattle.plain_tokens.specs.Marks.{Mark, Name, Object, mark_text, mark_plains, spelled}
use Rattle.plain_tokens.specs.TokenLaws.{LexesAs, NameLaw, ObjectLaw, NumeralLaw}
use Rattle.plain_tokens.proofs.MarksLexed.{Found, marks_lex, piece_plains, plains_from, name, object}

-- the text of one mark
one_mark : (m : Mark) (p : Plain) → Found m [] → mark_plains m ≡ p ∷ [] → LexesAs (mark_text m) p
one_mark m p found is =
    let t = marks_lex (m ∷ []) (found, tt) in
    let e : spelled (m ∷ []) ≡ mark_text m = append-nil (mark_text m) in
    (t.0, subst (λ (b : List ℕ). Lexes b t.0) e t.1, ap (λ (b : List ℕ). plains_of b t.0) (sym e) ∙ t.2 ∙ append-nil (mark_plains m) ∙ is)

pub name-law : NameLaw
name-law a h = one_mark (Name a) (record { kind = kind.Word; text = a }) (name a [] h tt) refl

pub object-law : ObjectLaw
object-law t h = one_mark (Object t) (record { kind = kind.Distinct; text = t }) (object t [] h) refl

-- ---- numbers

digit_is : (d : ℕ) → d < 10 → is_digit (48 + d) ≡ true
digit_is d h = grind (arith, nat_tests)

digits_are : (ds : List ℕ) → AllBelowBase 10 ds → list_all is_digit (map (λ digit. 48 + digit) ds) ≡ true
digits_are [] h = refl
digits_are (d ∷ ds) h = and_from (is_digit (48 + d)) _ (digit_is d h.0) (digits_are ds h.1)

-- digits alone are the longest number
digits_number : (ds : List ℕ) → list_all is_digit ds ≡ true → number_len ds ≡ length ds
digits_number ds h =
    let whole : prefix_len is_digit ds ≡ length ds = ap (prefix_len is_digit) (sym (append-nil ds)) ∙ run_exact is_digit ds [] h tt in
    let none : drop (length ds) ds ≡ [] = drop_all (length ds) ds (omega arith) in
    let same : length ds + 0 ≡ length ds = omega arith in
    rw whole (rw none (rw (same, none) (omega arith)))

digit_no_quote : (b : ℕ) → is_digit b ≡ true → (b == 39 || b == 34) ≡ false
digit_no_quote b h = grind (arith, nat_tests)

digit_text : (b : ℕ) (ds : List ℕ) → is_digit b ≡ true → token_text (b ∷ ds) ≡ b ∷ ds
unfolding token_text
digit_text b ds h = cond-false (b == 39 || b == 34) (unescaped b false ds) (b ∷ ds) (digit_no_quote b h)

digits_front : (b : ℕ) (ds : List ℕ) → list_all is_digit (b ∷ ds) ≡ true → front ((b ∷ ds) ++ []) ≡ Some (lexeme.Token kind.Number, length (b ∷ ds))
unfolding front
digits_front b ds h =
    let t = and_parts (is_digit b) (list_all is_digit ds) h in
    ap front (append-nil (b ∷ ds))
    ∙ ap (λ c. front_by c b ds) (class_digit b t.0)
    ∙ ap (λ (n : ℕ). Some (lexeme.Token kind.Number, 1 + n)) (digits_number ds t.1)
    ∙ ap (λ (n : ℕ). Some (lexeme.Token kind.Number, n)) (omega arith)

digits_lex : (b : ℕ) (ds : List ℕ) → list_all is_digit (b ∷ ds) ≡ true → LexesAs (b ∷ ds) (record { kind = kind.Number; text = b ∷ ds })
digits_lex b ds h =
    let t = and_parts (is_digit b) (list_all is_digit ds) h in
    let s : List ℕ = b ∷ ds in
    let long = subst (λ (x : List ℕ). IsLongest x (lexeme.Token kind.Number) s []) (append-nil s) (spelled_longest (lexeme.Token kind.Number) s [] (digits_front b ds h)) in
    let piece : Piece = record { kind = lexeme.Token kind.Number; spelling = s } in
    let begins : Begins s (piece ∷ []) [] = ([], long, refl) in
    let is : piece_plains (lexeme.Token kind.Number) s ≡ record { kind = kind.Number; text = s } ∷ [] = ap (λ (x : List ℕ). let p : Plain = record { kind = kind.Number; text = x } in p ∷ []) (digit_text b ds t.0) in
    (tokens_from 0 (piece ∷ []), (piece ∷ [], begins, refl), plains_from s s (piece ∷ []) 0 refl begins ∙ is)

numeral_by : (n : ℕ) (ds : List ℕ) → AllBelowBase 10 ds → number_from_digits_after 10 0 ds ≡ suc n → LexesAs (map (λ digit. 48 + digit) ds) (record { kind = kind.Number; text = map (λ digit. 48 + digit) ds })
numeral_by n [] below value = absurd (omega (arith, value))
numeral_by n (d ∷ ds) below value = digits_lex (48 + d) (map (λ digit. 48 + digit) ds) (digits_are (d ∷ ds) below)

pub numeral-law : NumeralLaw
numeral-law zero = digits_lex 48 [] refl
numeral-law (suc n) = numeral_by n (digits_of 10 (suc n)) (all_below_base_digits_of 10 (suc n) (omega arith)) (number_digits_of 10 (suc n) (omega arith))
