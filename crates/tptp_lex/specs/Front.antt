-- The lexeme at the front of a text, computed. That it is the longest one is a law.
use Rattle.std.specs.Prelude.{ℕ, ◌+◌, Bool, true, false, ◌&&◌, ◌||◌, if◌then◌else◌, ◌==◌, nat_lt, nat_eq, List, [], ◌∷◌, length, drop, Option, Some, None, option_and_then}
use Rattle.std.specs.List.{prefix_len, starts_with}
use Rattle.tptp_lex.specs.declared.front.Run.{Run}
use Rattle.tptp_lex.specs.declared.front.Run.TheVariants as run
use Rattle.tptp_lex.specs.declared.front.Class.{Class}
use Rattle.tptp_lex.specs.declared.front.Class.TheVariants as class
use Rattle.tptp_lex.specs.declared.token.Kind.{Kind}
use Rattle.tptp_lex.specs.declared.token.Kind.TheVariants as kind
use Rattle.tptp_lex.specs.declared.token.Lexeme.{Lexeme}
use Rattle.tptp_lex.specs.declared.token.Lexeme.TheVariants as lexeme
use Rattle.tptp_lex.specs.Punctuation.{punctuation}
use Rattle.nxf_base.specs.Bytes.{is_word_byte, is_name_byte, is_in_line, is_digit, is_lower, is_upper, is_blank}

abbrev pub is_in : Run → ℕ → Bool
is_in run.Word b = is_word_byte b
is_in run.Name b = is_name_byte b
is_in run.Digits b = is_digit b
is_in run.Line b = is_in_line b

abbrev pub class_of : ℕ → Class
class_of b =
    if b == 37 then class.Percent else (if b == 47 then class.Slash else (if b == 36 then class.Dollar
    else (if b == 39 then class.Quote else (if b == 34 then class.DoubleQuote
    else (if is_lower b then class.Lower else (if is_upper b then class.Upper else (if is_digit b then class.Digit
    else (if is_blank b then class.Blank else class.Other))))))))

-- Below, a result counts from `at` on.
abbrev pub close_len : Bool → ℕ → List ℕ → Option ℕ
close_len is_star at [] = None
close_len is_star at (b ∷ bs) = if is_star && b == 47 then Some (at + 1) else close_len (b == 42) (at + 1) bs

abbrev pub quote_len : ℕ → Bool → ℕ → List ℕ → Option ℕ
quote_len quote is_escaped at [] = None
quote_len quote true at (b ∷ bs) = if b == quote || b == 92 then quote_len quote false (at + 1) bs else None
quote_len quote false at (b ∷ bs) =
    if b == quote then Some (at + 1) else (if nat_lt b 32 || nat_lt 126 b then None else quote_len quote (b == 92) (at + 1) bs)

abbrev pub quoted : Kind → ℕ → List ℕ → Option (Lexeme × ℕ)
quoted k quote rest = option_and_then (λ n. if n == 1 then None else Some (lexeme.Token k, 1 + n)) (quote_len quote false 0 rest)

abbrev pub slash : List ℕ → Option (Lexeme × ℕ)
slash [] = Some (lexeme.Token kind.Punct, 1)
slash (b ∷ rest) = if b == 42 then option_and_then (λ n. Some (lexeme.Comment, 2 + n)) (close_len false 0 rest) else Some (lexeme.Token kind.Punct, 1)

-- a name after so many dollars
abbrev pub name_after : ℕ → List ℕ → Option (Lexeme × ℕ)
name_after n rest = let len = prefix_len is_name_byte rest in if len == 0 then None else Some (lexeme.Token kind.Dollar, n + len)

abbrev pub dollar : List ℕ → Option (Lexeme × ℕ)
dollar [] = None
dollar (b ∷ rest) = if b == 36 then name_after 2 rest else name_after 1 (b ∷ rest)

abbrev pub digits_len : List ℕ → ℕ
digits_len = prefix_len is_digit

-- one more for the byte before, where there are any
abbrev pub more : ℕ → ℕ
more n = if n == 0 then 0 else 1 + n

abbrev pub fraction_len : List ℕ → ℕ
fraction_len [] = 0
fraction_len (b ∷ bs) = if b == 46 then more (digits_len bs) else 0

abbrev pub signed_len : List ℕ → ℕ
signed_len [] = 0
signed_len (b ∷ bs) = if b == 43 || b == 45 then more (digits_len bs) else digits_len (b ∷ bs)

abbrev pub exponent_len : List ℕ → ℕ
exponent_len [] = 0
exponent_len (b ∷ bs) = if b == 101 || b == 69 then more (signed_len bs) else 0

abbrev pub number_len : List ℕ → ℕ
number_len text =
    let whole = digits_len text in
    let fraction = fraction_len (drop whole text) in
    whole + fraction + exponent_len (drop (whole + fraction) text)

abbrev pub first_len : List (List ℕ) → List ℕ → ℕ
first_len [] text = 0
first_len (p ∷ ps) text = if starts_with nat_eq text p then length p else first_len ps text

unfoldable pub punctuation_len : List ℕ → ℕ
punctuation_len = first_len punctuation

abbrev pub other : List ℕ → Option (Lexeme × ℕ)
other text = let len = punctuation_len text in if len == 0 then None else Some (lexeme.Token kind.Punct, len)

abbrev pub front_by : Class → ℕ → List ℕ → Option (Lexeme × ℕ)
front_by class.Blank b rest = Some (lexeme.Blank, 1)
front_by class.Percent b rest = Some (lexeme.Comment, 1 + prefix_len is_in_line rest)
front_by class.Slash b rest = slash rest
front_by class.Lower b rest = Some (lexeme.Token kind.Word, 1 + prefix_len is_word_byte rest)
front_by class.Upper b rest = Some (lexeme.Token kind.Upper, 1 + prefix_len is_name_byte rest)
front_by class.Dollar b rest = dollar rest
front_by class.Quote b rest = quoted kind.Quoted 39 rest
front_by class.DoubleQuote b rest = quoted kind.Distinct 34 rest
front_by class.Digit b rest = Some (lexeme.Token kind.Number, 1 + number_len rest)
front_by class.Other b rest = other (b ∷ rest)

unfoldable pub front : List ℕ → Option (Lexeme × ℕ)
front [] = None
front (b ∷ rest) = front_by (class_of b) b rest
