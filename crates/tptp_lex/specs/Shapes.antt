-- The lexemes of TPTP that a file of modal or typed first-order logic uses, each by its spelling and by what follows it.
use Rattle.std.specs.Prelude.{◌≡◌, ◌≢◌, ◌≤◌, ℕ, Bool, true, false, not, ◌&&◌, ◌||◌, if◌then◌else◌, nat_le, ◌==◌, List, [], ◌∷◌, ◌++◌, length, IsTrue, ◌⊎◌}
use Rattle.tptp_lex.specs.declared.token.Kind.TheVariants as kind
use Rattle.tptp_lex.specs.declared.token.Lexeme.{Lexeme}
use Rattle.tptp_lex.specs.declared.token.Lexeme.TheVariants as lexeme
use Rattle.tptp_lex.specs.Punctuation.{punctuation}
use Rattle.nxf_base.specs.Bytes.{is_word_byte, is_name_byte, is_in_line, is_digit, is_lower, is_upper, is_blank}
use Rattle.nxf_base.specs.Bytes.{begins_then}

-- a comment that its line ends: `%` and what follows it, without the line feed
abbrev pub is_line_comment : List ℕ → Bool
is_line_comment = begins_then (λ b. b == 37) is_in_line

-- the first `*/` ends it; the flag says that a `*` came before
abbrev pub ends_at_close : Bool → List ℕ → Bool
ends_at_close is_star [] = false
ends_at_close is_star (b ∷ bs) = if is_star && b == 47 then length bs == 0 else ends_at_close (b == 42) bs

-- what follows the `/` of a comment in a block
abbrev pub is_block_rest : List ℕ → Bool
is_block_rest [] = false
is_block_rest (c ∷ bs) = c == 42 && ends_at_close false bs

-- a comment in a block: `/*` and all bytes through the first `*/` after it
abbrev pub is_block_comment : List ℕ → Bool
is_block_comment [] = false
is_block_comment (b ∷ bs) = b == 47 && is_block_rest bs

-- one or more letters, digits or `_`
abbrev pub is_name_bytes : List ℕ → Bool
is_name_bytes = begins_then is_name_byte is_name_byte

-- what follows the first dollar
abbrev pub is_dollar_rest : List ℕ → Bool
is_dollar_rest [] = false
is_dollar_rest (b ∷ bs) = if b == 36 then is_name_bytes bs else is_name_bytes (b ∷ bs)

-- a defined or system word of TPTP: one or two dollars, then one or more letters, digits or `_`
abbrev pub is_dollar : List ℕ → Bool
is_dollar [] = false
is_dollar (b ∷ bs) = b == 36 && is_dollar_rest bs

-- parts, each an escaped quote or backslash or another byte from 32 to 126, and the quote that ends them; the flag says that a backslash came before
abbrev pub closes : ℕ → Bool → List ℕ → Bool
closes quote is_escaped [] = false
closes quote true (b ∷ bs) = (b == quote || b == 92) && closes quote false bs
closes quote false (b ∷ bs) = if b == quote then length bs == 0 else (nat_le 32 b && nat_le b 126) && closes quote (b == 92) bs

-- a quoted atom or a distinct object of TPTP, by its quote: one part or more between two quotes
abbrev pub is_quoted : ℕ → List ℕ → Bool
is_quoted quote [] = false
is_quoted quote (b ∷ bs) = b == quote && (closes quote false bs && not (length bs == 1))

-- one digit or more
abbrev pub is_digits : List ℕ → Bool
is_digits = begins_then is_digit is_digit

-- `.` and digits, or nothing
abbrev pub is_fraction : List ℕ → Bool
is_fraction [] = true
is_fraction (b ∷ bs) = b == 46 && is_digits bs

-- digits, with a sign before them or none
abbrev pub is_signed : List ℕ → Bool
is_signed [] = false
is_signed (b ∷ bs) = if b == 43 || b == 45 then is_digits bs else is_digits (b ∷ bs)

-- `e` or `E` and an integer with a sign or none, or nothing
abbrev pub is_exponent : List ℕ → Bool
is_exponent [] = true
is_exponent (b ∷ bs) = (b == 101 || b == 69) && is_signed bs

-- a number of TPTP without its sign: digits, a fraction or none, an exponent or none
pub record IsNumber (s : List ℕ) : Type 0 where
  pub whole : List ℕ
  pub fraction : List ℕ
  pub exponent : List ℕ
  pub parts : s ≡ whole ++ (fraction ++ exponent)
  pub is_whole : IsTrue (is_digits whole)
  pub has_fraction : IsTrue (is_fraction fraction)
  pub has_exponent : IsTrue (is_exponent exponent)

-- one of the listed spellings
abbrev pub IsOneOf : List (List ℕ) → List ℕ → Type 0
IsOneOf [] s = ⊥
IsOneOf (p ∷ ps) s = (s ≡ p) ⊎ IsOneOf ps s

-- no `*` follows, with which a `/` would begin a comment
abbrev pub IsAloneBefore : List ℕ → Type 0
IsAloneBefore [] = Unit {0}
IsAloneBefore (b ∷ bs) = b ≢ 42

-- The spelling is a lexeme of the kind, where this comes after it.
abbrev pub IsLexeme : Lexeme → List ℕ → List ℕ → Type 0
IsLexeme lexeme.Blank s after = (b : ℕ) × (s ≡ b ∷ []) × IsTrue (is_blank b)
IsLexeme lexeme.Comment s after = IsTrue (is_line_comment s) ⊎ IsTrue (is_block_comment s)
IsLexeme (lexeme.Token kind.Word) s after = IsTrue (begins_then is_lower is_word_byte s)
IsLexeme (lexeme.Token kind.Upper) s after = IsTrue (begins_then is_upper is_name_byte s)
IsLexeme (lexeme.Token kind.Dollar) s after = IsTrue (is_dollar s)
IsLexeme (lexeme.Token kind.Quoted) s after = IsTrue (is_quoted 39 s)
IsLexeme (lexeme.Token kind.Distinct) s after = IsTrue (is_quoted 34 s)
IsLexeme (lexeme.Token kind.Number) s after = IsNumber s
IsLexeme (lexeme.Token kind.Punct) s after = IsOneOf punctuation s ⊎ ((s ≡ 47 ∷ []) × IsAloneBefore after)

-- A lexeme begins the text, and none that begins it is longer.
pub record IsLongest (text : List ℕ) (found : Lexeme) (spelling after : List ℕ) : Type 0 where
  pub parts : text ≡ spelling ++ after
  pub is : IsLexeme found spelling after
  pub longest : (k : Lexeme) (s a : List ℕ) → text ≡ s ++ a → IsLexeme k s a → length s ≤ length spelling
