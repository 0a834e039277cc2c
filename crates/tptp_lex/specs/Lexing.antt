-- The lexemes of a text, its tokens, and where it has none.
use Rattle.std.specs.Prelude.{◌≡◌, ◌≤◌, ◌<◌, ℕ, ◌+◌, List, [], ◌∷◌, ◌++◌, length, drop, ◌⊎◌, Some, slice_get}
use Rattle.tptp_lex.specs.declared.token.Token.{Token}
use Rattle.tptp_lex.specs.declared.token.Lexeme.{Lexeme}
use Rattle.tptp_lex.specs.declared.token.Lexeme.TheVariants as lexeme
use Rattle.tptp_lex.specs.Shapes.{IsLongest}

-- a lexeme with its spelling
pub record Piece : Type 0 where
  pub kind : Lexeme
  pub spelling : List ℕ

-- The text is these lexemes, each the longest that begins at its place, and then the rest.
abbrev pub Begins : List ℕ → List Piece → List ℕ → Type 0
Begins text [] rest = text ≡ rest
Begins text (p ∷ ps) rest = (after : List ℕ) × IsLongest text p.kind p.spelling after × Begins after ps rest

-- a token, or nothing for a blank or a comment
abbrev pub token_of : Lexeme → ℕ → ℕ → List Token
token_of lexeme.Blank start end = []
token_of lexeme.Comment start end = []
token_of (lexeme.Token kind) start end = record { kind = kind; start = start; end = end } ∷ []

-- the tokens of lexemes that stand from a place on
abbrev pub tokens_from : ℕ → List Piece → List Token
tokens_from at [] = []
tokens_from at (p ∷ ps) = token_of p.kind at (at + length p.spelling) ++ tokens_from (at + length p.spelling) ps

-- the tokens of the text, all of it
abbrev pub Lexes : List ℕ → List Token → Type 0
Lexes text tokens = (ps : List Piece) × Begins text ps [] × (tokens ≡ tokens_from 0 ps)

-- The longest list of lexemes from the beginning of the text ends at this place, before the end of the text.
pub record IsBadPlace (text : List ℕ) (at : ℕ) : Type 0 where
  pub pieces : List Piece
  pub leads : Begins text pieces (drop at text)
  pub within : at < length text
  pub furthest : (ps : List Piece) (rest : List ℕ) → Begins text ps rest → length text ≤ length rest + at

-- a quote, a double quote, or the beginning of a comment
abbrev pub BeginsClosed : List ℕ → Type 0
BeginsClosed [] = ⊥
BeginsClosed (b ∷ []) = (b ≡ 39) ⊎ (b ≡ 34)
BeginsClosed (b ∷ c ∷ rest) = (b ≡ 39) ⊎ ((b ≡ 34) ⊎ ((b ≡ 47) × (c ≡ 42)))

-- a token of the text, at some place of its list
abbrev pub IsTokenOf : List ℕ → Token → Type 0
IsTokenOf text token = (tokens : List Token) × (at : ℕ) × Lexes text tokens × (slice_get tokens at ≡ Some token)

-- a span within so many bytes
abbrev pub IsSpan : ℕ → Token → Type 0
IsSpan len token = (token.start ≤ token.end) × (token.end ≤ len)

-- spans in order from a place on, within so many bytes: none is empty, and none overlaps another
abbrev pub AreSpans : ℕ → ℕ → List Token → Type 0
AreSpans from len [] = from ≤ len
AreSpans from len (token ∷ tokens) = (from ≤ token.start) × (token.start < token.end) × AreSpans token.end len tokens
