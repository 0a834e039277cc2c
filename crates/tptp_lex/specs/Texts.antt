-- The text of a token, and when two tokens are the same.
use Rattle.std.specs.Prelude.{◌≡◌, ℕ, ◌-◌, Bool, true, false, ◌||◌, if◌then◌else◌, ◌==◌, List, [], ◌∷◌, take, drop, ◌⊎◌, IsTrue, Option, Some, None}
use Rattle.tptp_lex.specs.declared.token.Kind.{Kind}
use Rattle.tptp_lex.specs.declared.token.Kind.TheVariants as kind
use Rattle.tptp_lex.specs.declared.token.Token.{Token}
use Rattle.tptp_lex.specs.declared.token.Lexeme.TheVariants as lexeme
use Rattle.tptp_lex.specs.Shapes.{IsLexeme}

-- the bytes of a token, as they stand
abbrev pub spelling_of : List ℕ → Token → List ℕ
spelling_of text token = take (token.end - token.start) (drop token.start text)

-- the token's bytes are a lexeme of its kind
abbrev pub IsSpelled : List ℕ → Token → Type 0
IsSpelled text token = (after : List ℕ) × IsLexeme (lexeme.Token token.kind) (spelling_of text token) after

-- what stands behind a quote, up to the quote that ends it, without the backslash of each escape; the flag says that a backslash came before
abbrev pub unescaped : ℕ → Bool → List ℕ → List ℕ
unescaped quote is_escaped [] = []
unescaped quote true (b ∷ bs) = b ∷ unescaped quote false bs
unescaped quote false (b ∷ bs) = if b == quote then [] else (if b == 92 then unescaped quote true bs else b ∷ unescaped quote false bs)

-- a spelling in quotes or double quotes without these and its escapes, and any other as it stands
unfoldable pub token_text : List ℕ → List ℕ
token_text [] = []
token_text (b ∷ bs) = if b == 39 || b == 34 then unescaped b false bs else b ∷ bs

-- what is left of a text: within quotes these end it, and its escapes are still to be dropped
abbrev pub text_left : Option ℕ → List ℕ → List ℕ
text_left None rest = rest
text_left (Some quote) rest = unescaped quote false rest

-- a word and a quoted atom are both names
abbrev pub is_name : Kind → Bool
is_name kind.Word = true
is_name kind.Quoted = true
is_name _ = false

-- One kind, where a word and a quoted atom count as one.
abbrev pub AreAlike : Kind → Kind → Type 0
AreAlike k l = (k ≡ l) ⊎ (IsTrue (is_name k) × IsTrue (is_name l))

-- Two tokens are the same where their kinds are alike and their texts are equal.
abbrev pub AreSame : List ℕ → Token → List ℕ → Token → Type 0
AreSame left a right b = AreAlike a.kind b.kind × (token_text (spelling_of left a) ≡ token_text (spelling_of right b))
