-- When tokens are the same, and which tokens printed names, objects and numbers are.
use Rattle.std.specs.Prelude.{◌≡◌, ◌↔◌, ℕ, true, List, [], ◌∷◌}
use Rattle.tptp_lex.specs.declared.token.Kind.TheVariants as kind
use Rattle.tptp_lex.specs.declared.token.Token.{Token}
use Rattle.tptp_lex.specs.Texts.{AreSame}
use Rattle.tptp_lex.specs.Lexing.{Lexes}
use Rattle.nxf_base.specs.Bytes.{is_printable_text}
use Rattle.nxf_tree.specs.Names.{numeral}
use Rattle.nxf_tree.specs.Text.{name_text}
use Rattle.plain_tokens.specs.PlainTokens.{Plain, plain_of, plains_of}
use Rattle.plain_tokens.specs.Marks.{object_text}

-- two tokens are the same exactly where they are equal as they are compared
abbrev pub SameLaw : Type 0
SameLaw = (left : List ℕ) (a : Token) (right : List ℕ) (b : Token) → AreSame left a right b ↔ (plain_of left a ≡ plain_of right b)

-- the bytes lex to one token, which is compared as this one
abbrev pub LexesAs : List ℕ → Plain → Type 0
LexesAs bytes p = (tokens : List Token) × Lexes bytes tokens × (plains_of bytes tokens ≡ p ∷ [])

-- a printed name is a word or a quoted atom with the name as its text
abbrev pub NameLaw : Type 0
NameLaw = (name : List ℕ) → is_printable_text name ≡ true → LexesAs (name_text name) (record { kind = kind.Word; text = name })

-- a text in double quotes is a distinct object with that text
abbrev pub ObjectLaw : Type 0
ObjectLaw = (text : List ℕ) → is_printable_text text ≡ true → LexesAs (object_text text) (record { kind = kind.Distinct; text = text })

-- a number in decimal digits is a number with these digits
abbrev pub NumeralLaw : Type 0
NumeralLaw = (n : ℕ) → LexesAs (numeral n) (record { kind = kind.Number; text = numeral n })
