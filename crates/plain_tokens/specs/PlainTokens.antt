-- Tokens as they are compared: by kind, where a word and a quoted atom are one kind, and by text.
use Rattle.std.specs.Prelude.{ℕ, List, map}
use Rattle.tptp_lex.specs.declared.token.Kind.{Kind}
use Rattle.tptp_lex.specs.declared.token.Kind.TheVariants as kind
use Rattle.tptp_lex.specs.declared.token.Token.{Token}
use Rattle.tptp_lex.specs.Texts.{spelling_of, token_text}

-- a kind that isn't that of quoted atoms, and the text without quotes and escapes
pub record Plain : Type 0 where
  pub kind : Kind
  pub text : List ℕ

-- the kind, where a quoted atom counts as a word
abbrev pub plain_kind : Kind → Kind
plain_kind kind.Word = kind.Word
plain_kind kind.Quoted = kind.Word
plain_kind kind.Dollar = kind.Dollar
plain_kind kind.Upper = kind.Upper
plain_kind kind.Number = kind.Number
plain_kind kind.Distinct = kind.Distinct
plain_kind kind.Punct = kind.Punct

-- a token of these bytes
abbrev pub plain_of : List ℕ → Token → Plain
plain_of bytes token = record { kind = plain_kind token.kind; text = token_text (spelling_of bytes token) }

abbrev pub plains_of : List ℕ → List Token → List Plain
plains_of bytes = map (plain_of bytes)
