-- What becomes of tokens that are compared when a mark is put.
use Rattle.std.specs.Prelude.{◌≡◌, ℕ, Bool, ◌&&◌, nat_eq, if◌then◌else◌, List, [], ◌∷◌, ◌++◌, Option, None, Some}
use Rattle.tptp_lex.specs.declared.token.Kind.{Kind}
use Rattle.tptp_lex.specs.declared.token.Kind.TheVariants as kind
use Rattle.nxf_tree.specs.Names.{same_text, numeral}
use Rattle.plain_tokens.specs.PlainTokens.{Plain}
use Rattle.plain_tokens.specs.Marks.{Mark, mark_plains}

abbrev pub kind_number : Kind → ℕ
kind_number kind.Word = 0
kind_number kind.Quoted = 1
kind_number kind.Dollar = 2
kind_number kind.Upper = 3
kind_number kind.Number = 4
kind_number kind.Distinct = 5
kind_number kind.Punct = 6

abbrev pub same_plain : Plain → Plain → Bool
same_plain p q = nat_eq (kind_number p.kind) (kind_number q.kind) && same_text p.text q.text

-- what is left behind these tokens, where the others begin with them
abbrev pub strip : List Plain → List Plain → Option (List Plain)
strip [] ts = Some ts
strip (p ∷ ps) [] = None
strip (p ∷ ps) (t ∷ ts) = if same_plain p t then strip ps ts else None

-- the tokens that are left behind the mark's, or None where others stood there
abbrev pub matched : Option (List Plain) → Mark → Option (List Plain)
matched None mark = None
matched (Some ts) mark = strip (mark_plains mark) ts

-- the token of an object with this front and number
abbrev pub object_token : List ℕ → ℕ → Plain
object_token front n = record { kind = kind.Distinct; text = front ++ numeral n }

-- the tokens begin with this one
abbrev pub BeginsWith : Plain → List Plain → Type 0
BeginsWith p ts = (rest : List Plain) × (ts ≡ p ∷ rest)
