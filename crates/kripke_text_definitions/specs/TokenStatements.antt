-- Tokens split into statements.
use Rattle.std.specs.Prelude.{Bool, true, false, ◌&&◌, if◌then◌else◌, List, [], ◌∷◌, codes}
use Rattle.tptp_lex.specs.declared.token.Kind.{Kind}
use Rattle.tptp_lex.specs.declared.token.Kind.TheVariants as kind
use Rattle.nxf_tree.specs.Names.{same_text}
use Rattle.plain_tokens.specs.PlainTokens.{Plain}

-- whether the token is a full stop
abbrev pub is_punct : Kind → Bool
is_punct kind.Word = false
is_punct kind.Quoted = false
is_punct kind.Dollar = false
is_punct kind.Upper = false
is_punct kind.Number = false
is_punct kind.Distinct = false
is_punct kind.Punct = true

abbrev pub is_stop : Plain → Bool
is_stop p = is_punct p.kind && same_text p.text (codes ".")

-- the token in front of the first of the statements
abbrev pub in_first : Plain → List (List Plain) → List (List Plain)
in_first p [] = (p ∷ []) ∷ []
in_first p (s ∷ ss) = (p ∷ s) ∷ ss

-- the tokens split after each full stop; a rest without a full stop is one further statement
abbrev pub statements : List Plain → List (List Plain)
statements [] = []
statements (p ∷ ps) = if is_stop p then (p ∷ []) ∷ statements ps else in_first p (statements ps)
