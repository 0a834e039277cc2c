-- Why there are no tokens.
use Rattle.std.specs.Prelude.{ℕ, List, drop}
use Rattle.tptp_lex.specs.declared.lexer.LexError.{LexError}
use Rattle.tptp_lex.specs.declared.lexer.LexError.TheVariants as error
use Rattle.tptp_lex.specs.Lexing.{IsBadPlace, BeginsClosed}

-- The error names the bad place and what stands there; want of memory needs no cause in the text.
abbrev pub Explains : List ℕ → LexError → Type 0
Explains text (error.Bad at) = IsBadPlace text at × (BeginsClosed (drop at text) → ⊥)
Explains text (error.Unclosed at) = IsBadPlace text at × BeginsClosed (drop at text)
Explains text error.Memory = Unit {0}
