-- What is proved of readings and gatherings.
use Rattle.std.specs.Prelude.{ℕ, ◌⊎◌, List}
use Rattle.tptp_lex.specs.declared.token.Token.{Token}
use Rattle.tptp_lex.specs.Lexing.{Lexes, IsBadPlace}
use Rattle.nxf_tree.specs.declared.profile.Profile.{Profile}
use Rattle.nxf_tree.specs.declared.tree.File.{File}
use Rattle.syntax_definitions.specs.Spells.{TokensSpell, IsFirstFault}

-- each text has tokens, or a place where its lexemes end
abbrev pub SomeTokens : Type 0
SomeTokens = (bytes : List ℕ) → ((tokens : List Token) × Lexes bytes tokens) ⊎ ((at : ℕ) × IsBadPlace bytes at)

-- tokens spell a file, or some statement is the first that no rule reads
abbrev pub SomeFile : Type 0
SomeFile = (profile : Profile) (bytes : List ℕ) (tokens : List Token) → ((file : File) × TokensSpell profile bytes tokens file) ⊎ ((k : ℕ) × IsFirstFault profile bytes tokens k)
