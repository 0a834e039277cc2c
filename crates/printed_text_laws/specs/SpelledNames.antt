-- What the bytes of a name's spelling are to the grammar.
use Rattle.std.specs.Prelude.{List, ℕ, []}
use Rattle.tptp_lex.specs.declared.token.Token.{Token}
use Rattle.tptp_lex.specs.Lexing.{Lexes}
use Rattle.nxf_tree.specs.declared.profile.Profile.{Profile}
use Rattle.nxf_terminals.specs.Input.{input_of}
use Rattle.syntax_definitions.specs.Statements.{IsName}

-- The tokens of the bytes are read in the profile as the name, and none is left.
abbrev pub SpellsName : Profile → List ℕ → List ℕ → Type 0
SpellsName p bytes name = (tokens : List Token) × Lexes bytes tokens × IsName (input_of p bytes tokens) name []
