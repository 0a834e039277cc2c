-- What the tokens and the bytes of a text spell in a profile.
use Rattle.std.specs.Prelude.{ℕ, List}
use Rattle.tptp_lex.specs.declared.token.Token.{Token}
use Rattle.tptp_lex.specs.Lexing.{Lexes}
use Rattle.nxf_tree.specs.declared.profile.Profile.{Profile}
use Rattle.nxf_terminals.specs.declared.error.GrammarError.{GrammarError}
use Rattle.nxf_terminals.specs.declared.error.GrammarError.TheVariants as error
use Rattle.nxf_terminals.specs.Input.{Input, input_of}
use Rattle.nxf_tree.specs.declared.tree.File.{File}
use Rattle.syntax_definitions.specs.Files.{statement_parts, AreRead, IsFirstUnread}
use Rattle.nxf_tree.specs.Profiles.{has_includes, most_arguments, levels_of}

-- the statement parts of a text, by its tokens and by what they are to the grammar in the profile
abbrev pub statement_parts_of : Profile → List ℕ → List Token → List Input
statement_parts_of profile bytes tokens = statement_parts (input_of profile bytes tokens)

-- The tokens of a text spell the file: each of its statements is read from the part of its number.
abbrev pub TokensSpell : Profile → List ℕ → List Token → File → Type 0
TokensSpell profile bytes tokens file = AreRead (has_includes profile) (most_arguments profile) (levels_of profile) (statement_parts_of profile bytes tokens) file.statements

-- The statement of this number is the first that no rule reads.
abbrev pub IsFirstFault : Profile → List ℕ → List Token → ℕ → Type 0
IsFirstFault profile bytes tokens k = IsFirstUnread (has_includes profile) (most_arguments profile) (levels_of profile) (statement_parts_of profile bytes tokens) k

-- The bytes spell the file in the profile of TPTP.
abbrev pub Spells : Profile → List ℕ → File → Type 0
Spells profile bytes file = (tokens : List Token) × Lexes bytes tokens × TokensSpell profile bytes tokens file

-- Why the tokens spell no file; want of memory needs no cause in the text.
abbrev pub IsCause : Profile → List ℕ → List Token → GrammarError → Type 0
IsCause profile bytes tokens (error.Syntax k) = IsFirstFault profile bytes tokens k
IsCause profile bytes tokens error.Memory = Unit {0}
