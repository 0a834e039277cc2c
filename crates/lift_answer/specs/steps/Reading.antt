-- Why the bytes of a file give no structure.
use Rattle.std.specs.Prelude.{◌≡◌, ◌⊎◌, ℕ, List, Err}
use Rattle.nxf_base.specs.declared.status.Status.{Status}
use Rattle.nxf_base.specs.declared.status.Status.TheVariants as status
use Rattle.tptp_lex.specs.declared.token.Token.{Token}
use Rattle.tptp_lex.specs.Lexing.{Lexes}
use Rattle.nxf_tree.specs.declared.profile.Profile.TheVariants.{Interpretation}
use Rattle.nxf_tree.specs.declared.tree.File.{File}
use Rattle.nxf_tree.specs.declared.tree.Signature.{Signature}
use Rattle.nxf_tree.specs.ClassicalSignature.{classical_signature_of}
use Rattle.syntax_definitions.specs.Spells.{IsFirstFault}
use Rattle.interpretation_definitions.specs.Interpretation.{interpretation_of}
use Rattle.interpretation_definitions.specs.declared.error.InterpError.{InterpError}
use Rattle.answer_definitions.specs.InterpretationFile.{status_of_interpretation}
use Rattle.check_answer.specs.Lexing.{IsLexRefusal}

-- no rule reads a statement of the file of this name
pub record IsSyntaxRefusal (name bytes : List ℕ) (s : Status) : Type 0 where
  pub tokens : List Token
  pub place : ℕ
  pub lexed : Lexes bytes tokens
  pub fault : IsFirstFault Interpretation bytes tokens place
  pub status_is : s ≡ status.Syntax name place

-- the bytes spell no interpretation
abbrev pub IsUnspelled : List ℕ → List ℕ → Status → Type 0
IsUnspelled name bytes s = IsLexRefusal name bytes s ⊎ IsSyntaxRefusal name bytes s

-- the interpretation gives no structure
pub record GivesNone (sig : Signature) (file : File) (s : Status) : Type 0 where
  pub error : InterpError
  pub refused : interpretation_of (classical_signature_of sig) file ≡ Err error
  pub status_is : s ≡ status_of_interpretation error
