-- What the bytes of a file are read as that has an interpretation.
use Rattle.std.specs.Prelude.{◌≡◌, ℕ, List, Result, Ok, Err}
use Rattle.nxf_base.specs.declared.status.Status.{Status}
use Rattle.nxf_base.specs.declared.status.Status.TheVariants as status
use Rattle.tptp_lex.specs.declared.token.Token.{Token}
use Rattle.tptp_lex.specs.Lexing.{Lexes, IsBadPlace}
use Rattle.nxf_tree.specs.declared.profile.Profile.TheVariants.{Interpretation}
use Rattle.nxf_tree.specs.declared.tree.File.{File}
use Rattle.nxf_tree.specs.declared.tree.Signature.{Signature}
use Rattle.nxf_tree.specs.ClassicalSignature.{classical_signature_of}
use Rattle.nxf_tree.specs.Structures.{KripkeStructure, ClassicalStructure, IsOver, Corresponds}
use Rattle.syntax_definitions.specs.Spells.{Spells, IsFirstFault}
use Rattle.fin_struct.specs.StructureTables.{StructureTables, classical_structure}
use Rattle.interpretation_definitions.specs.Interpretation.{interpretation_of}
use Rattle.interpretation_definitions.specs.declared.error.InterpError.{InterpError}
use Rattle.interpretation_definitions.specs.declared.error.InterpError.TheVariants as error

-- the bytes spell an interpretation that gives this structure over the classical signature
pub record GivesClassical (sig : Signature) (bytes : List ℕ) (S : ClassicalStructure) : Type 0 where
  pub file : File
  pub spells : Spells Interpretation bytes file
  pub tables : StructureTables
  pub given : interpretation_of (classical_signature_of sig) file ≡ Ok tables
  pub structure_is : S ≡ classical_structure tables

-- they spell one that gives the structure to which this Kripke structure over the signature corresponds
pub record GivesStructure (sig : Signature) (bytes : List ℕ) (K : KripkeStructure) : Type 0 where
  pub S : ClassicalStructure
  pub gives : GivesClassical sig bytes S
  pub over : IsOver sig K
  pub corresponds : Corresponds K S

-- the status of an interpretation that gives no structure
abbrev pub status_of_interpretation : InterpError → Status
status_of_interpretation (error.Kind kind) = status.Interp kind
status_of_interpretation (error.TooManyWorlds n) = status.TooManyWorlds n
status_of_interpretation (error.TooBig c) = status.TooBig c
status_of_interpretation error.Memory = status.Memory

-- What the file with this name and these bytes is read as: no lexemes make it up, from an offset on; or no rule reads one of its
-- statements, of which statement k is the first; or what it spells gives no structure; or it gives one.
pub data ReadsInterpretation (sig : Signature) (name bytes : List ℕ) : Result KripkeStructure Status → Type 0 where
  not_lexed : (at : ℕ) → IsBadPlace bytes at → ReadsInterpretation sig name bytes (Err (status.Lex name at))
  not_read : (tokens : List Token) (k : ℕ) → Lexes bytes tokens → IsFirstFault Interpretation bytes tokens k
      → ReadsInterpretation sig name bytes (Err (status.Syntax name k))
  not_given : (file : File) (e : InterpError) → Spells Interpretation bytes file → interpretation_of (classical_signature_of sig) file ≡ Err e
      → ReadsInterpretation sig name bytes (Err (status_of_interpretation e))
  given : (K : KripkeStructure) → GivesStructure sig bytes K → ReadsInterpretation sig name bytes (Ok K)
