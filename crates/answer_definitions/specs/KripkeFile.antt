-- What the bytes of a file are read as that has the text of a Kripke structure.
use Rattle.std.specs.Prelude.{◌≡◌, ◌≢◌, ℕ, List, Result, Ok, Err}
use Rattle.nxf_base.specs.declared.status.Status.{Status}
use Rattle.nxf_base.specs.declared.status.Status.TheVariants as status
use Rattle.tptp_lex.specs.declared.token.Token.{Token}
use Rattle.tptp_lex.specs.Lexing.{Lexes, IsBadPlace}
use Rattle.nxf_tree.specs.declared.tree.Signature.{Signature}
use Rattle.nxf_tree.specs.Structures.{KripkeStructure, IsOver}
use Rattle.plain_tokens.specs.PlainTokens.{plains_of}
use Rattle.kripke_text_definitions.specs.declared.error.KripkeTextError.{KripkeTextError}
use Rattle.kripke_text_definitions.specs.declared.error.KripkeTextError.TheVariants as text
use Rattle.kripke_text_definitions.specs.KripkeText.{ktokens}
use Rattle.kripke_text_definitions.specs.Reading.{AreFew, Explains}

-- the bytes have the tokens of the text of this structure over the signature, whatever stands between them
pub record SpellsStructure (sig : Signature) (bytes : List ℕ) (K : KripkeStructure) : Type 0 where
  pub tokens : List Token
  pub lexed : Lexes bytes tokens
  pub over : IsOver sig K
  pub tokens_are : plains_of bytes tokens ≡ ktokens sig K

-- the status of a text that is refused
abbrev pub status_of_text : KripkeTextError → Status
status_of_text (text.Form k) = status.KripkeText k
status_of_text (text.TooManyWorlds n) = status.TooManyWorlds n
status_of_text (text.TooBig c) = status.TooBig c
status_of_text text.Memory = status.Memory

-- What the file with this name and these bytes is read as: no lexemes make it up, from an offset on; or its tokens are refused;
-- or they are those of a structure within the limits.
pub data ReadsStructure (sig : Signature) (name bytes : List ℕ) : Result KripkeStructure Status → Type 0 where
  not_lexed : (at : ℕ) → IsBadPlace bytes at → ReadsStructure sig name bytes (Err (status.Lex name at))
  not_text : (tokens : List Token) (e : KripkeTextError) → Lexes bytes tokens → Explains sig (plains_of bytes tokens) e → e ≢ text.Memory
      → ReadsStructure sig name bytes (Err (status_of_text e))
  read : (K : KripkeStructure) → SpellsStructure sig bytes K → AreFew sig K.worlds K.sizes → ReadsStructure sig name bytes (Ok K)
