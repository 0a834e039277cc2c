-- The structure whose text some tokens are, or some bytes, by the text of the definitions; and what reading them gives.
use Rattle.std.specs.Prelude.{◌≡◌, ℕ, List, Result, Ok, Err}
use Rattle.nxf_tree.specs.declared.tree.Signature.{Signature}
use Rattle.fin_struct.specs.KripkeTables.{KripkeTables, IsKripke, IsKripkeFor, kripke_structure}
use Rattle.plain_tokens.specs.PlainTokens.{Plain}
use Rattle.kripke_text_definitions.specs.declared.error.KripkeTextError.{KripkeTextError}
use Rattle.kripke_text_definitions.specs.declared.error.KripkeTextError.TheVariants.{Memory}
use Rattle.kripke_text_definitions.specs.KripkeText.{ktext, ktokens}

-- the tokens are those of the text of a structure for the signature
pub record IsTextOf (sig : Signature) (view : KripkeTables) (tokens : List Plain) : Type 0 where
  pub within : IsKripke view
  pub over : IsKripkeFor sig view
  pub tokens_are : tokens ≡ ktokens sig (kripke_structure view)

-- the bytes are the text of a structure for the signature
pub record IsPrintOf (sig : Signature) (view : KripkeTables) (bytes : List ℕ) : Type 0 where
  pub within : IsKripke view
  pub over : IsKripkeFor sig view
  pub bytes_are : bytes ≡ ktext sig (kripke_structure view)

-- this structure is read, unless there is no memory
abbrev pub GivesOnly : KripkeTables → Result KripkeTables KripkeTextError → Type 0
GivesOnly view (Ok made) = made ≡ view
GivesOnly view (Err e) = e ≡ Memory
