-- Why bytes have no tokens.
use Rattle.std.specs.Prelude.{◌≡◌, ℕ, List}
use Rattle.nxf_base.specs.declared.status.Status.{Status}
use Rattle.nxf_base.specs.declared.status.Status.TheVariants as status
use Rattle.tptp_lex.specs.Lexing.{IsBadPlace}

-- no lexemes make up the file of this name, from an offset on
pub record IsLexRefusal (name bytes : List ℕ) (s : Status) : Type 0 where
  pub at : ℕ
  pub bad : IsBadPlace bytes at
  pub status_is : s ≡ status.Lex name at
