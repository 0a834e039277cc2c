-- Errors that are passed on.
use Rattle.std.proofs.Common.{Result, Ok, Err}
use Rattle.std.specs.Prelude.{IfErr, IsErr, IsErrAnd}

-- what holds of the error that `?` gives
pub err_passed : {T E : Type 0} → (r : Result T E) (Q P : E → Type 0) → ((y : E) → Q y → P y) → IsErr r × IsErrAnd r Q → IfErr r P
err_passed (Ok x) Q P f h = tt
err_passed (Err y) Q P f h = f y h.1
