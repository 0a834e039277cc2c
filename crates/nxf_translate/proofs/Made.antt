-- What holds of the value that a call makes.
use Rattle.std.proofs.Common.{◌≡◌, sym, subst}
use Rattle.std.specs.Prelude.{Result, IfOk}
use Rattle.std.proofs.lemmas.Result.{IfOk-weaker}

pub made : {X Y : Type 0} (r : Result X Y) (g : X) (P : X → Type 0) → IfOk r (λ f. f ≡ g) → P g → IfOk r P
made r g P h p = IfOk-weaker r (λ f. f ≡ g) P (λ f e. subst P (sym e) p) h
