-- What a function that goes on from one value to another ensures.
use Rattle.std.specs.Prelude.{◌≡◌, ◌≢◌, Option, Some, None, Result, Ok, Err}
use Rattle.nxf_terminals.specs.declared.error.GrammarError.{GrammarError}
use Rattle.nxf_terminals.specs.declared.error.GrammarError.TheVariants.{Memory}

abbrev pub Moves : {A : Type 0} → Option A → Result (Unit {0}) GrammarError → A → Type 0
Moves outcome (Ok _) new = outcome ≡ Some new
Moves outcome (Err e) new = e ≢ Memory → outcome ≡ None
