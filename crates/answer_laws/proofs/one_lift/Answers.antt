use Rattle.answer_laws.proofs.OneLift.{exactly_one_lift}
use Rattle.answer_laws.proofs.one_lift.Goals as goal

pub returns : goal.returns
returns c = exactly_one_lift
