use Rattle.answer_laws.proofs.OneLift.{lift_told}
use Rattle.answer_laws.proofs.lifted_text.Goals as goal

pub returns : goal.returns
returns c = lift_told
