use Rattle.answer_laws.proofs.OneLift.{lifts_printed}
use Rattle.answer_laws.proofs.printed_countermodel.Goals as goal

pub returns : goal.returns
returns c = lifts_printed
