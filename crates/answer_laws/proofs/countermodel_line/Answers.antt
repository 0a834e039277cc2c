use Rattle.answer_laws.proofs.OneCheck.{countermodel_told}
use Rattle.answer_laws.proofs.countermodel_line.Goals as goal

pub returns : goal.returns
returns c = countermodel_told
