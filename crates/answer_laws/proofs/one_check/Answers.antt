use Rattle.answer_laws.proofs.OneCheck.{exactly_one_check}
use Rattle.answer_laws.proofs.one_check.Goals as goal

pub returns : goal.returns
returns c = exactly_one_check
