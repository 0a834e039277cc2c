use Rattle.answer_laws.proofs.OneInterpretation.{exactly_one_interpretation}
use Rattle.answer_laws.proofs.one_interpretation.Goals as goal

pub returns : goal.returns
returns c = exactly_one_interpretation
