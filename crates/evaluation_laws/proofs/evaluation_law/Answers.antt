use Rattle.evaluation_laws.proofs.Evaluation.{evaluates-sorted}
use Rattle.evaluation_laws.proofs.evaluation_law.Goals as goal

pub returns : goal.returns
returns c = evaluates-sorted
