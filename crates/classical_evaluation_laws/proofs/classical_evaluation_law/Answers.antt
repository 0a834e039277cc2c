use Rattle.classical_evaluation_laws.proofs.Evaluation.{evaluates}
use Rattle.classical_evaluation_laws.proofs.classical_evaluation_law.Goals as goal

pub returns : goal.returns
returns c = evaluates
