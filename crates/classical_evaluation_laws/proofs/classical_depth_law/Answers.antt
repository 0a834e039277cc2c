use Rattle.classical_evaluation_laws.proofs.DepthLemmas.{depth-same}
use Rattle.classical_evaluation_laws.proofs.classical_depth_law.Goals as goal

pub returns : goal.returns
returns c = depth-same
