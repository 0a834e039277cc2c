use Rattle.evaluation_laws.proofs.DepthLemmas.{depth-same}
use Rattle.evaluation_laws.proofs.depth_law.Goals as goal

pub returns : goal.returns
returns c = depth-same
