use Rattle.embedding_laws.proofs.Whole.{transfer_theorem}
use Rattle.embedding_laws.proofs.transfer_theorem.Goals as goal

pub returns : goal.returns
returns c = transfer_theorem
