use Rattle.embedding_laws.proofs.Whole.{embedding_theorem}
use Rattle.embedding_laws.proofs.embedding_theorem.Goals as goal

pub returns : goal.returns
returns c = embedding_theorem
