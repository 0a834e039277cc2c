use Rattle.embedding_laws.proofs.Whole.{equal_worlds}
use Rattle.embedding_laws.proofs.equal_worlds_law.Goals as goal

pub returns : goal.returns
returns c = equal_worlds
