use Rattle.embedding_laws.proofs.Whole.{agreement}
use Rattle.embedding_laws.proofs.agreement_law.Goals as goal

pub returns : goal.returns
returns c = agreement
