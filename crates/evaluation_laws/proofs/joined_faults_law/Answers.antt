use Rattle.evaluation_laws.proofs.WholeLemmas.{joined-faults}
use Rattle.evaluation_laws.proofs.joined_faults_law.Goals as goal

pub returns : goal.returns
returns c = joined-faults
