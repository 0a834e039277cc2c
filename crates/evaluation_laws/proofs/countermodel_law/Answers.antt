use Rattle.evaluation_laws.proofs.WholeLemmas.{whole-conditions, countermodel-exactly}
use Rattle.evaluation_laws.proofs.countermodel_law.Goals as goal

pub returns : goal.returns
returns c = record { conditions = whole-conditions; countermodel = countermodel-exactly }
