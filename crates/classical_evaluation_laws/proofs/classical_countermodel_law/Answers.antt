use Rattle.classical_evaluation_laws.proofs.FaultLemmas.{countermodel-law, roles-law}
use Rattle.classical_evaluation_laws.proofs.classical_countermodel_law.Goals as goal

pub returns-clause-countermodel : goal.returns-clause-countermodel
returns-clause-countermodel c = countermodel-law

pub returns-clause-roles : goal.returns-clause-roles
returns-clause-roles c = roles-law
