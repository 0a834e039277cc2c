use Rattle.classical_evaluation_laws.proofs.GoodSignatures.{well-formed-law, sorted-law, file-law}
use Rattle.classical_evaluation_laws.proofs.classical_sorting_law.Goals as goal

pub returns-clause-well_formed : goal.returns-clause-well_formed
returns-clause-well_formed c = well-formed-law

pub returns-clause-sorted : goal.returns-clause-sorted
returns-clause-sorted c = sorted-law

pub returns-clause-file : goal.returns-clause-file
returns-clause-file c = file-law
