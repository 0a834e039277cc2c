use Rattle.fin_struct.proofs.CallerLemmas.{structure-law}
use Rattle.structure_laws.proofs.EqualStructures.{structures-determine}
use Rattle.structure_laws.proofs.structure_law.Goals as goal

pub returns : goal.returns
returns c = record { over = structure-law; determine = structures-determine }
