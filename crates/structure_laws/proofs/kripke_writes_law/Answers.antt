use Rattle.structure_laws.proofs.KripkeWritesLemmas.{pair-law, existence-law, row-law}
use Rattle.structure_laws.proofs.kripke_writes_law.Goals as goal

pub returns : goal.returns
returns c = record { pair = pair-law; existence = existence-law; row = row-law }
