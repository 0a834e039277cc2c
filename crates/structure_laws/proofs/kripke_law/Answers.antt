use Rattle.structure_laws.proofs.KripkeLists.{kripke-law, kripkes-determine, own-tables}
use Rattle.structure_laws.proofs.kripke_law.Goals as goal

pub returns : goal.returns
returns c = record { over = kripke-law; determine = kripkes-determine; apart = own-tables }
