use Rattle.structure_laws.proofs.KripkeNames.{names-law}
use Rattle.structure_laws.proofs.kripke_names_law.Goals as goal

pub returns : goal.returns
returns c = names-law
