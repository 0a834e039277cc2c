use Rattle.structure_laws.proofs.KripkeNames.{places-law}
use Rattle.structure_laws.proofs.kripke_places_law.Goals as goal

pub returns : goal.returns
returns c = places-law
