use Rattle.structure_laws.proofs.CorrespondenceLemmas.{correspondence-law}
use Rattle.structure_laws.proofs.correspondence_law.Goals as goal

pub returns : goal.returns
returns c = correspondence-law
