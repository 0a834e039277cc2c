use Rattle.evaluation_laws.proofs.PartsLemmas.{parts-law}
use Rattle.evaluation_laws.proofs.parts_law.Goals as goal

pub returns : goal.returns
returns c = parts-law
