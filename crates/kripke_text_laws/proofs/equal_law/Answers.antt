use Rattle.kripke_text_laws.proofs.Equal.{equal-law}
use Rattle.kripke_text_laws.proofs.equal_law.Goals as goal

pub returns : goal.returns
returns c = equal-law
