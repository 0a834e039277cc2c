use Rattle.kripke_text_laws.proofs.Whole.{prefix-law}
use Rattle.kripke_text_laws.proofs.prefix_law.Goals as goal

pub returns : goal.returns
returns c = prefix-law
