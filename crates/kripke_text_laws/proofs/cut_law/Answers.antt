use Rattle.kripke_text_laws.proofs.Cuts.{cut-law}
use Rattle.kripke_text_laws.proofs.cut_law.Goals as goal

pub returns : goal.returns
returns c = cut-law
