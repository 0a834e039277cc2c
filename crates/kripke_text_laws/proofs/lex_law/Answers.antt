use Rattle.kripke_text_laws.proofs.WholeText.{lex-law}
use Rattle.kripke_text_laws.proofs.lex_law.Goals as goal

pub returns : goal.returns
returns c = lex-law
