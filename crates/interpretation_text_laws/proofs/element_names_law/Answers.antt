use Rattle.interpretation_text_laws.proofs.Apart.{elements_apart}
use Rattle.interpretation_text_laws.proofs.element_names_law.Goals as goal

pub returns : goal.returns
returns c = elements_apart
