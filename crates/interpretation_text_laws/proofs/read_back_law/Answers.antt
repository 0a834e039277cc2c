use Rattle.interpretation_text_laws.proofs.ReadBack.{read_back}
use Rattle.interpretation_text_laws.proofs.read_back_law.Goals as goal

pub returns : goal.returns
returns c = read_back
