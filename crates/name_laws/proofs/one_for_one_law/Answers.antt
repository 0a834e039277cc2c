use Rattle.name_laws.proofs.OneForOne.{one_for_one}
use Rattle.name_laws.proofs.one_for_one_law.Goals as goal

pub returns : goal.returns
returns c = one_for_one
