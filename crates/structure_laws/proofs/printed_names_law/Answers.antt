use Rattle.structure_laws.proofs.ClassicalNames.{printed-names-law}
use Rattle.structure_laws.proofs.printed_names_law.Goals as goal

pub returns : goal.returns
returns c = printed-names-law
