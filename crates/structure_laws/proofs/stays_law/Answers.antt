use Rattle.structure_laws.proofs.StructureWritesLemmas.{stays-for, stays-kripke-for}
use Rattle.structure_laws.proofs.stays_law.Goals as goal

pub returns : goal.returns
returns c = record { classical = stays-for; kripke = stays-kripke-for }
