use Rattle.structure_laws.proofs.FirstFaultLemmas.{one_first, frame_conditions-all, domain_conditions-all, term_conditions-all}
use Rattle.structure_laws.proofs.conditions_law.Goals as goal

pub returns : goal.returns
returns c = record { one = one_first; frames = frame_conditions-all; domains = domain_conditions-all; terms = term_conditions-all }
