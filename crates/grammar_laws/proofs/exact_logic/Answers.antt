use Rattle.grammar_laws.proofs.ExactLogic.{logic_found, logic_sound}
use Rattle.grammar_laws.proofs.exact_logic.Goals as goal

pub returns-clause-found : goal.returns-clause-found
returns-clause-found c = λ left xs rest l d. logic_found d

pub returns-clause-sound : goal.returns-clause-sound
returns-clause-sound c = λ left xs rest l h. logic_sound left xs l rest h
