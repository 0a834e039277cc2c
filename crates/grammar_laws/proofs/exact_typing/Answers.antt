use Rattle.grammar_laws.proofs.ExactTypings.{typing_found, typing_sound}
use Rattle.grammar_laws.proofs.exact_typing.Goals as goal

pub returns-clause-found : goal.returns-clause-found
returns-clause-found c = λ most left xs rest t d h. typing_found d h

pub returns-clause-sound : goal.returns-clause-sound
returns-clause-sound c = λ most left xs rest t h. typing_sound most left xs t rest h
