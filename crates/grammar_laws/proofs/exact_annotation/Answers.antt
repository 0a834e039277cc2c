use Rattle.grammar_laws.proofs.ExactAnnotations.{annotation_found, annotation_sound}
use Rattle.grammar_laws.proofs.exact_annotation.Goals as goal

pub returns-clause-found : goal.returns-clause-found
returns-clause-found c = λ xs rest d h. annotation_found d h

pub returns-clause-sound : goal.returns-clause-sound
returns-clause-sound c = λ xs rest h. (annotation_sound xs tt rest h).is
