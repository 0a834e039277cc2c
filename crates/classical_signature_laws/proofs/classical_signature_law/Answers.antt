use Rattle.classical_signature_laws.proofs.ClassicalSorts.{has-sorts, has-arguments, classical-names}
use Rattle.classical_signature_laws.proofs.classical_signature_law.Goals as goal

pub returns : goal.returns
returns c = record { sorts = has-sorts; arguments = has-arguments; names = classical-names }
