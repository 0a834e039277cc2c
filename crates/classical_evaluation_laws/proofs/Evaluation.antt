-- A numbered classical formula that stands for a closed and well-sorted one says what that one says.
use Rattle.std.proofs.Common.{[], refl}
use Rattle.classical_evaluation_laws.specs.ClassicalLaws.{ClassicalEvaluationLaw}
use Rattle.classical_evaluation_definitions.specs.ClassicalFaults.{model_of}
use Rattle.structure_laws.proofs.ClassicalNames.{printed-names-law}
use Rattle.classical_evaluation_laws.proofs.NodeLemmas.{node-law}
use Rattle.classical_evaluation_laws.proofs.FitsLemmas.{formula-fits}

pub evaluates : ClassicalEvaluationLaw
evaluates csig view wf is over n f named sorted =
    let fits = formula-fits csig view wf is over n [] [] [] f named sorted refl tt in
    record { fits = fits; same = node-law csig view (model_of csig view) (printed-names-law csig view wf.different is over) over n [] [] f named refl fits }
