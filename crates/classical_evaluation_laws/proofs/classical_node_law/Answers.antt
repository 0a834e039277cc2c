use Rattle.structure_laws.proofs.ClassicalNames.{printed-names-law}
use Rattle.classical_evaluation_definitions.specs.ClassicalFaults.{model_of}
use Rattle.classical_evaluation_laws.proofs.NodeLemmas.{node-law}
use Rattle.classical_evaluation_laws.proofs.classical_node_law.Goals as goal

pub returns : goal.returns
returns c = λ csig view different is over n xs e f named long fits.
    node-law csig view (model_of csig view) (printed-names-law csig view different is over) over n xs e f named long fits
