use Rattle.std.proofs.Common.{refl}
use Rattle.structure_laws.proofs.KripkeNames.{names-law, places-law}
use Rattle.kripke_evaluation_definitions.specs.FileConditions.{model_of}
use Rattle.evaluation_laws.proofs.NodeLemmas.{node-law}
use Rattle.evaluation_laws.proofs.node_law.Goals as goal

pub returns : goal.returns
returns c = λ sig view different is over n xs e w f named long here fits.
    node-law sig view (model_of sig view) (names-law sig view different is over) (places-law sig view is over) refl n xs e w f named long here fits
