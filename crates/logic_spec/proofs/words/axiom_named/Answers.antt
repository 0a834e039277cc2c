use Rattle.std.proofs.Common.{ap, ◌∙◌}
use Rattle.nxf_tree.specs.SpecificationWords.{axiom_named}
use Rattle.logic_spec.proofs.ModalWords.{of_axiom}
use Rattle.logic_spec.proofs.words.axiom_named.Goals as goal

pub returns : goal.returns
returns c = c.schemes_named.ensures ∙ of_axiom c.bytes.result.now ∙ ap axiom_named c.bytes.ensures
