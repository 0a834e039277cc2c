use Rattle.std.proofs.Common.{ap, ◌∙◌}
use Rattle.nxf_tree.specs.SpecificationWords.{system_named}
use Rattle.logic_spec.proofs.ModalWords.{of_system}
use Rattle.logic_spec.proofs.words.system_named.Goals as goal

pub returns : goal.returns
returns c = c.schemes_named.ensures ∙ of_system c.bytes.result.now ∙ ap system_named c.bytes.ensures
