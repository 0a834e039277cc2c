use Rattle.std.proofs.Common.{ap, sym, ◌∙◌}
use Rattle.nxf_tree.specs.Counting.{has}
use Rattle.nxf_tree.specs.SpecificationWords.{same_scheme}
use Rattle.logic_spec.proofs.ModalWords.{has_any}
use Rattle.logic_spec.proofs.words.asks.Goals as goal

pub returns : goal.returns
returns c = c.has_scheme.ensures ∙ sym (has_any same_scheme c.args.scheme c.schemes_of_word.result.now) ∙ ap (λ schemes. has same_scheme c.args.scheme schemes) c.schemes_of_word.ensures
