use Rattle.std.proofs.Common.{ap, ◌∙◌, sym}
use Rattle.nxf_tree.specs.Shapes.{Pair_is, Modal_is}
use Rattle.interpretation_definitions.specs.Parts.{negated_part}
use Rattle.interpretation_parts.specs.steps.Items.{leaf}
use Rattle.interpretation_parts.proofs.ReadingLemmas.{leaf_of_Not, leaf_of_Quant}
use Rattle.interpretation_parts.proofs.reading.single.Goals as goal

pub returns-in-Pair : goal.returns-in-Pair
returns-in-Pair c = sym (ap leaf (c.in-Pair.is ∙ Pair_is _ _ _))

pub returns-in-Modal : goal.returns-in-Modal
returns-in-Modal c = sym (ap leaf (c.in-Modal.is ∙ Modal_is _ _ _))

pub returns-in-Not : goal.returns-in-Not
returns-in-Not c = c.negated.ensures ∙ ap negated_part c.get-in-Not.ensures ∙ sym (ap leaf c.in-Not.is ∙ leaf_of_Not c.in-Not.part)

pub returns-in-Quant : goal.returns-in-Quant
returns-in-Quant c = rw (c.in-Quant.is, leaf_of_Quant, ← c.get-in-Quant.ensures) c.quantified.ensures
