use Rattle.std.proofs.Common.{ap, ◌∙◌}
use Rattle.nxf_tree.specs.Shapes.{Not_is, Pair_is, Quant_is, Modal_is}
use Rattle.interpretation_parts.specs.steps.Items.{conjuncts}
use Rattle.interpretation_parts.proofs.ItemLemmas.{parts_of_And}
use Rattle.interpretation_parts.proofs.items.+leaves.Goals as goal

pub leaves-single-requires-in-Not : goal.leaves-single-requires-in-Not
leaves-single-requires-in-Not t c = ap conjuncts (c.in-Not.is ∙ Not_is _)

pub leaves-single-requires-in-Pair : goal.leaves-single-requires-in-Pair
leaves-single-requires-in-Pair t c = ap conjuncts (c.in-Pair.is ∙ Pair_is _ _ _)

pub leaves-single-requires-in-Quant : goal.leaves-single-requires-in-Quant
leaves-single-requires-in-Quant t c = ap conjuncts (c.in-Quant.is ∙ Quant_is _ _ _ _)

pub leaves-single-requires-in-Modal : goal.leaves-single-requires-in-Modal
leaves-single-requires-in-Modal t c = ap conjuncts (c.in-Modal.is ∙ Modal_is _ _ _)

pub leaves-returns-in-And : goal.leaves-returns-in-And
leaves-returns-in-And t c = rw (c.in-And.is, parts_of_And) c.all_leaves.ensures
