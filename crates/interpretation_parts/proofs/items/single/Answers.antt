use Rattle.interpretation_parts.proofs.ItemLemmas.{one_part, items_in-last}
use Rattle.interpretation_parts.proofs.items.single.Goals as goal

pub returns : goal.returns
returns c = rw (c.in_ok-put.ensures, one_part c.args.formula.now c.requires) (items_in-last _ _)
