use Rattle.interpretation_parts.specs.steps.Items.{parts_in_items}
use Rattle.interp_reader.proofs.ReadLemmas.{frame_sizes}
use Rattle.interp_reader.proofs.reader.frame_of.Goals as goal

pub returns-clause-sizes : goal.returns-clause-sizes
returns-clause-sizes c =
    let said = c.in_ok-elements in
    frame_sizes c.args.over.now c.in_ok-known.known.over.now (parts_in_items c.args.items.now) said.field-0.elements.entries said.field-0.counts.items c.as_slice.result.now c.in_ok-sizes.sizes
    c.in_ok-known.ensures said.ensures.elements said.ensures.length said.ensures.counted
    c.as_slice.ensures.value c.in_ok-sizes.ensures
