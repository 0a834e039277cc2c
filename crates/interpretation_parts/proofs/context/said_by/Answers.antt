use Rattle.std.proofs.Common.{ap, ◌∙◌, sym, take}
use Rattle.std.proofs.lemmas.Grind.{take_at_read}
use Rattle.indexmap.specs.IndexSet.{insert_all}
use Rattle.nxf_tree.specs.Names.{same_text}
use Rattle.interpretation_definitions.specs.Context.{and_listings, listings_of, declared_by}
use Rattle.interpretation_parts.specs.steps.Readings.{reading_part}
use Rattle.interpretation_parts.proofs.ItemLemmas.{listed-next, declared-next}
use Rattle.interpretation_parts.proofs.context.said_by.Goals as goal

pub loop-item-preserved : goal.loop-item-preserved
loop-item-preserved c =
    let sorts = c.args.known.now.over.now.sorts in
    let i = c.loop-item.item-index in
    let items = take i c.args.items.now in
    let more = (take_at_read c.args.items.now i c.item-item.result c.loop-item-test.true).1 in
    let part = reading_part c.in_ok-reading.reading in
    record {
      listed = rw (more, ← c.item-item.is) (c.in_ok-note_closure.ensures.elements ∙ ap (λ es. and_listings es (listings_of sorts part)) c.loop-item.invariant.listed ∙ sym (listed-next sorts items c.item-item.result _ c.in_ok-reading.ensures));
      counted = c.in_ok-note_closure.ensures.counted;
      count = c.note_closure.ensures.length ∙ c.loop-item.invariant.count;
      declared = rw (more, ← c.item-item.is) (c.in_ok-note_declaration.ensures ∙ ap (λ ks. insert_all same_text ks (declared_by part)) c.loop-item.invariant.declared ∙ sym (declared-next items c.item-item.result _ c.in_ok-reading.ensures));
    }
