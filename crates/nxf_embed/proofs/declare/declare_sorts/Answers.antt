use Rattle.std.proofs.Common.{append_assoc}
use Rattle.std.proofs.lemmas.Grind.{take_at_read}
use Rattle.nxf_embed.proofs.Declaring.{sort_declarations-append}
use Rattle.nxf_embed.proofs.declare.declare_sorts.Goals as goal

pub loop-sort-preserved : goal.loop-sort-preserved
loop-sort-preserved c =
    let more = (take_at_read c.as_slice-sort-items.result.now c.loop-sort.sort-index c.sort-item.result c.loop-sort-test.true).1 in
    rw (more, ← c.sort-item.is, sort_declarations-append, ← append_assoc, ← c.loop-sort.invariant) c.in_ok-declare_sort.ensures
