use Rattle.std.proofs.Common.{append_assoc}
use Rattle.std.proofs.lemmas.List.{map_more}
use Rattle.nxf_tree.specs.declared.tree.IndexEntry.{IndexEntry}
use Rattle.nxf_tree.specs.Axioms.{were_there_axiom}
use Rattle.condition_axioms.proofs.domains.add_were_there.Goals as goal

pub loop-index-preserved : goal.loop-index-preserved
loop-index-preserved c =
    let more = map_more (λ (index : IndexEntry). were_there_axiom c.args.sort.now index.name) c.as_slice-index-items.result.now c.loop-index.index-index c.index-item.result c.loop-index-test.true in
    rw (more, ← c.index-item.is, ← append_assoc, ← c.loop-index.invariant, ← c.in_ok-were_there.ensures) c.in_ok-push.ensures.pushed
