use Rattle.std.proofs.Common.{arith}
use Rattle.kripke_text.proofs.SubjectPlaces.{relations_next}
use Rattle.kripke_text.proofs.subject.add_relations.Goals as goal

pub loop-place-preserved : goal.loop-place-preserved
loop-place-preserved c = relations_next c.args.indexes.now c.loop-place.place c.loop-place.made c.push.new.self _ (omega (arith, c.len-place-end.ensures)) c.in_ok-push.ensures.pushed c.loop-place.invariant
