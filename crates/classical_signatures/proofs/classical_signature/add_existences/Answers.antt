use Rattle.std.proofs.Common.{append_assoc}
use Rattle.classical_signatures.proofs.TableSteps.{existence-next}
use Rattle.classical_signatures.proofs.classical_signature.add_existences.Goals as goal

pub loop-place-preserved : goal.loop-place-preserved
loop-place-preserved c =
    let more = existence-next c.as_slice-sort-items.result.now c.loop-place.place c.sort-item.result c.loop-place-test.true in
    rw (more, ← c.sort-item.is, ← append_assoc, ← c.loop-place.invariant) c.in_ok-add_existence.ensures
