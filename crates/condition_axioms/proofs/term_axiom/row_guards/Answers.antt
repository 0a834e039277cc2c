use Rattle.nxf_tree.specs.Signature.{sort_at}
use Rattle.condition_axioms.proofs.Rows.{guards-next}
use Rattle.condition_axioms.proofs.term_axiom.row_guards.Goals as goal

pub loop-place-preserved : goal.loop-place-preserved
loop-place-preserved c =
    let sig = c.args.signature.now in
    rw (guards-next sig (sort_at sig.sorts) c.args.sorts.now c.loop-place.place c.loop-place-test.true, ← c.loop-place.invariant) c.in_ok-add_guard.ensures
