use Rattle.std.proofs.Common.{add-one}
use Rattle.condition_axioms.proofs.Rows.{elements-next, at_world-append}
use Rattle.condition_axioms.proofs.term_axiom.row_terms.Goals as goal

pub loop-number-preserved : goal.loop-number-preserved
loop-number-preserved c =
    rw (add-one, elements-next c.loop-number.number, at_world-append, ← c.loop-number.invariant, ← c.in_ok-element.ensures) c.in_ok-push.ensures.pushed
