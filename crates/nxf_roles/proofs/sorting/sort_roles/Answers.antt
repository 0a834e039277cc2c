use Rattle.std.proofs.Common.{sym, arith, take}
use Rattle.nxf_roles.proofs.Steps.{sorted_next}
use Rattle.nxf_roles.proofs.sorting.sort_roles.Goals as goal

pub loop-at-preserved : goal.loop-at-preserved
loop-at-preserved c =
    rw (c.in_ok-add-in-Ok.ensures, c.is_conjecture-conjectured.ensures)
    (sorted_next c.as_slice-statement-items.result.now c.loop-at.at c.loop-at.entries.items c.loop-at.conjectured c.statement-item.result c.in-Ok.part c.loop-at.invariant (omega arith)
    (rw (sym c.statement-item.is) (c.in-Ok.ensures.fault (take c.loop-at.at c.as_slice-statement-items.result.now) c.loop-at.invariant.has_conjecture))
    (rw (sym c.statement-item.is) c.in-Ok.ensures.part))
