use Rattle.condition_axioms.proofs.Rows.{value-is}
use Rattle.condition_axioms.proofs.designation.axiom.Goals as goal

pub returns : goal.returns
returns c =
    let guards = rw c.as_slice.ensures at c.in_ok-guards.ensures in
    let row = rw c.as_slice-2.ensures at c.in_ok-row.ensures in
    rw (value-is c.args.signature.now c.args.symbol.now c.args.sort.now c.requires.listed, ← c.in_ok-value.ensures, ← guards, ← c.in_ok-guarded.ensures, ← row) c.for_each_world.ensures
