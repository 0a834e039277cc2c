use Rattle.std.proofs.Common.{◌≡◌, true}
use Rattle.nxf_tree.specs.Counting.{all_below, implies}
use Rattle.fin_struct.specs.KripkeTables.{related_in}
use Rattle.frames.proofs.relations.reaches_what.Given as goal

abbrev pub invariant-loop-to : goal.invariant-loop-to
invariant-loop-to l = all_below l.to (λ u. implies (related_in l.kripke l.index l.other u) (related_in l.kripke l.index l.from u)) ≡ true
