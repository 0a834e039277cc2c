use Rattle.std.proofs.Common.{◌≡◌, true}
use Rattle.std.specs.Prelude.{◌&&◌}
use Rattle.nxf_tree.specs.Counting.{all_below, any_below, implies}
use Rattle.fin_struct.specs.KripkeTables.{related_in}
use Rattle.frames.proofs.relations.meets_each.Given as goal

abbrev pub invariant-loop-to : goal.invariant-loop-to
invariant-loop-to l = all_below l.to (λ u. implies (related_in l.kripke l.index l.from u) (any_below l.kripke.worlds (λ x. related_in l.kripke l.index l.other x && related_in l.kripke l.index u x))) ≡ true
