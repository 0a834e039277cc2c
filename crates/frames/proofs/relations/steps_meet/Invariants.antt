use Rattle.std.proofs.Common.{◌≡◌, true}
use Rattle.nxf_tree.specs.Counting.{all_below, implies}
use Rattle.fin_struct.specs.KripkeTables.{related_in}
use Rattle.frames.specs.steps.WorldTests.{meets_step}
use Rattle.frames.proofs.relations.steps_meet.Given as goal

abbrev pub invariant-loop-to : goal.invariant-loop-to
invariant-loop-to l = all_below l.to (λ v. implies (related_in l.kripke l.index l.from v) (meets_step l.scheme l.kripke.worlds (related_in l.kripke l.index) l.from v)) ≡ true
