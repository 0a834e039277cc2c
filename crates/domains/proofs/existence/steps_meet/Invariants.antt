use Rattle.std.proofs.Common.{◌≡◌, true}
use Rattle.nxf_tree.specs.Counting.{all_below, implies}
use Rattle.fin_struct.specs.KripkeTables.{related_in}
use Rattle.domains.specs.steps.WorldTests.{meets_step}
use Rattle.domains.proofs.existence.steps_meet.Given as goal

abbrev pub invariant-loop-to : goal.invariant-loop-to
invariant-loop-to l = all_below l.to (λ v. implies (related_in l.kripke l.index l.from v) (meets_step l.kripke l.regime l.sort l.from v)) ≡ true
