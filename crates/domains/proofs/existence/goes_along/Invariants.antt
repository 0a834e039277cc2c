use Rattle.std.proofs.Common.{◌≡◌, true}
use Rattle.nxf_tree.specs.Counting.{all_below}
use Rattle.domains.specs.steps.WorldTests.{steps_meet}
use Rattle.domains.proofs.existence.goes_along.Given as goal

abbrev pub invariant-loop-from : goal.invariant-loop-from
invariant-loop-from l = all_below l.from (λ w. steps_meet l.kripke l.regime l.sort l.index w) ≡ true
