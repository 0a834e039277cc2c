use Rattle.std.proofs.Common.{◌+◌, ◌≤◌}
use Rattle.structure_tests.proofs.views.reaches_some.Given as goal

abbrev pub invariant-loop-to : goal.invariant-loop-to
invariant-loop-to g l = l.steps ≤ l.fn.steps + l.to
