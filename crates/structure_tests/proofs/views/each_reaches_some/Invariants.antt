use Rattle.std.proofs.Common.{◌+◌, ◌*◌, ◌≤◌}
use Rattle.structure_tests.proofs.views.each_reaches_some.Given as goal

abbrev pub invariant-loop-from : goal.invariant-loop-from
invariant-loop-from g l = l.steps ≤ l.fn.steps + l.from * l.view.worlds
