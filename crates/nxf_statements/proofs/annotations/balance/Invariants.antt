use Rattle.std.proofs.Common.{◌≡◌, [], length}
use Rattle.syntax_definitions.specs.Annotations as spec
use Rattle.nxf_statements.proofs.annotations.balance.Given as goal

abbrev pub invariant-loop-cursor : goal.invariant-loop-cursor
invariant-loop-cursor l = spec.balance l.fn.cursor [] ≡ spec.balance l.cursor l.open

abbrev pub decreases-loop-cursor : goal.decreases-loop-cursor
decreases-loop-cursor l = length l.cursor
