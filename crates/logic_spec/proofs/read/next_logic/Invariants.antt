use Rattle.std.proofs.Common.{◌≡◌, ◌+◌, drop}
use Rattle.nxf_tree.specs.Specification.{logic_statements}
use Rattle.logic_spec.proofs.read.next_logic.Given as goal

abbrev pub invariant-loop-at : goal.invariant-loop-at
invariant-loop-at l = logic_statements (l.from + 1) (drop l.from l.statements) ≡ logic_statements (l.at + 1) (drop l.at l.statements)
