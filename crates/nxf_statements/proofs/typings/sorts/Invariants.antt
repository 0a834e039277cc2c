use Rattle.std.proofs.Common.{◌≡◌, ◌-◌, []}
use Rattle.syntax_definitions.specs.steps.ReadTypings.{sorts_from}
use Rattle.nxf_statements.proofs.typings.sorts.Given as goal

abbrev pub invariant-loop-turn : goal.invariant-loop-turn
invariant-loop-turn l = sorts_from l.count [] l.fn.cursor ≡ sorts_from (l.count - l._turn) l.found l.cursor
