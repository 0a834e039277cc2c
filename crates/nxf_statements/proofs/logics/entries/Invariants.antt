use Rattle.std.proofs.Common.{◌≡◌, ◌-◌, [], length}
use Rattle.syntax_definitions.specs.steps.ReadLists.{list_from}
use Rattle.syntax_definitions.specs.steps.ReadLogic.{entry_with, value_of}
use Rattle.nxf_statements.proofs.logics.entries.Given as goal

abbrev pub invariant-loop-turn : goal.invariant-loop-turn
invariant-loop-turn l = list_from (entry_with (value_of l.left)) (length l.fn.cursor) [] l.fn.cursor ≡ list_from (entry_with (value_of l.left)) (l._turn-end - l._turn) l.found l.cursor
