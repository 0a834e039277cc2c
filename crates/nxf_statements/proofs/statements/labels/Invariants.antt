use Rattle.std.proofs.Common.{◌≡◌, ◌-◌, [], length}
use Rattle.syntax_definitions.specs.steps.ReadFormulas.{index_text}
use Rattle.syntax_definitions.specs.steps.ReadLists.{list_from}
use Rattle.nxf_statements.proofs.statements.labels.Given as goal

abbrev pub invariant-loop-turn : goal.invariant-loop-turn
invariant-loop-turn l = list_from index_text (length l.fn.cursor) [] l.fn.cursor ≡ list_from index_text (l._turn-end - l._turn) l.found l.cursor
