use Rattle.std.proofs.Common.{◌≡◌, ◌+◌, ◌-◌, ◌*◌, [], length}
use Rattle.syntax_definitions.specs.steps.ReadLists.{list_from}
use Rattle.syntax_definitions.specs.steps.ReadLogic.{item_of, inner_entry}
use Rattle.nxf_statements.proofs.logics.+value.Given as goal

abbrev pub decreases-entry : goal.decreases-entry
decreases-entry l = 7 * l.left + 6

abbrev pub decreases-value : goal.decreases-value
decreases-value l = 7 * l.left + 5

abbrev pub decreases-value_from : goal.decreases-value_from
decreases-value_from l = 7 * l.left + 4

abbrev pub decreases-bracketed : goal.decreases-bracketed
decreases-bracketed l = 7 * l.left + 3

abbrev pub decreases-items : goal.decreases-items
decreases-items l = 7 * l.left + 2

abbrev pub decreases-item : goal.decreases-item
decreases-item l = 7 * l.left + 1

abbrev pub decreases-inner_entry : goal.decreases-inner_entry
decreases-inner_entry l = 7 * l.left + 0

abbrev pub invariant-items-loop-turn : goal.invariant-items-loop-turn
invariant-items-loop-turn l = list_from (item_of (inner_entry l.left)) (length l.fn.cursor) [] l.fn.cursor ≡ list_from (item_of (inner_entry l.left)) (l._turn-end - l._turn) l.found l.cursor
