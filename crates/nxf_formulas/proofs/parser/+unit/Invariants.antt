use Rattle.std.proofs.Common.{◌≡◌, ◌+◌, ◌-◌, ◌*◌}
use Rattle.syntax_definitions.specs.steps.ReadFormulas.{unit, units, units_from}
use Rattle.nxf_formulas.proofs.parser.+unit.Given as goal

abbrev pub decreases-whole : goal.decreases-whole
decreases-whole l = 10 * l.left + 9

abbrev pub decreases-chain : goal.decreases-chain
decreases-chain l = 10 * l.left + 8

abbrev pub decreases-pair : goal.decreases-pair
decreases-pair l = 10 * l.left + 7

abbrev pub decreases-units : goal.decreases-units
decreases-units l = 10 * l.left + 7

abbrev pub decreases-unit : goal.decreases-unit
decreases-unit l = 10 * l.left + 6

abbrev pub decreases-unit_from : goal.decreases-unit_from
decreases-unit_from l = 10 * l.left + 5

abbrev pub decreases-group : goal.decreases-group
decreases-group l = 10 * l.left + 3

abbrev pub decreases-inner : goal.decreases-inner
decreases-inner l = 10 * l.left + 3

abbrev pub decreases-negation : goal.decreases-negation
decreases-negation l = 10 * l.left + 4

abbrev pub decreases-plain_modal : goal.decreases-plain_modal
decreases-plain_modal l = 10 * l.left + 4

abbrev pub decreases-quantified : goal.decreases-quantified
decreases-quantified l = 10 * l.left + 4

abbrev pub decreases-scope : goal.decreases-scope
decreases-scope l = 10 * l.left + 9

abbrev pub decreases-modal_of : goal.decreases-modal_of
decreases-modal_of l = 10 * l.left + 4

abbrev pub decreases-long : goal.decreases-long
decreases-long l = 10 * l.left + 4

abbrev pub invariant-units-loop-turn : goal.invariant-units-loop-turn
invariant-units-loop-turn l = units (unit l.most l.left) l.joint l.fn.first l.fn.cursor ≡ units_from (unit l.most l.left) l.joint (l._turn-end - l._turn) l.found l.cursor
