use Rattle.std.proofs.Common.{◌≡◌, ◌+◌, ◌-◌, ◌*◌, []}
use Rattle.syntax_definitions.specs.steps.ReadFormulas.{term, terms_from}
use Rattle.nxf_formulas.proofs.parser.+term.Given as goal

abbrev pub decreases-term : goal.decreases-term
decreases-term l = 3 * l.left + 2

abbrev pub decreases-arguments : goal.decreases-arguments
decreases-arguments l = 3 * l.left + 1

abbrev pub decreases-terms : goal.decreases-terms
decreases-terms l = 3 * l.left + 3

abbrev pub invariant-terms-loop-turn : goal.invariant-terms-loop-turn
invariant-terms-loop-turn l = terms_from l.most (term l.most l.left) l.count [] l.fn.cursor ≡ terms_from l.most (term l.most l.left) (l.count - l._turn) l.found l.cursor
