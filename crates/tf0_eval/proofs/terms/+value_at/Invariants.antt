use Rattle.std.proofs.Common.{◌≡◌, ◌+◌, ◌*◌, take, map}
use Rattle.formula_cells.specs.Stored.{term_at}
use Rattle.classical_evaluation_definitions.specs.ClassicalMeaning.{node_value}
use Rattle.tf0_eval.proofs.terms.+value_at.Given as goal

abbrev pub decreases-value_at : goal.decreases-value_at
decreases-value_at g l = 2 * l.at + 1

abbrev pub decreases-fill : goal.decreases-fill
decreases-fill g l = 2 * l.at

-- the values of the arguments so far
abbrev pub invariant-fill-loop-i : goal.invariant-fill-loop-i
invariant-fill-loop-i g l = take l.i l.row ≡ map (λ n. node_value l.here.view.now l.stack (term_at l.here.prepared.now.stored n)) (take l.i l.terms)
