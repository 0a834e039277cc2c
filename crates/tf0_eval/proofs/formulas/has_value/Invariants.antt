use Rattle.std.proofs.Common.{◌≡◌, false, take}
use Rattle.std.specs.Prelude.{nat_eq}
use Rattle.std.specs.List.{list_any}
use Rattle.formula_cells.specs.Stored.{term_at}
use Rattle.classical_evaluation_definitions.specs.ClassicalMeaning.{node_value}
use Rattle.tf0_eval.proofs.formulas.has_value.Given as goal

-- none of the arguments so far has the value
abbrev pub invariant-loop-term : goal.invariant-loop-term
invariant-loop-term g l = list_any (λ n. nat_eq (node_value l.here.view.now l.stack (term_at l.here.prepared.now.stored n)) l.value) (take l.term-index l.terms) ≡ false
