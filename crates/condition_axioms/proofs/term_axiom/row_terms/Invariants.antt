use Rattle.std.proofs.Common.{◌≡◌}
use Rattle.nxf_tree.specs.Axioms.{world}
use Rattle.nxf_tree.specs.Embedding.{at_world}
use Rattle.condition_axioms.specs.steps.Listed.{elements_upto}
use Rattle.condition_axioms.proofs.term_axiom.row_terms.Given as goal

abbrev pub invariant-loop-number : goal.invariant-loop-number
invariant-loop-number l = l.terms ≡ at_world l.flexible (world 0) (elements_upto 0 l.number)
