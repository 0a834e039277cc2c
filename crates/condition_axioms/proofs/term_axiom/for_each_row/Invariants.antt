use Rattle.std.proofs.Common.{◌≡◌, ◌≤◌, length, drop}
use Rattle.std.specs.Prelude.{map}
use Rattle.nxf_tree.specs.Signature.{sort_at}
use Rattle.nxf_tree.specs.Axioms.{for_each_row}
use Rattle.condition_axioms.proofs.term_axiom.for_each_row.Given as goal

abbrev pub invariant-loop-place : goal.invariant-loop-place
invariant-loop-place l = record {
  below : l.place ≤ length l.sorts;
  row : l.row ≡ for_each_row l.place (map (sort_at l.signature.sorts) (drop l.place l.sorts)) l.fn.body;
}

abbrev pub decreases-loop-place : goal.decreases-loop-place
decreases-loop-place l = l.place
