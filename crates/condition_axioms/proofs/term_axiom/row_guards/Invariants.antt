use Rattle.std.proofs.Common.{◌≡◌, take}
use Rattle.std.specs.Prelude.{map}
use Rattle.nxf_tree.specs.Signature.{sort_at}
use Rattle.nxf_tree.specs.Axioms.{row_guards}
use Rattle.condition_axioms.proofs.term_axiom.row_guards.Given as goal

abbrev pub invariant-loop-place : goal.invariant-loop-place
invariant-loop-place l = l.guards ≡ row_guards l.signature 0 (map (sort_at l.signature.sorts) (take l.place l.sorts))
