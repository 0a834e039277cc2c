use Rattle.std.proofs.Common.{◌≡◌, ◌++◌, take}
use Rattle.std.specs.Prelude.{map}
use Rattle.nxf_tree.specs.Axioms.{stay_axiom}
use Rattle.condition_axioms.proofs.domains.add_stays.Given as goal

abbrev pub invariant-loop-index : goal.invariant-loop-index
invariant-loop-index l = l.made ≡ l.initial.made ++ map (λ index. stay_axiom l.sort index.name) (take l.index-index l.index-items)
