use Rattle.std.proofs.Common.{◌≡◌, ◌++◌, take}
use Rattle.std.specs.Prelude.{map}
use Rattle.nxf_tree.specs.Axioms.{were_there_axiom}
use Rattle.condition_axioms.proofs.domains.add_were_there.Given as goal

abbrev pub invariant-loop-index : goal.invariant-loop-index
invariant-loop-index l = l.made ≡ l.initial.made ++ map (λ index. were_there_axiom l.sort index.name) (take l.index-index l.index-items)
