use Rattle.std.proofs.Common.{◌≡◌, ◌++◌, take}
use Rattle.std.specs.Prelude.{map}
use Rattle.nxf_tree.specs.Axioms.{frame_axiom}
use Rattle.condition_axioms.proofs.frames.add_axioms.Given as goal

abbrev pub invariant-loop-scheme : goal.invariant-loop-scheme
invariant-loop-scheme l = l.made ≡ l.initial.made ++ map (frame_axiom l.index.name) (take l.scheme-index l.scheme-items)
