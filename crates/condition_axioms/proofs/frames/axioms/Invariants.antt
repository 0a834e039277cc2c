use Rattle.std.proofs.Common.{◌≡◌, take}
use Rattle.nxf_tree.specs.Axioms.{frame_axioms}
use Rattle.condition_axioms.proofs.frames.axioms.Given as goal

abbrev pub invariant-loop-index : goal.invariant-loop-index
invariant-loop-index l = l.made ≡ frame_axioms (take l.index-index l.index-items)
