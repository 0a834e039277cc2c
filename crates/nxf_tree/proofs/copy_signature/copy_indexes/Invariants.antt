use Rattle.std.proofs.Common.{◌≡◌, take}
use Rattle.nxf_tree.proofs.copy_signature.copy_indexes.Given as goal

abbrev pub invariant-loop-index : goal.invariant-loop-index
invariant-loop-index l = l.copies ≡ take l.index-index l.indexes
