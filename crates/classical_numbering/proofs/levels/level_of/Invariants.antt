use Rattle.std.proofs.Common.{◌≡◌, false, drop}
use Rattle.nxf_tree.specs.Counting.{has}
use Rattle.nxf_tree.specs.Names.{same_text}
use Rattle.classical_numbering.proofs.levels.level_of.Given as goal

-- none of the binders so far has the name
abbrev pub invariant-loop-level : goal.invariant-loop-level
invariant-loop-level l = has same_text l.name (drop l.level l.binders) ≡ false
