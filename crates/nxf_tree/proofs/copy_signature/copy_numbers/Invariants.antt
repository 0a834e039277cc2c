use Rattle.std.proofs.Common.{◌≡◌, take}
use Rattle.nxf_tree.proofs.copy_signature.copy_numbers.Given as goal

abbrev pub invariant-loop-number : goal.invariant-loop-number
invariant-loop-number l = l.copies ≡ take l.number-index l.numbers
