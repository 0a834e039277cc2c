use Rattle.std.proofs.Common.{◌≡◌, length}
use Rattle.std.specs.Prelude.{slice_get}
use Rattle.nxf_tree.specs.Specification.{words_of}
use Rattle.logic_spec.proofs.read.first_word.Given as goal

abbrev pub invariant-loop-items : goal.invariant-loop-items
invariant-loop-items l = slice_get (words_of l.items) 0 ≡ slice_get (words_of l.initial.items) 0

abbrev pub decreases-loop-items : goal.decreases-loop-items
decreases-loop-items l = length l.items
