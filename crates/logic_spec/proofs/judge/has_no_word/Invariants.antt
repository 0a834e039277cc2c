use Rattle.std.proofs.Common.{◌≡◌, length}
use Rattle.nxf_tree.specs.Specification.{is_empty, words_of}
use Rattle.logic_spec.proofs.judge.has_no_word.Given as goal

abbrev pub invariant-loop-items : goal.invariant-loop-items
invariant-loop-items l = is_empty (words_of l.items) ≡ is_empty (words_of l.initial.items)

abbrev pub decreases-loop-items : goal.decreases-loop-items
decreases-loop-items l = length l.items
