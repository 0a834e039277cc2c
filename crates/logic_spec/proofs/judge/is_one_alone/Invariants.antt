use Rattle.std.proofs.Common.{◌≡◌, length}
use Rattle.nxf_tree.specs.SpecificationWords.{one_alone}
use Rattle.nxf_tree.specs.Specification.{words_of}
use Rattle.logic_spec.proofs.judge.is_one_alone.Given as goal

abbrev pub invariant-loop-items : goal.invariant-loop-items
invariant-loop-items l = one_alone l.setting (words_of l.items) ≡ one_alone l.setting (words_of l.initial.items)

abbrev pub decreases-loop-items : goal.decreases-loop-items
decreases-loop-items l = length l.items
