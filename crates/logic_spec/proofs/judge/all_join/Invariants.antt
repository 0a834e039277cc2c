use Rattle.std.proofs.Common.{◌≡◌, length}
use Rattle.std.specs.List.{list_all}
use Rattle.nxf_tree.specs.SpecificationWords.{joins}
use Rattle.nxf_tree.specs.Specification.{words_of}
use Rattle.logic_spec.proofs.judge.all_join.Given as goal

abbrev pub invariant-loop-items : goal.invariant-loop-items
invariant-loop-items l = list_all (joins l.setting) (words_of l.items) ≡ list_all (joins l.setting) (words_of l.initial.items)

abbrev pub decreases-loop-items : goal.decreases-loop-items
decreases-loop-items l = length l.items
