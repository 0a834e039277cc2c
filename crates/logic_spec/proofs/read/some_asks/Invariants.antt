use Rattle.std.proofs.Common.{◌≡◌, length}
use Rattle.std.specs.List.{list_any}
use Rattle.nxf_tree.specs.Counting.{has}
use Rattle.nxf_tree.specs.SpecificationWords.{same_scheme, schemes_of_word}
use Rattle.nxf_tree.specs.Specification.{words_of}
use Rattle.logic_spec.proofs.read.some_asks.Given as goal

abbrev pub invariant-loop-items : goal.invariant-loop-items
invariant-loop-items l = list_any (λ word. has same_scheme l.scheme (schemes_of_word word)) (words_of l.items) ≡ list_any (λ word. has same_scheme l.scheme (schemes_of_word word)) (words_of l.initial.items)

abbrev pub decreases-loop-items : goal.decreases-loop-items
decreases-loop-items l = length l.items
