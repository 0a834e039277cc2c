use Rattle.std.proofs.Common.{◌≡◌, take}
use Rattle.std.specs.List.{list_any, filter}
use Rattle.nxf_tree.specs.declared.tree.SpecValue.{out-SpecValue}
use Rattle.nxf_tree.specs.Counting.{has}
use Rattle.nxf_tree.specs.SpecificationWords.{same_scheme, schemes_of_word, scheme_order}
use Rattle.nxf_tree.specs.Specification.{words_in}
use Rattle.logic_spec.proofs.read.schemes_in.Given as goal

abbrev pub invariant-loop-scheme : goal.invariant-loop-scheme
invariant-loop-scheme l = l.schemes ≡ filter (λ s. list_any (λ word. has same_scheme s (schemes_of_word word)) (words_in (out-SpecValue l.value))) (take l.scheme-index scheme_order)
