use Rattle.std.proofs.Common.{◌≡◌, [], length, map}
use Rattle.nxf_tree.specs.SpecificationWords.{word_named}
use Rattle.logic_spec.proofs.words.schemes_named.Given as goal

abbrev pub invariant-loop-table : goal.invariant-loop-table
invariant-loop-table l = word_named [] (map (λ e. (e.0.now, e.1.now)) l.table) l.word ≡ word_named [] (map (λ e. (e.0.now, e.1.now)) l.initial.table) l.word

abbrev pub decreases-loop-table : goal.decreases-loop-table
decreases-loop-table l = length l.table
