use Rattle.std.proofs.Common.{◌≡◌, map, length}
use Rattle.nxf_tree.specs.Counting.{has}
use Rattle.nxf_tree.specs.Names.{same_text}
use Rattle.nxf_roles.proofs.words.is_among.Given as goal

abbrev pub invariant-loop-words : goal.invariant-loop-words
invariant-loop-words l = has same_text l.word (map (λ w. w.now) l.words) ≡ has same_text l.word (map (λ w. w.now) l.initial.words)

abbrev pub decreases-loop-words : goal.decreases-loop-words
decreases-loop-words l = length l.words
