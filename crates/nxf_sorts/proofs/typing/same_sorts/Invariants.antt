use Rattle.std.proofs.Common.{◌≡◌, drop}
use Rattle.std.specs.Cmp.Lexicographic.{pointwise}
use Rattle.nxf_tree.specs.Signature.{same_sort}
use Rattle.nxf_sorts.proofs.typing.same_sorts.Given as goal

abbrev pub invariant-loop-at : goal.invariant-loop-at
invariant-loop-at l = pointwise same_sort l.a l.b ≡ pointwise same_sort (drop l.at l.a) (drop l.at l.b)
