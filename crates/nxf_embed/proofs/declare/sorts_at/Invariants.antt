use Rattle.std.proofs.Common.{◌≡◌, take}
use Rattle.std.specs.Prelude.{map}
use Rattle.nxf_tree.specs.Problem.{classical_sort_at}
use Rattle.nxf_embed.proofs.declare.sorts_at.Given as goal

abbrev pub invariant-loop-number : goal.invariant-loop-number
invariant-loop-number l = l.found ≡ map (classical_sort_at l.sorts) (take l.number-index l.numbers)
