use Rattle.std.proofs.Common.{◌≡◌, ◌++◌, take}
use Rattle.nxf_tree.specs.Problem.{sort_declarations}
use Rattle.nxf_embed.proofs.declare.declare_sorts.Given as goal

abbrev pub invariant-loop-sort : goal.invariant-loop-sort
invariant-loop-sort l = l.statements ≡ l.initial.statements ++ sort_declarations (take l.sort-index l.sort-items)
