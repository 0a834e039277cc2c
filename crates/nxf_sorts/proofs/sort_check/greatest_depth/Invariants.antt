use Rattle.std.proofs.Common.{◌≡◌, ◌-◌, ◌^◌, min, take}
use Rattle.nxf_tree.specs.FileDepth.{statement_list_depth}
use Rattle.nxf_sorts.proofs.sort_check.greatest_depth.Given as goal

abbrev pub invariant-loop-statement : goal.invariant-loop-statement
invariant-loop-statement l = l.deepest ≡ min (statement_list_depth (take l.statement-index l.statements)) (2 ^ 64 - 1)
