use Rattle.std.proofs.Common.{◌≡◌, take}
use Rattle.nxf_tree.proofs.tree.File.copy.Given as goal

abbrev pub invariant-loop-statement : goal.invariant-loop-statement
invariant-loop-statement l = l.statements ≡ take l.statement-index l.self.statements
