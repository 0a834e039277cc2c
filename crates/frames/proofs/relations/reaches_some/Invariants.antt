use Rattle.std.proofs.Common.{◌≡◌, false}
use Rattle.nxf_tree.specs.Counting.{any_below}
use Rattle.fin_struct.specs.KripkeTables.{related_in}
use Rattle.frames.proofs.relations.reaches_some.Given as goal

abbrev pub invariant-loop-to : goal.invariant-loop-to
invariant-loop-to l = any_below l.to (λ v. related_in l.kripke l.index l.from v) ≡ false
