use Rattle.std.proofs.Common.{◌≡◌, true}
use Rattle.nxf_tree.specs.Counting.{all_below}
use Rattle.fin_struct.specs.KripkeTables.{related_in}
use Rattle.frames.proofs.relations.reaches_all.Given as goal

abbrev pub invariant-loop-to : goal.invariant-loop-to
invariant-loop-to l = all_below l.to (λ v. related_in l.kripke l.index l.from v) ≡ true
