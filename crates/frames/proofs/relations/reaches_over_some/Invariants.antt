use Rattle.std.proofs.Common.{◌≡◌, false}
use Rattle.std.specs.Prelude.{◌&&◌}
use Rattle.nxf_tree.specs.Counting.{any_below}
use Rattle.fin_struct.specs.KripkeTables.{related_in}
use Rattle.frames.proofs.relations.reaches_over_some.Given as goal

abbrev pub invariant-loop-over : goal.invariant-loop-over
invariant-loop-over l = any_below l.over (λ u. related_in l.kripke l.index l.from u && related_in l.kripke l.index u l.to) ≡ false
