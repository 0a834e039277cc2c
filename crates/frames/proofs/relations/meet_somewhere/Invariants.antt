use Rattle.std.proofs.Common.{◌≡◌, false}
use Rattle.std.specs.Prelude.{◌&&◌}
use Rattle.nxf_tree.specs.Counting.{any_below}
use Rattle.fin_struct.specs.KripkeTables.{related_in}
use Rattle.frames.proofs.relations.meet_somewhere.Given as goal

abbrev pub invariant-loop-to : goal.invariant-loop-to
invariant-loop-to l = any_below l.to (λ x. related_in l.kripke l.index l.left x && related_in l.kripke l.index l.right x) ≡ false
