use Rattle.std.proofs.Common.{◌≡◌, false}
use Rattle.nxf_tree.specs.Counting.{any_below}
use Rattle.fin_struct.specs.KripkeTables.{exists_in}
use Rattle.domains.proofs.existence.is_somewhere.Given as goal

abbrev pub invariant-loop-world : goal.invariant-loop-world
invariant-loop-world l = any_below l.world (λ w. exists_in l.kripke l.sort w l.element) ≡ false
