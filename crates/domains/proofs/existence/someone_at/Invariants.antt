use Rattle.std.proofs.Common.{◌≡◌, false}
use Rattle.nxf_tree.specs.Counting.{any_below}
use Rattle.fin_struct.specs.KripkeTables.{exists_in}
use Rattle.domains.proofs.existence.someone_at.Given as goal

abbrev pub invariant-loop-element : goal.invariant-loop-element
invariant-loop-element l = any_below l.element (λ a. exists_in l.kripke l.sort l.world a) ≡ false
