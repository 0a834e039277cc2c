use Rattle.std.proofs.Common.{◌≡◌, true}
use Rattle.nxf_tree.specs.Counting.{all_below, implies}
use Rattle.fin_struct.specs.KripkeTables.{exists_in}
use Rattle.domains.proofs.existence.keeps.Given as goal

abbrev pub invariant-loop-element : goal.invariant-loop-element
invariant-loop-element l = all_below l.element (λ a. implies (exists_in l.kripke l.sort l.first a) (exists_in l.kripke l.sort l.second a)) ≡ true
