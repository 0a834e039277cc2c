use Rattle.std.proofs.Common.{◌≡◌, true}
use Rattle.nxf_tree.specs.Counting.{all_below, any_below}
use Rattle.fin_struct.specs.KripkeTables.{exists_in}
use Rattle.domains.proofs.existence.everyone_exists.Given as goal

abbrev pub invariant-loop-element : goal.invariant-loop-element
invariant-loop-element l = all_below l.element (λ a. any_below l.kripke.worlds (λ w. exists_in l.kripke l.sort w a)) ≡ true
