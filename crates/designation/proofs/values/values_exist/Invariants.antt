use Rattle.std.proofs.Common.{◌≡◌, true}
use Rattle.nxf_tree.specs.Counting.{all_below}
use Rattle.designation.specs.steps.RowTests.{rows_pass, value_exists_at}
use Rattle.designation.proofs.values.values_exist.Given as goal

abbrev pub invariant-loop-world : goal.invariant-loop-world
invariant-loop-world l = all_below l.world (λ w. rows_pass l.kripke w l.sorts (λ row. value_exists_at l.kripke l.symbol l.gives w row)) ≡ true
