use Rattle.std.proofs.Common.{◌≡◌, ◌+◌, ◌-◌, ◌∷◌, ◌++◌, length, take, drop, true}
use Rattle.nxf_tree.specs.Counting.{all_below, implies}
use Rattle.fin_struct.specs.KripkeTables.{exists_in}
use Rattle.designation.specs.steps.RowTests.{rows_pass, value_exists_at}
use Rattle.designation.proofs.values.+rows_pass.Given as goal

abbrev pub decreases-rows_pass : goal.decreases-rows_pass
decreases-rows_pass l = length l.sorts.now - l.place

abbrev pub invariant-loop-element : goal.invariant-loop-element
invariant-loop-element l = record {
  kept : take l.place l.row ≡ take l.place l.initial.row;
  passed : all_below l.element (λ a. implies (exists_in l.kripke l.sort l.world a) (rows_pass l.kripke l.world (drop (l.place + 1) l.sorts) (λ rest. value_exists_at l.kripke l.symbol l.gives l.world (take l.place l.initial.row ++ a ∷ rest)))) ≡ true;
}
