use Rattle.std.proofs.Common.{◌≡◌, true}
use Rattle.nxf_tree.specs.Counting.{all_below}
use Rattle.fin_struct.specs.KripkeTables.{related_in}
use Rattle.frames.specs.steps.WorldTests.{meets_at}
use Rattle.frames.proofs.relations.meets.Given as goal

abbrev pub invariant-loop-from : goal.invariant-loop-from
invariant-loop-from l = all_below l.from (meets_at l.scheme l.kripke.worlds (related_in l.kripke l.index)) ≡ true
