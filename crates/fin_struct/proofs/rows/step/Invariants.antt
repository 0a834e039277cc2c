use Rattle.std.proofs.Common.{◌+◌}
use Rattle.fin_struct.specs.Places.{place}
use Rattle.fin_struct.proofs.WalkLemmas.{Carried}
use Rattle.fin_struct.proofs.rows.step.Given as goal

-- the numbers that were passed are 0 again
abbrev pub invariant-loop-i : goal.invariant-loop-i
invariant-loop-i l = Carried l.sizes l.row l.i (place l.sizes l.initial.row + 1)
