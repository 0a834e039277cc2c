use Rattle.std.proofs.Common.{length}
use Rattle.interp_reader.specs.steps.Filling.{IsAt}
use Rattle.interp_reader.proofs.table.fill_table.Given as goal

abbrev pub invariant-loop-row : goal.invariant-loop-row
invariant-loop-row l = IsAt l.rows.entries l.table l.walk l.initial.structure l.structure

abbrev pub decreases-loop-row : goal.decreases-loop-row
decreases-loop-row l = length l.walk
