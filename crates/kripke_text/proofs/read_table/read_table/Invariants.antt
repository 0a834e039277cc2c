use Rattle.std.proofs.Common.{length}
use Rattle.kripke_text.proofs.ReadTables.{TableAt}
use Rattle.kripke_text.proofs.read_table.read_table.Given as goal

-- the rows before these are read
abbrev pub invariant-loop-row : goal.invariant-loop-row
invariant-loop-row l = TableAt l.over l.subject l.fn.kripke l.initial.left l.left l.none l.rows l.kripke

abbrev pub decreases-loop-row : goal.decreases-loop-row
decreases-loop-row l = length l.rows
