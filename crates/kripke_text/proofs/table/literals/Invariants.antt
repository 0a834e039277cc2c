use Rattle.std.proofs.Common.{length}
use Rattle.kripke_text.specs.steps.Subjects.{label_of, table_of}
use Rattle.kripke_text.proofs.LinesLaw.{LinesAt}
use Rattle.kripke_text.proofs.table.literals.Given as goal

-- the rows before these are put
abbrev pub invariant-loop-row : goal.invariant-loop-row
invariant-loop-row g l = LinesAt _ g.M.Taker.takes l.fn.out l.out (label_of l.over l.subject) (table_of l.kripke l.subject) l.none l.rows

abbrev pub decreases-loop-row : goal.decreases-loop-row
decreases-loop-row g l = length l.rows
