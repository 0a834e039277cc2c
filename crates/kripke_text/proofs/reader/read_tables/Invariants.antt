use Rattle.kripke_text.proofs.ReadTexts.{TablesAt}
use Rattle.kripke_text.proofs.reader.read_tables.Given as goal

-- the statements of the first tables are read
abbrev pub invariant-loop-place : goal.invariant-loop-place
invariant-loop-place l = TablesAt l.over l.fn.kripke l.fn.statements l.statements l.kripke l.place
