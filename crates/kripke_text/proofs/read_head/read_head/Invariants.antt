use Rattle.kripke_text.proofs.ReadHeads.{HeadAt}
use Rattle.kripke_text.proofs.read_head.read_head.Given as goal

-- the statements of the first sorts are read
abbrev pub invariant-loop-place : goal.invariant-loop-place
invariant-loop-place l = HeadAt l.over l.worlds l.actual l.fn.statements l.statements l.sizes l.place
