use Rattle.kripke_text.proofs.Nexts.{NoStops}
use Rattle.kripke_text.proofs.statements.first_len.Given as goal

abbrev pub invariant-loop-at : goal.invariant-loop-at
invariant-loop-at l = NoStops l.bytes l.left l.at
