use Rattle.std.proofs.Common.{◌≡◌, ◌++◌, take}
use Rattle.kripke_text.proofs.number.take_bytes.Given as goal

abbrev pub invariant-loop-b : goal.invariant-loop-b
invariant-loop-b l = l.initial.text ≡ take l.b-index l.expected ++ l.text
