use Rattle.std.proofs.Common.{◌≡◌, ◌+◌, length, false}
use Rattle.tptp_lex.specs.Front.{close_len}
use Rattle.tptp_lex.proofs.front.close_len.Given as goal

abbrev pub invariant-loop-text : goal.invariant-loop-text
invariant-loop-text l = (close_len l.is_star l.at l.text ≡ close_len false 0 l.initial.text) × (l.at + length l.text ≡ length l.initial.text)

abbrev pub decreases-loop-text : goal.decreases-loop-text
decreases-loop-text l = length l.text
