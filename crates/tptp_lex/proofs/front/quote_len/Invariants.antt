use Rattle.std.proofs.Common.{◌≡◌, ◌+◌, length, false}
use Rattle.tptp_lex.specs.Front.{quote_len}
use Rattle.tptp_lex.proofs.front.quote_len.Given as goal

abbrev pub invariant-loop-text : goal.invariant-loop-text
invariant-loop-text l = (quote_len l.quote l.is_escaped l.at l.text ≡ quote_len l.quote false 0 l.initial.text) × (l.at + length l.text ≡ length l.initial.text)

abbrev pub decreases-loop-text : goal.decreases-loop-text
decreases-loop-text l = length l.text
