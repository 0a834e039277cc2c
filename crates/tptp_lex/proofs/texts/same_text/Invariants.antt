use Rattle.std.proofs.Common.{◌≡◌, ◌↔◌, length}
use Rattle.tptp_lex.specs.Texts.{token_text}
use Rattle.tptp_lex.proofs.texts.same_text.Given as goal

abbrev pub invariant-loop-byte : goal.invariant-loop-byte
invariant-loop-byte l = (l.ours ≡ l.theirs) ↔ (token_text l.left ≡ token_text l.right)

abbrev pub decreases-loop-byte : goal.decreases-loop-byte
decreases-loop-byte l = length l.ours
