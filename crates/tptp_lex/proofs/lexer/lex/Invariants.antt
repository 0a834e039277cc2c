use Rattle.std.proofs.Common.{length}
use Rattle.tptp_lex.proofs.Pieces.{IsSoFar}
use Rattle.tptp_lex.proofs.lexer.lex.Given as goal

abbrev pub invariant-loop-rest : goal.invariant-loop-rest
invariant-loop-rest l = IsSoFar l.bytes l.rest l.at l.tokens.items

abbrev pub decreases-loop-rest : goal.decreases-loop-rest
decreases-loop-rest l = length l.rest
