use Rattle.std.proofs.Common.{arith}
use Rattle.tf0_eval.proofs.RoomLemmas.{within-deepest}
use Rattle.tf0_eval.proofs.evaluator.Eval.new.Goals as goal

pub returns-clause-room : goal.returns-clause-room
returns-clause-room c at entry e = omega (arith, within-deepest c.args.prepared.now.formulas at entry e, c.depth-depth.ensures, c.in_ok-stack.ensures.len)
