use Rattle.std.proofs.Common.{arith}
use Rattle.kripke_eval.proofs.RoomLemmas.{room-for-all}
use Rattle.kripke_eval.proofs.evaluator.Eval.new.Goals as goal

pub returns-clause-room : goal.returns-clause-room
returns-clause-room c at f e =
    omega (arith, room-for-all c.args.checked.now.signature c.args.checked.now.formulas c.depth-depth.result c.signature-signature.ensures.sorted c.depth-depth.ensures at f e, c.in_ok-stack.ensures.len)
