use Rattle.std.proofs.Common.{arith}
use Rattle.tf0_eval.proofs.TermCases.{argument-depth}
use Rattle.tf0_eval.proofs.formulas.has_value.Goals as goal

pub value_at-requires-clause-room : goal.value_at-requires-clause-room
value_at-requires-clause-room g c =
    omega (arith, c.requires.room, argument-depth c.args.here.prepared.now.stored c.args.terms.now c.loop-term.term-index c.loop-term-test.true, c.loop-term.auto.room)
