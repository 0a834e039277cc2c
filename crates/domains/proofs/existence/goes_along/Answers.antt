use Rattle.std.proofs.Common.{ℕ, sym, arith}
use Rattle.structure_laws.proofs.Counted.{all_fails}
use Rattle.domains.specs.steps.WorldTests.{steps_meet}
use Rattle.domains.proofs.existence.goes_along.Goals as goal

pub returns-then-not-steps_meet : goal.returns-then-not-steps_meet
returns-then-not-steps_meet c =
    let k = c.args.kripke.now in
    let meeting = λ (w : ℕ). steps_meet k c.args.regime c.args.sort c.args.index w in
    sym (all_fails k.worlds c.loop-from.from meeting (omega arith) (sym c.if-not-steps_meet.ensures))
