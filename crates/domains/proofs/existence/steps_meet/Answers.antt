use Rattle.std.proofs.Common.{ℕ, sym, arith}
use Rattle.nxf_tree.specs.Counting.{implies}
use Rattle.fin_struct.specs.KripkeTables.{related_in}
use Rattle.structure_laws.proofs.Counted.{all_fails, implies_false}
use Rattle.domains.specs.steps.WorldTests.{meets_step}
use Rattle.domains.proofs.existence.steps_meet.Goals as goal

pub returns-then-not-meets_step : goal.returns-then-not-meets_step
returns-then-not-meets_step c =
    let k = c.args.kripke.now in
    let meeting = λ (v : ℕ). implies (related_in k c.args.index c.args.from v) (meets_step k c.args.regime c.args.sort c.args.from v) in
    sym (all_fails k.worlds c.loop-to.to meeting (omega arith) (implies_false _ _ (sym c.if-related.ensures.cell) (sym c.if-not-meets_step.ensures)))
