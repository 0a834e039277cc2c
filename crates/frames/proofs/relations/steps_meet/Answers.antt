use Rattle.std.proofs.Common.{ℕ, sym, arith}
use Rattle.nxf_tree.specs.Counting.{implies}
use Rattle.fin_struct.specs.KripkeTables.{related_in}
use Rattle.structure_laws.proofs.Counted.{all_fails, implies_false}
use Rattle.frames.specs.steps.WorldTests.{meets_step}
use Rattle.frames.proofs.relations.steps_meet.Goals as goal

pub returns-then-not-meets_step : goal.returns-then-not-meets_step
returns-then-not-meets_step c =
    let k = c.args.kripke.now in
    let R = related_in k c.args.index in
    let meeting = λ (v : ℕ). implies (R c.args.from v) (meets_step c.args.scheme k.worlds R c.args.from v) in
    sym (all_fails k.worlds c.loop-to.to meeting (omega arith) (implies_false _ _ (sym c.if-related.ensures.cell) (sym c.if-not-meets_step.ensures)))
