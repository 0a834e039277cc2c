use Rattle.std.proofs.Common.{ℕ, sym, arith}
use Rattle.std.specs.Prelude.{◌&&◌}
use Rattle.nxf_tree.specs.Counting.{any_below, implies}
use Rattle.fin_struct.specs.KripkeTables.{related_in}
use Rattle.structure_laws.proofs.Counted.{all_fails, implies_false}
use Rattle.frames.proofs.relations.meets_each.Goals as goal

pub returns-then-not-meet_somewhere : goal.returns-then-not-meet_somewhere
returns-then-not-meet_somewhere c =
    let k = c.args.kripke.now in
    let R = related_in k c.args.index in
    let meeting = λ (u : ℕ). implies (R c.args.from u) (any_below k.worlds (λ x. R c.args.other x && R u x)) in
    sym (all_fails k.worlds c.loop-to.to meeting (omega arith) (implies_false _ _ (sym c.if-related.ensures.cell) (sym c.if-not-meet_somewhere.ensures)))
