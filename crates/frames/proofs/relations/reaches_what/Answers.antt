use Rattle.std.proofs.Common.{ℕ, sym, arith}
use Rattle.nxf_tree.specs.Counting.{implies}
use Rattle.fin_struct.specs.KripkeTables.{related_in}
use Rattle.structure_laws.proofs.Counted.{all_fails, implies_false}
use Rattle.frames.proofs.relations.reaches_what.Goals as goal

pub returns-then-not-related : goal.returns-then-not-related
returns-then-not-related c =
    let R = related_in c.args.kripke.now c.args.index in
    let too = λ (u : ℕ). implies (R c.args.other u) (R c.args.from u) in
    sym (all_fails c.args.kripke.now.worlds c.loop-to.to too (omega arith) (implies_false _ _ (sym c.if-related.ensures.cell) (sym c.if-not-related.ensures.cell)))
