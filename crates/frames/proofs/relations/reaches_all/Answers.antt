use Rattle.std.proofs.Common.{sym, arith}
use Rattle.fin_struct.specs.KripkeTables.{related_in}
use Rattle.structure_laws.proofs.Counted.{all_fails}
use Rattle.frames.proofs.relations.reaches_all.Goals as goal

pub returns-then-not-related : goal.returns-then-not-related
returns-then-not-related c =
    sym (all_fails c.args.kripke.now.worlds c.loop-to.to (related_in c.args.kripke.now c.args.index c.args.from) (omega arith) (sym c.if-not-related.ensures.cell))
