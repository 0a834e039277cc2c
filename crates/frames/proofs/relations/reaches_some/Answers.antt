use Rattle.std.proofs.Common.{sym, arith}
use Rattle.fin_struct.specs.KripkeTables.{related_in}
use Rattle.structure_laws.proofs.Counted.{any_found}
use Rattle.frames.proofs.relations.reaches_some.Goals as goal

pub returns-then-related : goal.returns-then-related
returns-then-related c =
    sym (any_found c.args.kripke.now.worlds c.loop-to.to (related_in c.args.kripke.now c.args.index c.args.from) (omega arith) (sym c.if-related.ensures.cell))
