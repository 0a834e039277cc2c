use Rattle.std.proofs.Common.{sym, arith}
use Rattle.nxf_tree.specs.Rows.{size_at}
use Rattle.fin_struct.specs.KripkeTables.{exists_in}
use Rattle.structure_laws.proofs.Counted.{any_found}
use Rattle.domains.proofs.existence.someone_at.Goals as goal

pub returns-then-exists : goal.returns-then-exists
returns-then-exists c =
    let k = c.args.kripke.now in
    sym (any_found (size_at k.sizes c.args.sort) c.loop-element.element (exists_in k c.args.sort c.args.world) (omega arith) (sym c.if-exists.ensures.cell))
