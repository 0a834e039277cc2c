use Rattle.std.proofs.Common.{ℕ, sym, arith}
use Rattle.fin_struct.specs.KripkeTables.{exists_in}
use Rattle.structure_laws.proofs.Counted.{any_found}
use Rattle.domains.proofs.existence.is_somewhere.Goals as goal

pub returns-then-exists : goal.returns-then-exists
returns-then-exists c =
    let k = c.args.kripke.now in
    let there = λ (w : ℕ). exists_in k c.args.sort w c.args.element in
    sym (any_found k.worlds c.loop-world.world there (omega arith) (sym c.if-exists.ensures.cell))
