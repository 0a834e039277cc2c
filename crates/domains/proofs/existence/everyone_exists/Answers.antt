use Rattle.std.proofs.Common.{ℕ, sym, arith}
use Rattle.nxf_tree.specs.Counting.{any_below}
use Rattle.nxf_tree.specs.Rows.{size_at}
use Rattle.fin_struct.specs.KripkeTables.{exists_in}
use Rattle.structure_laws.proofs.Counted.{all_fails}
use Rattle.domains.proofs.existence.everyone_exists.Goals as goal

pub returns-then-not-is_somewhere : goal.returns-then-not-is_somewhere
returns-then-not-is_somewhere c =
    let k = c.args.kripke.now in
    let somewhere = λ (a : ℕ). any_below k.worlds (λ w. exists_in k c.args.sort w a) in
    sym (all_fails (size_at k.sizes c.args.sort) c.loop-element.element somewhere (omega arith) (sym c.if-not-is_somewhere.ensures))
