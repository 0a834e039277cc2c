use Rattle.std.proofs.Common.{ℕ, sym, arith}
use Rattle.nxf_tree.specs.Counting.{implies}
use Rattle.nxf_tree.specs.Rows.{size_at}
use Rattle.fin_struct.specs.KripkeTables.{exists_in}
use Rattle.structure_laws.proofs.Counted.{all_fails, implies_false}
use Rattle.domains.proofs.existence.keeps.Goals as goal

pub returns-then-not-exists : goal.returns-then-not-exists
returns-then-not-exists c =
    let k = c.args.kripke.now in
    let kept = λ (a : ℕ). implies (exists_in k c.args.sort c.args.first a) (exists_in k c.args.sort c.args.second a) in
    sym (all_fails (size_at k.sizes c.args.sort) c.loop-element.element kept (omega arith) (implies_false _ _ (sym c.if-exists.ensures.cell) (sym c.if-not-exists.ensures.cell)))
