use Rattle.std.proofs.Common.{ℕ, sym, arith}
use Rattle.nxf_tree.specs.Counting.{any_below}
use Rattle.nxf_tree.specs.Rows.{size_at}
use Rattle.fin_struct.specs.KripkeTables.{exists_in}
use Rattle.structure_laws.proofs.Counted.{all_fails}
use Rattle.domains.proofs.existence.someone_exists.Goals as goal

pub returns-then-not-someone_at : goal.returns-then-not-someone_at
returns-then-not-someone_at c =
    let k = c.args.kripke.now in
    let someone = λ (w : ℕ). any_below (size_at k.sizes c.args.sort) (λ a. exists_in k c.args.sort w a) in
    sym (all_fails k.worlds c.loop-world.world someone (omega arith) (sym c.if-not-someone_at.ensures))
