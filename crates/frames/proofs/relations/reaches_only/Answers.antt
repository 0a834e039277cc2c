use Rattle.std.proofs.Common.{ℕ, sym, arith}
use Rattle.std.specs.Prelude.{nat_eq}
use Rattle.std.proofs.lemmas.Bool.{ne_eqb}
use Rattle.nxf_tree.specs.Counting.{implies}
use Rattle.fin_struct.specs.KripkeTables.{related_in}
use Rattle.structure_laws.proofs.Counted.{all_fails, implies_false}
use Rattle.frames.proofs.relations.reaches_only.Goals as goal

pub returns-then-only-to : goal.returns-then-only-to
returns-then-only-to c =
    let R = related_in c.args.kripke.now c.args.index in
    let same = λ (u : ℕ). implies (R c.args.from u) (nat_eq c.args.only u) in
    sym (all_fails c.args.kripke.now.worlds c.loop-to.to same (omega arith) (implies_false _ _ (sym c.if-related.ensures.cell) (ne_eqb _ _ c.if-only-to.true)))
