use Rattle.std.proofs.Common.{ℕ, sym, arith}
use Rattle.structure_laws.proofs.Counted.{all_fails}
use Rattle.designation.specs.steps.RowTests.{rows_pass, value_exists_at}
use Rattle.designation.proofs.values.values_exist.Goals as goal

pub returns-then-not-rows_pass : goal.returns-then-not-rows_pass
returns-then-not-rows_pass c =
    let k = c.args.kripke.now in
    let test = λ (w : ℕ). rows_pass k w c.args.sorts.now (value_exists_at k c.args.symbol c.args.gives w) in
    sym (all_fails k.worlds c.loop-world.world test (omega arith) (sym c.if-not-rows_pass.ensures.passes))
