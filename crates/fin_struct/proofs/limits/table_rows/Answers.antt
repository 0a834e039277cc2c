use Rattle.std.proofs.Common.{◌≡◌, get_or, arith, ◌∙◌}
use Rattle.nxf_tree.specs.Rows.{size_at}
use Rattle.fin_struct.proofs.LimitsLemmas.{rows_step}
use Rattle.fin_struct.proofs.limits.table_rows.Goals as goal

pub loop-sort-preserved : goal.loop-sort-preserved
loop-sort-preserved c =
    let same : c.from.result ≡ size_at c.args.sizes.now (get_or c.args.sorts.now c.loop-sort.sort-index 0) = c.from.ensures ∙ c.size_at.ensures in
    let m = rw same at c.saturating_mul-count.ensures in
    record {
      so_far = rows_step c.args.sizes.now c.args.sorts.now c.loop-sort.sort-index c.loop-sort.count _ _ c.loop-sort-test.true m c.loop-sort.invariant.so_far;
      fits = omega (arith, m);
    }
