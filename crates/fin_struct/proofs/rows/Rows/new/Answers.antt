use Rattle.std.proofs.Common.{◌≡◌, length, replicate, arith}
use Rattle.fin_struct.specs.Places.{rows_count}
use Rattle.fin_struct.proofs.WalkLemmas.{zeros-in_range, place-zeros}
use Rattle.fin_struct.proofs.rows.Rows.new.Goals as goal

pub invariant_of-result : goal.invariant_of-result
invariant_of-result c =
    let sizes = c.args.sizes.now in
    let zeros : c.in_ok-row.row.items ≡ replicate (length sizes) 0 = c.in_ok-row.ensures.items_if_clones_equal (λ y h. h) in
    let count : c.count_rows-rows.result ≡ rows_count sizes = omega (arith, c.count_rows-rows.ensures, c.requires) in
    rw (c.in_ok-sizes.ensures, zeros) (record { count = count; in_range = λ h. zeros-in_range sizes (omega (arith, count)); here = λ h. place-zeros sizes })
