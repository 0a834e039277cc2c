use Rattle.std.proofs.Common.{arith}
use Rattle.fin_struct.specs.Places.{rows_count}
use Rattle.fin_struct.proofs.PlacesLemmas.{InRange-length, place_below, total_below, place_step, place_end}
use Rattle.fin_struct.proofs.places.place_of.Goals as goal

pub bounds-sizes-i : goal.bounds-sizes-i
bounds-sizes-i c = omega (arith, InRange-length _ _ c.requires.in_range)

pub overflow_mul-at : goal.overflow_mul-at
overflow_mul-at c =
    let same = InRange-length _ _ c.requires.in_range in
    let below = total_below c.args.first (rows_count c.args.sizes.now) _ (place_below _ _ c.requires.in_range) in
    let s = place_step c.args.sizes.now c.args.row.now c.loop-i.i c.loop-i.at _ (omega arith) (omega arith) c.loop-i.invariant.in_range c.loop-i.invariant.so_far in
    omega arith

pub overflow_add-at : goal.overflow_add-at
overflow_add-at c =
    let same = InRange-length _ _ c.requires.in_range in
    let below = total_below c.args.first (rows_count c.args.sizes.now) _ (place_below _ _ c.requires.in_range) in
    let s = place_step c.args.sizes.now c.args.row.now c.loop-i.i c.loop-i.at _ (omega arith) (omega arith) c.loop-i.invariant.in_range c.loop-i.invariant.so_far in
    omega (arith, c.type_inv.row c.loop-i.i)

pub loop-i-preserved : goal.loop-i-preserved
loop-i-preserved c =
    let same = InRange-length _ _ c.requires.in_range in
    let s = place_step c.args.sizes.now c.args.row.now c.loop-i.i c.loop-i.at _ (omega arith) (omega arith) c.loop-i.invariant.in_range c.loop-i.invariant.so_far in
    record { so_far = s.so_far; in_range = s.in_range }

pub returns : goal.returns
returns c =
    let same = InRange-length _ _ c.requires.in_range in
    place_end c.args.sizes.now c.args.row.now c.loop-i.i c.loop-i.at _ (omega arith) (omega arith) c.loop-i.invariant.so_far
