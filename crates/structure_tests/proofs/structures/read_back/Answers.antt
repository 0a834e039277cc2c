use Rattle.std.proofs.Common.{◌≡◌, ℕ, zero, suc, ◌*◌, replicate, refl, ap, arith}
use Rattle.fin_struct.specs.Places.{InRange, rows_count}
use Rattle.structure_tests.proofs.structures.read_back.Goals as goal

one_row : (n : ℕ) → rows_count (replicate n 1) ≡ 1
one_row zero = refl
one_row (suc n) = ap (λ rows. 1 * rows) (one_row n)

zeros_in : (n : ℕ) → InRange (replicate n 1) (replicate n 0)
zeros_in zero = tt
zeros_in (suc n) = (omega arith, zeros_in n)

pub new-requires-clause-small : goal.new-requires-clause-small
new-requires-clause-small c =
    rw (c.in_ok-push.ensures.items, c.new-shapes.ensures.items, c.in_ok-repeated.ensures, one_row c.args.count) (omega arith)

pub set-requires-clause-row_in : goal.set-requires-clause-row_in
set-requires-clause-row_in c =
    rw (c.in_ok-grid.ensures, c.in_ok-push.ensures.items, c.new-shapes.ensures.items, c.in_ok-repeated.ensures, c.deref.ensures.value, c.in_ok-row.ensures) (zeros_in c.args.count)

pub get-requires-clause-row_in : goal.get-requires-clause-row_in
get-requires-clause-row_in c =
    rw (c.set.ensures.written, c.in_ok-grid.ensures, c.in_ok-push.ensures.items, c.new-shapes.ensures.items, c.in_ok-repeated.ensures, c.deref-2.ensures.value, c.in_ok-row.ensures) (zeros_in c.args.count)
