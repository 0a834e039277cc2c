use Rattle.std.proofs.Common.{◌≡◌, ℕ, suc, ◌-◌, ◌<◌, List, subst, arith}
use Rattle.fin_struct.proofs.PlacesLemmas.{InRange-length}
use Rattle.fin_struct.proofs.WalkLemmas.{Carried, InRange-at, carried-none, carry, finish}
use Rattle.fin_struct.proofs.rows.step.Goals as goal

pub loop-i-init : goal.loop-i-init
loop-i-init c = carried-none c.args.sizes.now c.args.row.now c.requires

pub bounds-sizes-i : goal.bounds-sizes-i
bounds-sizes-i c = omega (arith, InRange-length _ _ c.loop-i.invariant.in_range)

pub overflow_add-row : goal.overflow_add-row
overflow_add-row c =
    omega (arith, InRange-at c.args.sizes.now c.loop-i.row (c.loop-i.i - 1) c.loop-i.invariant.in_range (omega arith), c.type_inv.sizes (c.loop-i.i - 1))

carried : (sizes row : List ℕ) (i total : ℕ) → 0 < i → Carried sizes row i total → Carried sizes row (suc (i - 1)) total
carried sizes row i total h k = let e : i ≡ suc (i - 1) = omega arith in subst (λ (n : ℕ). Carried sizes row n total) e k

pub returns-then-row-i-clause-in_range : goal.returns-then-row-i-clause-in_range
returns-then-row-i-clause-in_range c =
    (finish c.args.sizes.now c.loop-i.row (c.loop-i.i - 1) _ (omega arith) c.if-row-i.true (carried _ _ _ _ (omega arith) c.loop-i.invariant)).in_range

pub returns-then-row-i-clause-next : goal.returns-then-row-i-clause-next
returns-then-row-i-clause-next c = λ _. (finish c.args.sizes.now c.loop-i.row (c.loop-i.i - 1) _ (omega arith) c.if-row-i.true (carried _ _ _ _ (omega arith) c.loop-i.invariant)).at

pub loop-i-preserved : goal.loop-i-preserved
loop-i-preserved c =
    carry c.args.sizes.now c.loop-i.row (c.loop-i.i - 1) _ (omega arith) c.if-row-i.false (carried _ _ _ _ (omega arith) c.loop-i.invariant)
