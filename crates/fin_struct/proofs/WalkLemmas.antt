-- What a step from one row to the next does to the place.
use Rattle.std.proofs.Common.{◌≡◌, ℕ, zero, suc, ◌+◌, ◌*◌, ◌<◌, ◌≤◌, List, [], ◌∷◌, length, drop, set, get_or, replicate, refl, sym, ◌∙◌, ap, arith}
use Rattle.std.proofs.lemmas.List.{drop_more, drop_all, drop-drop}
use Rattle.nxf_tree.specs.Rows.{all_rows}
use Rattle.fin_struct.specs.Places.{rows_count, InRange, place}
use Rattle.fin_struct.specs.steps.Walk.{IsWalk}
use Rattle.fin_struct.proofs.PlacesLemmas.{InRange-length}
use Rattle.fin_struct.proofs.RowListsLemmas.{length-all_rows, all_rows-at}

pub InRange-at : (sizes row : List ℕ) (i : ℕ) → InRange sizes row → i < length row → get_or row i 0 < get_or sizes i 0
InRange-at [] [] i h below = absurd (omega arith)
InRange-at [] (x ∷ row) i h below = absurd h
InRange-at (size ∷ sizes) [] i h below = absurd h
InRange-at (size ∷ sizes) (x ∷ row) zero h below = h.0
InRange-at (size ∷ sizes) (x ∷ row) (suc i) h below = InRange-at sizes row i h.1 (omega arith)

pub InRange-set : (sizes row : List ℕ) (i v : ℕ) → InRange sizes row → v < get_or sizes i 0 → InRange sizes (set row i v)
InRange-set [] [] i v h small = tt
InRange-set [] (x ∷ row) i v h small = absurd h
InRange-set (size ∷ sizes) [] i v h small = absurd h
InRange-set (size ∷ sizes) (x ∷ row) zero v h small = (small, h.1)
InRange-set (size ∷ sizes) (x ∷ row) (suc i) v h small = (h.0, InRange-set sizes row i v h.1 small)

-- what one number more or less does to the place
pub place-set : (sizes row : List ℕ) (i v : ℕ) → InRange sizes row → i < length row → place sizes (set row i v) + get_or row i 0 * rows_count (drop (suc i) sizes) ≡ place sizes row + v * rows_count (drop (suc i) sizes)
place-set [] [] i v h below = absurd (omega arith)
place-set [] (x ∷ row) i v h below = absurd h
place-set (size ∷ sizes) [] i v h below = absurd h
place-set (size ∷ sizes) (x ∷ row) zero v h below = omega arith
place-set (size ∷ sizes) (x ∷ row) (suc i) v h below = omega (arith, place-set sizes row i v h.1 (omega arith))

-- the numbers from place i on are 0 again, and one more of number i - 1 makes the next row
pub record Carried (sizes row : List ℕ) (i total : ℕ) : Type 0 where
  pub in_range : InRange sizes row
  pub so_far : place sizes row + rows_count (drop i sizes) ≡ total

rows-drop : (sizes : List ℕ) (i : ℕ) → i < length sizes → rows_count (drop i sizes) ≡ get_or sizes i 0 * rows_count (drop (suc i) sizes)
rows-drop [] i below = absurd (omega arith)
rows-drop (size ∷ sizes) zero below = refl
rows-drop (size ∷ sizes) (suc i) below = rows-drop sizes i (omega arith)

pub carry : (sizes row : List ℕ) (i total : ℕ) → i < length row → get_or sizes i 0 ≤ get_or row i 0 + 1 → Carried sizes row (suc i) total → Carried sizes (set row i 0) i total
carry sizes row i total below full h =
    let R = rows_count (drop (suc i) sizes) in
    let small = InRange-at sizes row i h.in_range below in
    let len = InRange-length sizes row h.in_range in
    let last : get_or sizes i 0 ≡ get_or row i 0 + 1 = omega arith in
    let rows : rows_count (drop i sizes) ≡ (get_or row i 0 + 1) * R = rows-drop sizes i (omega arith) ∙ ap (λ (n : ℕ). n * R) last in
    let moved = place-set sizes row i 0 h.in_range below in
    let so_far = h.so_far in
    record { in_range = InRange-set sizes row i 0 h.in_range (omega arith); so_far = omega arith }

pub record NextRow (sizes row : List ℕ) (total : ℕ) : Type 0 where
  pub in_range : InRange sizes row
  pub at : place sizes row ≡ total

pub finish : (sizes row : List ℕ) (i total : ℕ) → i < length row → get_or row i 0 + 1 < get_or sizes i 0 → Carried sizes row (suc i) total → NextRow sizes (set row i (get_or row i 0 + 1)) total
finish sizes row i total below free h =
    let moved = place-set sizes row i (get_or row i 0 + 1) h.in_range below in
    let so_far = h.so_far in
    record { in_range = InRange-set sizes row i (get_or row i 0 + 1) h.in_range free; at = omega arith }

-- one row less is to come
pub walk-next : (sizes : List ℕ) (at : ℕ) → drop (at + 1) (all_rows sizes) ≡ drop 1 (drop at (all_rows sizes))
walk-next sizes at = ap (λ (k : ℕ). drop k (all_rows sizes)) (omega arith) ∙ sym (drop-drop 1 at (all_rows sizes))

-- the row of a walk is the next of the list
pub walk-row : (sizes row : List ℕ) (at rows : ℕ) → IsWalk sizes row at rows → at < rows → drop at (all_rows sizes) ≡ row ∷ drop 1 (drop at (all_rows sizes))
walk-row sizes row at rows walk below =
    let is : get_or (all_rows sizes) at [] ≡ row = ap (λ (k : ℕ). get_or (all_rows sizes) k []) (sym (walk.here below)) ∙ all_rows-at sizes row (walk.in_range below) in
    let more = drop_more (all_rows sizes) at [] (omega (arith, length-all_rows sizes, walk.count)) in
    let rest = walk-next sizes at in
    more ∙ (λ i. is i ∷ rest i)

-- and after the last no row is to come
pub walk-over : (sizes row : List ℕ) (at rows : ℕ) → IsWalk sizes row at rows → rows ≤ at → drop at (all_rows sizes) ≡ []
walk-over sizes row at rows walk over = drop_all at (all_rows sizes) (omega (arith, length-all_rows sizes, walk.count))

-- before the first step no number was passed
pub carried-none : (sizes row : List ℕ) → InRange sizes row → Carried sizes row (length row) (place sizes row + 1)
carried-none sizes row h =
    let len = InRange-length sizes row h in
    let none = drop_all (length row) sizes (omega (arith, len)) in
    record { in_range = h; so_far = (rw none refl) }

positive-parts : (a b : ℕ) → 0 < a * b → (0 < a) × (0 < b)
positive-parts zero b h = absurd (omega arith)
positive-parts (suc a) zero h = absurd (omega arith)
positive-parts (suc a) (suc b) h = (omega arith, omega arith)

-- the first row
pub zeros-in_range : (sizes : List ℕ) → 0 < rows_count sizes → InRange sizes (replicate (length sizes) 0)
zeros-in_range [] h = tt
zeros-in_range (size ∷ sizes) h =
    let parts = positive-parts size (rows_count sizes) h in
    (parts.0, zeros-in_range sizes parts.1)

pub place-zeros : (sizes : List ℕ) → place sizes (replicate (length sizes) 0) ≡ 0
place-zeros [] = refl
place-zeros (size ∷ sizes) = omega (arith, place-zeros sizes)
