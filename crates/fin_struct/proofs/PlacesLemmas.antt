-- Places in row-major order.
use Rattle.std.proofs.Common.{◌≡◌, ℕ, zero, suc, ◌+◌, ◌*◌, ◌<◌, ◌≤◌, inl, inr, List, [], ◌∷◌, length, min, drop, get_or, refl, ◌∙◌, ap, ap₂, arith}
use Rattle.std.proofs.Math.Nat.{mul_assoc, mul_comm, add-mul, mul-le-mul_right, min-eq_left, mul-le-mul_left, le-mul_of_pos_right}
use Rattle.std.proofs.lemmas.Nat.{mul-add-lt, same_from_place}
use Rattle.std.proofs.lemmas.List.{drop_more, drop_all}
use Rattle.std.proofs.lemmas.Bool.{cases_lt}
use Rattle.fin_struct.specs.Places.{rows_count, InRange, place}

-- a row in range has as many numbers as there are sizes
pub InRange-length : (sizes row : List ℕ) → InRange sizes row → length sizes ≡ length row
InRange-length [] [] h = refl
InRange-length [] (x ∷ row) h = absurd h
InRange-length (size ∷ sizes) [] h = absurd h
InRange-length (size ∷ sizes) (x ∷ row) h = ap suc (InRange-length sizes row h.1)

-- a factor of a capped number
pub capped : (a r most : ℕ) → 0 < r → min (min a most * r) most ≡ min (a * r) most
capped a r most pos = elim (cases_lt most a) [
  | inl over ↦
      let m : most * 1 ≤ most * r = mul-le-mul_left most pos in
      let n : most * r ≤ a * r = mul-le-mul_right r (omega arith) in
      let e : min a most ≡ most = omega arith in
      (rw e (omega arith))
  | inr under ↦ (rw (min-eq_left under) refl)
]

-- a product that is capped on the way is capped at the end
pub capped_step : (n d r most : ℕ) → min (min (n * d) most * r) most ≡ min (n * (d * r)) most
capped_step n d zero most = grind arith
capped_step n d (suc r) most = capped (n * d) (suc r) most (omega arith) ∙ ap (λ x. min x most) (mul_assoc n d (suc r))

-- the place of a row in range is one of the table's
pub place_below : (sizes row : List ℕ) → InRange sizes row → place sizes row < rows_count sizes
place_below [] [] h = omega arith
place_below [] (x ∷ row) h = absurd h
place_below (size ∷ sizes) [] h = absurd h
place_below (size ∷ sizes) (x ∷ row) h =
    omega (arith, mul-add-lt x (rows_count sizes) (place sizes row) size h.0 (place_below sizes row h.1), mul_comm size (rows_count sizes))

-- what one more number does to the place so far
pub record Step (sizes row : List ℕ) (i at total : ℕ) : Type 0 where
  pub so_far : (at * get_or sizes i 0 + get_or row i 0) * rows_count (drop (i + 1) sizes) + place (drop (i + 1) sizes) (drop (i + 1) row) ≡ total
  pub in_range : InRange (drop (i + 1) sizes) (drop (i + 1) row)
  pub small : at * get_or sizes i 0 ≤ total

step : (size : ℕ) (sizes : List ℕ) (x : ℕ) (row : List ℕ) (at total : ℕ) → InRange (size ∷ sizes) (x ∷ row) → at * rows_count (size ∷ sizes) + place (size ∷ sizes) (x ∷ row) ≡ total → ((at * size + x) * rows_count sizes + place sizes row ≡ total) × (at * size ≤ total)
step size sizes x row at total h e =
    let R = rows_count sizes in
    let pos = place_below sizes row h.1 in
    let a1 = mul_assoc at size R in
    let a2 = add-mul (at * size) x R in
    let a3 : at * size ≤ at * size * R = le-mul_of_pos_right (at * size) (omega arith) in
    (omega arith, omega arith)

pub place_step : (sizes row : List ℕ) (i at total : ℕ) → i < length sizes → i < length row → InRange (drop i sizes) (drop i row) → at * rows_count (drop i sizes) + place (drop i sizes) (drop i row) ≡ total → Step sizes row i at total
place_step sizes row i at total in_sizes in_row h e =
    let s = drop_more sizes i 0 in_sizes in
    let r = drop_more row i 0 in_row in
    let h2 = rw (s, r) at h in
    let e2 = rw (s, r) at e in
    let out = step _ _ _ _ at total h2 e2 in
    record { so_far = out.0; in_range = h2.1; small = out.1 }

-- one more size multiplies the count, up to the cap
pub count_step : (sizes : List ℕ) (i n m all : ℕ) → i < length sizes → m ≡ min (n * get_or sizes i 0) 18446744073709551615 → min (n * rows_count (drop i sizes)) 18446744073709551615 ≡ all → min (m * rows_count (drop (i + 1) sizes)) 18446744073709551615 ≡ all
count_step sizes i n m all below e inv =
    let s = drop_more sizes i 0 below in
    let inv2 = rw s at inv in
    (rw e (capped_step n (get_or sizes i 0) (rows_count (drop (i + 1) sizes)) 18446744073709551615 ∙ inv2))

-- at the end, the place so far is the place
pub place_end : (sizes row : List ℕ) (i at total : ℕ) → length sizes ≤ i → length row ≤ i → at * rows_count (drop i sizes) + place (drop i sizes) (drop i row) ≡ total → at ≡ total
place_end sizes row i at total over_sizes over_row e =
    let s = drop_all i sizes over_sizes in
    let h = rw s at e in
    omega (arith, h)

-- different rows have different places
pub place_injective : (sizes row other : List ℕ) → InRange sizes row → InRange sizes other → place sizes row ≡ place sizes other → row ≡ other
place_injective [] [] [] h k e = refl
place_injective [] [] (y ∷ other) h k e = absurd k
place_injective [] (x ∷ row) other h k e = absurd h
place_injective (size ∷ sizes) [] other h k e = absurd h
place_injective (size ∷ sizes) (x ∷ row) [] h k e = absurd k
place_injective (size ∷ sizes) (x ∷ row) (y ∷ other) h k e =
    let R = rows_count sizes in
    let p = place_below sizes row h.1 in
    let q = place_below sizes other k.1 in
    let same = same_from_place x (place sizes row) y (place sizes other) R p q e in
    ap₂ ◌∷◌ same.0 (place_injective sizes row other h.1 k.1 same.1)

-- a place under a slowest number is below the next one's
pub total_below : (first rows at : ℕ) → at < rows → first * rows + at < (first + 1) * rows
total_below first rows at h = omega (arith, add-mul first 1 rows)

-- the place of a row of two numbers
pub place_pair : (sizes : List ℕ) (x y : ℕ) → InRange sizes (x ∷ y ∷ []) → place sizes (x ∷ y ∷ []) ≡ x * get_or sizes 1 0 + y
place_pair [] x y h = absurd h
place_pair (a ∷ []) x y h = absurd h.1
place_pair (a ∷ b ∷ []) x y h =
    let one : b * 1 ≡ b = omega arith in
    rw one (let e : x * b + (y * 1 + 0) ≡ x * b + y = omega arith in e)
place_pair (a ∷ b ∷ c ∷ sizes) x y h = absurd h.1.1
