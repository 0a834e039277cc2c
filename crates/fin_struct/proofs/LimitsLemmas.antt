-- Sizes of sorts, and sums of products that stop at a number.
use Rattle.std.proofs.Common.{◌≡◌, ℕ, zero, suc, ◌+◌, ◌*◌, ◌<◌, ◌≤◌, List, [], ◌∷◌, map, length, min, drop, get_or, refl, arith}
use Rattle.std.proofs.lemmas.List.{get_or-map, length-map}
use Rattle.nxf_tree.specs.Rows.{size_at}
use Rattle.fin_struct.specs.Places.{rows_count}
use Rattle.fin_struct.proofs.PlacesLemmas.{count_step}

pub size_at-read : (sizes : List ℕ) (k : ℕ) → get_or sizes k 0 ≡ size_at sizes k
size_at-read [] zero = refl
size_at-read [] (suc k) = refl
size_at-read (size ∷ sizes) zero = refl
size_at-read (size ∷ sizes) (suc k) = size_at-read sizes k

pub size_missing : (sizes : List ℕ) (k : ℕ) → length sizes ≤ k → 0 ≡ size_at sizes k
size_missing [] k h = refl
size_missing (size ∷ sizes) zero h = absurd (omega arith)
size_missing (size ∷ sizes) (suc k) h = size_missing sizes k (omega arith)

-- one more argument multiplies the count, up to the greatest number
pub rows_step : (sizes args : List ℕ) (i n m all : ℕ) → i < length args → m ≡ min (n * size_at sizes (get_or args i 0)) 18446744073709551615 → min (n * rows_count (drop i (map (size_at sizes) args))) 18446744073709551615 ≡ all → min (m * rows_count (drop (i + 1) (map (size_at sizes) args))) 18446744073709551615 ≡ all
rows_step sizes args i n m all below e inv =
    let at = get_or-map (size_at sizes) args i 0 0 below in
    count_step (map (size_at sizes) args) i n m all (omega (arith, length-map args (size_at sizes))) (rw at e) inv
