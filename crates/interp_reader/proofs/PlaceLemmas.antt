-- The numbers with which keys begin, one entry more.
use Rattle.std.proofs.Common.{◌≡◌, ℕ, zero, suc, ◌+◌, Bool, true, false, List, [], ◌∷◌, take, refl, ap, ◌∙◌, arith}
use Rattle.std.specs.Prelude.{◌||◌, slice_get}
use Rattle.interp_reader.specs.steps.Filling.{begins_at, begins_in, has_place}

place-suc : (es : List (List ℕ × ℕ)) (i k : ℕ) → has_place (take (suc i) es) k ≡ has_place (take i es) k || begins_in k (slice_get es i)
place-suc [] zero k = refl
place-suc [] (suc i) k = refl
place-suc (e ∷ es) zero k = by (begins_at k e.0)
  where
    by : (b : Bool) → b || false ≡ false || b
    by true = refl
    by false = refl
place-suc (e ∷ es) (suc i) k = ap (λ b. begins_at k e.0 || b) (place-suc es i k) ∙ by (begins_at k e.0) (has_place (take i es) k) (begins_in k (slice_get es i))
  where
    by : (a b d : Bool) → a || (b || d) ≡ (a || b) || d
    by true b d = refl
    by false b d = refl

pub place-next : (es : List (List ℕ × ℕ)) (i k : ℕ) → has_place (take (i + 1) es) k ≡ has_place (take i es) k || begins_in k (slice_get es i)
place-next es i k = let next : i + 1 ≡ suc i = omega arith in ap (λ n. has_place (take n es) k) next ∙ place-suc es i k
