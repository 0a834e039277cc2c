-- For callers: one call after another.
use Rattle.std.proofs.Common.{◌≡◌, List, [], ◌∷◌, refl, ◌∙◌, arith}
use mathlib.Core.Logic.{inl, inr}
use Rattle.nxf_base.specs.Shelf.{Shelf}
use Rattle.nxf_include.specs.Roots.{KeepEach, SomeFaultRose, EachMissRose, files_of}

-- a list that nobody asked keeps all
pub Keeps-same : (xs : List Shelf) → KeepEach xs xs
Keeps-same [] = tt
Keeps-same (x ∷ xs) = (record { files = refl; faults = omega arith; misses = omega arith }, Keeps-same xs)

pub Keeps-after : (xs ys zs : List Shelf) → KeepEach xs ys → KeepEach ys zs → KeepEach xs zs
Keeps-after [] [] [] h k = tt
Keeps-after [] [] (z ∷ zs) h k = absurd k
Keeps-after [] (y ∷ ys) zs h k = absurd h
Keeps-after (x ∷ xs) [] zs h k = absurd h
Keeps-after (x ∷ xs) (y ∷ ys) [] h k = absurd k
Keeps-after (x ∷ xs) (y ∷ ys) (z ∷ zs) h k =
    (record { files = k.0.files ∙ h.0.files; faults = omega (arith, h.0.faults, k.0.faults); misses = omega (arith, h.0.misses, k.0.misses) }, Keeps-after xs ys zs h.1 k.1)

-- the files are those from before
pub Keeps-files : (xs ys : List Shelf) → KeepEach xs ys → files_of ys ≡ files_of xs
Keeps-files [] [] h = refl
Keeps-files [] (y ∷ ys) h = absurd h
Keeps-files (x ∷ xs) [] h = absurd h
Keeps-files (x ∷ xs) (y ∷ ys) h = rw (h.0.files, Keeps-files xs ys h.1) refl

pub fault_after : (xs ys zs : List Shelf) → KeepEach xs ys → SomeFaultRose ys zs → SomeFaultRose xs zs
fault_after [] [] zs h k = k
fault_after [] (y ∷ ys) zs h k = absurd h
fault_after (x ∷ xs) [] zs h k = absurd h
fault_after (x ∷ xs) (y ∷ ys) [] h k = absurd k
fault_after (x ∷ xs) (y ∷ ys) (z ∷ zs) h (inl k) = inl (omega (arith, h.0.faults, k))
fault_after (x ∷ xs) (y ∷ ys) (z ∷ zs) h (inr k) = inr (fault_after xs ys zs h.1 k)

pub misses_after : (xs ys zs : List Shelf) → KeepEach xs ys → EachMissRose ys zs → EachMissRose xs zs
misses_after [] [] zs h k = k
misses_after [] (y ∷ ys) zs h k = absurd h
misses_after (x ∷ xs) [] zs h k = absurd h
misses_after (x ∷ xs) (y ∷ ys) [] h k = absurd k
misses_after (x ∷ xs) (y ∷ ys) (z ∷ zs) h k = (omega (arith, h.0.misses, k.0), misses_after xs ys zs h.1 k.1)
