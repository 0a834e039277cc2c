-- The first `at` libraries were asked, and each had no file of the name; the others are as before.
use Rattle.std.proofs.Common.{◌≡◌, ℕ, zero, suc, ◌<◌, ◌≤◌, List, [], ◌∷◌, length, get_or, map, Some, None, refl, sym, subst, arith}
use Rattle.std.proofs.Math.ListN.{set}
use Rattle.std.specs.Prelude.{IfSome}
use mathlib.Core.Logic.{inl, inr}
use Rattle.std.specs.Ordering.{nat_cmp}
use Rattle.std.specs.Cmp.Lexicographic.{slice_cmp}
use Rattle.std.specs.FinMap as files
use Rattle.nxf_base.specs.Causes.{Rose}
use Rattle.nxf_base.specs.Files.{file_of}
use Rattle.nxf_base.specs.Shelf as one
use Rattle.nxf_base.specs.Shelf.{Shelf}
use Rattle.nxf_include.specs.Roots.{files_of, KeepEach, SomeFaultRose, EachMissRose}
use Rattle.nxf_include.proofs.Over.{told_first, told_others}

-- one library had no file of the name
pub record Missed (name : List ℕ) (x y : Shelf) : Type 0 where
  pub keeps : one.Keeps x y
  pub rose : Rose x.misses y.misses
  pub none : IfSome x.files (λ files. file_of name files ≡ None)

module _ {L : Type 0} (shelf : L → Shelf) (name : List ℕ) where
  abbrev pub Asked : ℕ → List L → List L → Type 0
  Asked zero old new = new ≡ old
  Asked (suc at) (x ∷ xs) (y ∷ ys) = Missed name (shelf x) (shelf y) × Asked at xs ys
  Asked _ _ _ = ⊥

  same_keeps : (xs : List L) → KeepEach (map shelf xs) (map shelf xs)
  same_keeps [] = tt
  same_keeps (x ∷ xs) = (record { files = refl; faults = omega arith; misses = omega arith }, same_keeps xs)

  -- the library at the place, as it was before, is then `y`
  pub asked_next : (at : ℕ) (old new : List L) (d y : L) → Asked at old new → at < length new → Missed name (shelf (get_or new at d)) (shelf y) → Asked (suc at) old (set new at y)
  asked_next zero old [] d y asked short missed = absurd (omega arith)
  asked_next zero [] (z ∷ zs) d y asked short missed = absurd (cc)
  asked_next zero (u ∷ us) (z ∷ zs) d y asked short missed =
      let e : z ≡ u = cc in
      (subst (λ v. Missed name (shelf v) (shelf y)) e missed, cc)
  asked_next (suc at) [] new d y asked short missed = absurd asked
  asked_next (suc at) (u ∷ us) [] d y asked short missed = absurd asked
  asked_next (suc at) (u ∷ us) (z ∷ zs) d y asked short missed = (asked.0, asked_next at us zs d y asked.1 (omega arith) missed)

  pub asked_keeps : (at : ℕ) (old new : List L) (d y : L) → Asked at old new → at < length new → one.Keeps (shelf (get_or new at d)) (shelf y) → KeepEach (map shelf old) (map shelf (set new at y))
  asked_keeps zero old [] d y asked short keeps = absurd (omega arith)
  asked_keeps zero [] (z ∷ zs) d y asked short keeps = absurd (cc)
  asked_keeps zero (u ∷ us) (z ∷ zs) d y asked short keeps =
      let e : z ≡ u = cc in
      let r : zs ≡ us = cc in
      (subst (λ v. one.Keeps (shelf v) (shelf y)) e keeps, subst (λ vs. KeepEach (map shelf us) (map shelf vs)) (sym r) (same_keeps us))
  asked_keeps (suc at) [] new d y asked short keeps = absurd asked
  asked_keeps (suc at) (u ∷ us) [] d y asked short keeps = absurd asked
  asked_keeps (suc at) (u ∷ us) (z ∷ zs) d y asked short keeps = (asked.0.keeps, asked_keeps at us zs d y asked.1 (omega arith) keeps)

  pub asked_fault : (at : ℕ) (old new : List L) (d y : L) → Asked at old new → at < length new → Rose (shelf (get_or new at d)).faults (shelf y).faults → SomeFaultRose (map shelf old) (map shelf (set new at y))
  asked_fault zero old [] d y asked short rose = absurd (omega arith)
  asked_fault zero [] (z ∷ zs) d y asked short rose = absurd (cc)
  asked_fault zero (u ∷ us) (z ∷ zs) d y asked short rose =
      let e : z ≡ u = cc in
      inl (subst (λ v. Rose (shelf v).faults (shelf y).faults) e rose)
  asked_fault (suc at) [] new d y asked short rose = absurd asked
  asked_fault (suc at) (u ∷ us) [] d y asked short rose = absurd asked
  asked_fault (suc at) (u ∷ us) (z ∷ zs) d y asked short rose = inr (asked_fault at us zs d y asked.1 (omega arith) rose)

  pub asked_here : (bytes : List ℕ) (at : ℕ) (old new : List L) (d : L) → Asked at old new → at < length new → IfSome (shelf (get_or new at d)).files (λ files. file_of name files ≡ Some bytes) → IfSome (files_of (map shelf old)) (λ files. file_of name files ≡ Some bytes)
  asked_here bytes zero old [] d asked short here = absurd (omega arith)
  asked_here bytes zero [] (z ∷ zs) d asked short here = absurd (cc)
  asked_here bytes zero (u ∷ us) (z ∷ zs) d asked short here =
      let e : z ≡ u = cc in
      told_first name bytes (shelf u).files (files_of (map shelf us)) (subst (λ v. IfSome (shelf v).files (λ files. file_of name files ≡ Some bytes)) e here)
  asked_here bytes (suc at) [] new d asked short here = absurd asked
  asked_here bytes (suc at) (u ∷ us) [] d asked short here = absurd asked
  asked_here bytes (suc at) (u ∷ us) (z ∷ zs) d asked short here =
      told_others name (Some bytes) (shelf u).files (files_of (map shelf us)) asked.0.none (asked_here bytes at us zs d asked.1 (omega arith) here)

  pub all_keep : (at : ℕ) (old new : List L) → Asked at old new → KeepEach (map shelf old) (map shelf new)
  all_keep zero old new asked = subst (λ vs. KeepEach (map shelf old) (map shelf vs)) (sym asked) (same_keeps old)
  all_keep (suc at) [] new asked = absurd asked
  all_keep (suc at) (u ∷ us) [] asked = absurd asked
  all_keep (suc at) (u ∷ us) (z ∷ zs) asked = (asked.0.keeps, all_keep at us zs asked.1)

  pub all_missed : (at : ℕ) (old new : List L) → Asked at old new → length old ≤ at → EachMissRose (map shelf old) (map shelf new)
  all_missed zero [] [] asked whole = tt
  all_missed zero [] (z ∷ zs) asked whole = absurd (cc)
  all_missed zero (u ∷ us) new asked whole = absurd (omega arith)
  all_missed (suc at) [] new asked whole = absurd asked
  all_missed (suc at) (u ∷ us) [] asked whole = absurd asked
  all_missed (suc at) (u ∷ us) (z ∷ zs) asked whole = (asked.0.rose, all_missed at us zs asked.1 (omega arith))

  pub all_absent : (at : ℕ) (old new : List L) → Asked at old new → length old ≤ at → IfSome (files_of (map shelf old)) (λ files. file_of name files ≡ None)
  all_absent at [] new asked whole = files.get-empty (slice_cmp nat_cmp) name
  all_absent zero (u ∷ us) new asked whole = absurd (omega arith)
  all_absent (suc at) (u ∷ us) [] asked whole = absurd asked
  all_absent (suc at) (u ∷ us) (z ∷ zs) asked whole =
      told_others name None (shelf u).files (files_of (map shelf us)) asked.0.none (all_absent at us zs asked.1 (omega arith))
