-- The tables of a Kripke structure with given sizes: how many cells they have, and how many tables there are.
use Rattle.std.proofs.Common.{◌≡◌, ℕ, zero, suc, ◌+◌, ◌*◌, List, [], ◌∷◌, ◌++◌, length, min, inl, inr, refl, ◌∙◌, ap, arith}
use Rattle.std.proofs.Math.Nat.{mul_comm}
use Rattle.std.proofs.lemmas.Bool.{cases_Bool}
use Rattle.nxf_tree.specs.declared.tree.IndexEntry.{IndexEntry}
use Rattle.nxf_tree.specs.declared.tree.SortEntry.{SortEntry}
use Rattle.nxf_tree.specs.Rows.{Shape}
use Rattle.nxf_tree.specs.Signature.{constant_regime, existence_sorts}
use Rattle.nxf_tree.specs.Structures.{relation_shapes, existence_shapes}
use Rattle.fin_struct.specs.Limits.{cells_in}
use Rattle.fin_struct.proofs.PlacesLemmas.{capped}

pub cells-append : (xs ys : List Shape) → cells_in (xs ++ ys) ≡ cells_in xs + cells_in ys
cells-append [] ys = omega arith
cells-append (x ∷ xs) ys = omega (arith, cells-append xs ys)

times_suc : (k p : ℕ) → p + k * p ≡ suc k * p
times_suc k p = grind arith

pub relation-cells : (n : ℕ) (entries : List IndexEntry) → cells_in (relation_shapes n entries) ≡ length entries * (n * (n * 1))
relation-cells n [] = omega arith
relation-cells n (entry ∷ entries) = ap (λ (m : ℕ). n * (n * 1) + m) (relation-cells n entries) ∙ times_suc (length entries) (n * (n * 1))

-- rows with a world in front, capped on the way
pub world_rows : (n rows some all most : ℕ) → some ≡ min rows most → all ≡ min (some * n) most → all ≡ min (n * rows) most
world_rows zero rows some all most e f = grind arith
world_rows (suc n) rows some all most e f =
    f ∙ ap (λ (m : ℕ). min (m * suc n) most) e ∙ capped rows (suc n) most (omega arith) ∙ ap (λ (m : ℕ). min m most) (mul_comm rows (suc n))

pub existence-count : (worlds : ℕ) (sizes : List ℕ) (k : ℕ) (entries : List SortEntry) → length (existence_shapes worlds sizes k entries) ≡ length (existence_sorts entries)
existence-count worlds sizes k [] = refl
existence-count worlds sizes k (entry ∷ entries) = elim (cases_Bool (constant_regime entry.regime)) [
  | inl constant ↦ (rw constant (existence-count worlds sizes (suc k) entries))
  | inr varying ↦ (rw varying (ap suc (existence-count worlds sizes (suc k) entries)))
]
