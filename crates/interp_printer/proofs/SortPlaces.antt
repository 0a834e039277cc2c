-- The sorts that are looked up.
use Rattle.std.proofs.Common.{◌≡◌, ℕ, zero, suc, ◌<◌, List, [], ◌∷◌, length, get_or, refl, arith}
use Rattle.nxf_tree.specs.declared.tree.SortName.{SortName}
use Rattle.nxf_tree.specs.Problem.{classical_sort_at}

pub classical_sort_is : (sorts : List SortName) (k : ℕ) (d : SortName) → k < length sorts → classical_sort_at sorts k ≡ get_or sorts k d
classical_sort_is [] k d h = absurd (omega arith)
classical_sort_is (s ∷ sorts) zero d h = refl
classical_sort_is (s ∷ sorts) (suc k) d h = classical_sort_is sorts k d (omega arith)
