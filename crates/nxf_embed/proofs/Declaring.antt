-- The definitions of declarations on lists that grow, and on places that are looked up.
use Rattle.std.proofs.Common.{◌≡◌, ℕ, zero, suc, ◌≤◌, List, [], ◌∷◌, ◌++◌, length, get_or, refl, ap, arith}
use Rattle.nxf_tree.specs.declared.tree.SortName.{SortName}
use Rattle.nxf_tree.specs.declared.tree.SortName.TheVariants.{Individual, User}
use Rattle.nxf_tree.specs.declared.tree.Typing.TheVariants.{Sort}
use Rattle.nxf_tree.specs.Problem.{declaration, sort_declarations, classical_sort_at}

pub sort_declarations-append : (xs ys : List SortName) → sort_declarations (xs ++ ys) ≡ sort_declarations xs ++ sort_declarations ys
sort_declarations-append [] ys = refl
sort_declarations-append (Individual ∷ xs) ys = sort_declarations-append xs ys
sort_declarations-append (User name ∷ xs) ys = ap (λ rest. declaration name (Sort name) ∷ rest) (sort_declarations-append xs ys)

pub classical_sort_is : (sorts : List SortName) (k : ℕ) → classical_sort_at sorts k ≡ get_or sorts k Individual
classical_sort_is [] k = refl
classical_sort_is (s ∷ sorts) zero = refl
classical_sort_is (s ∷ sorts) (suc k) = classical_sort_is sorts k

pub classical_sort_past : (sorts : List SortName) (k : ℕ) → length sorts ≤ k → Individual ≡ classical_sort_at sorts k
classical_sort_past [] k h = refl
classical_sort_past (s ∷ sorts) zero h = absurd (omega arith)
classical_sort_past (s ∷ sorts) (suc k) h = classical_sort_past sorts k (omega arith)
