-- The slice's test for what a text begins with is that of the names.
use Rattle.std.proofs.Common.{◌≡◌, ℕ, List, [], ◌∷◌, nat_eq, refl, ap}
use Rattle.std.specs.Prelude.{◌&&◌}
use Rattle.std.specs.List.{starts_with}
use Rattle.nxf_tree.specs.Names.{begins}

pub starts_with_begins : (front text : List ℕ) → starts_with nat_eq text front ≡ begins front text
starts_with_begins [] text = refl
starts_with_begins (x ∷ front) [] = refl
starts_with_begins (x ∷ front) (y ∷ text) = ap (λ b. nat_eq x y && b) (starts_with_begins front text)
