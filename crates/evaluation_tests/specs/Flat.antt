-- A small classical signature and its formulas.
use Rattle.std.specs.Prelude.{◌≡◌, true, [], ◌∷◌, codes, None}
use Rattle.nxf_tree.specs.declared.tree.SortName.TheVariants.{User}
use Rattle.nxf_tree.specs.declared.tree.ClassicalSignature.{ClassicalSignature}
use Rattle.nxf_tree.specs.declared.tree.Formula.{Formula}
use Rattle.nxf_tree.specs.Names.{world_name}
use Rattle.nxf_tree.specs.Sorting.{Bound, classical_language}
use Rattle.classical_evaluation_definitions.specs.ClassicalSorting.{is_classical}

-- the sort of worlds, and a predicate of a world
abbrev pub flat : ClassicalSignature
flat = record { sorts = User world_name ∷ []; tables = record { name = codes "p"; args = 0 ∷ []; gives = None } ∷ [] }

-- the formula has no free variables and is well sorted, wherever it stands
abbrev pub IsFlat : Formula → Type 0
IsFlat f = (b : Bound) → is_classical (classical_language flat) b f ≡ true
