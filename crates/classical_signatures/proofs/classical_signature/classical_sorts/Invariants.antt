use Rattle.std.proofs.Common.{◌≡◌, ◌∷◌, take}
use Rattle.std.specs.Prelude.{map}
use Rattle.nxf_tree.specs.declared.tree.SortEntry.{SortEntry}
use Rattle.nxf_tree.specs.declared.tree.SortName.TheVariants.{User}
use Rattle.nxf_tree.specs.Names.{user_sort, world_name}
use Rattle.classical_signatures.proofs.classical_signature.classical_sorts.Given as goal

abbrev pub invariant-loop-sort : goal.invariant-loop-sort
invariant-loop-sort l = l.made ≡ User world_name ∷ map (λ (e : SortEntry). user_sort e.name) (take l.sort-index l.sort-items)
