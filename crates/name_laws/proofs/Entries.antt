-- The names of the entries that are made for names.
use Rattle.std.proofs.Common.{◌≡◌, List, [], ◌∷◌, refl}
use Rattle.std.specs.Prelude.{map}
use Rattle.nxf_tree.specs.declared.tree.IndexName.{IndexName}
use Rattle.nxf_tree.specs.declared.tree.IndexEntry.{IndexEntry}
use Rattle.nxf_tree.specs.declared.tree.SortName.{SortName}
use Rattle.nxf_tree.specs.declared.tree.SortEntry.{SortEntry}
use Rattle.nxf_tree.specs.Signature.{sort_names, index_names}

-- the names of a signature are those of its tables
pub sorts_named : (f : SortName → SortEntry) → ((s : SortName) → (f s).name ≡ s) → (ss : List SortName) → sort_names (map f ss) ≡ ss
sorts_named f h [] = refl
sorts_named f h (s ∷ ss) = λ i. h s i ∷ sorts_named f h ss i

pub indexes_named : (f : IndexName → IndexEntry) → ((i : IndexName) → (f i).name ≡ i) → (is : List IndexName) → index_names (map f is) ≡ is
indexes_named f h [] = refl
indexes_named f h (i ∷ is) = λ j. h i j ∷ indexes_named f h is j
