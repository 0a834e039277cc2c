-- The table of existence in one sort.
use Rattle.std.specs.Prelude.{ℕ, if◌then◌else◌, List, [], ◌∷◌, None}
use Rattle.nxf_tree.specs.declared.tree.SortEntry.{SortEntry}
use Rattle.nxf_tree.specs.declared.tree.TableEntry.{TableEntry}
use Rattle.nxf_tree.specs.Names.{existence_name}
use Rattle.nxf_tree.specs.Signature.{constant_regime}

-- n is the number of the sort in the printed problem; a constant sort has no table
abbrev pub existence_table : ℕ → SortEntry → List TableEntry
existence_table n entry = if constant_regime entry.regime then [] else record { name = existence_name entry.name; args = 0 ∷ n ∷ []; gives = None } ∷ []
