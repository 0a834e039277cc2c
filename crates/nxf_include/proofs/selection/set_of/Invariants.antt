use Rattle.std.proofs.Common.{◌≡◌, ℕ, List, drop}
use Rattle.std.specs.Prelude.{◌||◌}
use Rattle.indexmap.specs.IndexSet.{contains}
use Rattle.nxf_tree.specs.Counting.{has}
use Rattle.nxf_tree.specs.Names.{same_text}
use Rattle.nxf_include.proofs.selection.set_of.Given as goal

abbrev pub invariant-loop-name : goal.invariant-loop-name
invariant-loop-name l = (name : List ℕ) → (contains same_text l.set name || has same_text name (drop l.name-index l.names)) ≡ has same_text name l.names
