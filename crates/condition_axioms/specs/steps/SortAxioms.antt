-- The axioms of a sort by its own entry. Where the sorts of a signature have different names, they are those of the definition, which looks the
-- sort's name up.
use Rattle.std.specs.Prelude.{if◌then◌else◌, List, [], ◌∷◌}
use Rattle.nxf_tree.specs.declared.tree.SortEntry.{SortEntry}
use Rattle.nxf_tree.specs.declared.tree.IndexEntry.{IndexEntry}
use Rattle.nxf_tree.specs.declared.tree.Formula.{Formula}
use Rattle.nxf_tree.specs.Signature.{constant_regime}
use Rattle.nxf_tree.specs.Axioms.{someone_axiom, everyone_axiom, monotone_axioms}

abbrev pub entry_axioms : List IndexEntry → SortEntry → List Formula
entry_axioms indexes entry =
    if constant_regime entry.regime then []
    else someone_axiom entry.name ∷ everyone_axiom entry.name ∷ monotone_axioms indexes entry.name entry.regime
