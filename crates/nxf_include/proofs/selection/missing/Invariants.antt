use Rattle.std.proofs.Common.{◌≡◌, ℕ, List, drop}
use Rattle.std.specs.List.{list_any}
use Rattle.indexmap.specs.IndexSet.{contains}
use Rattle.nxf_tree.specs.Names.{same_text}
use Rattle.nxf_tree.specs.declared.tree.Statement.{Statement}
use Rattle.syntax_definitions.specs.Gathered.{first_missing, has_name}
use Rattle.nxf_include.proofs.selection.missing.Given as goal

abbrev pub invariant-loop-name : goal.invariant-loop-name
invariant-loop-name l = (statements : List Statement) → ((name : List ℕ) → contains same_text l.found name ≡ list_any (has_name name) statements)
    → first_missing l.names statements ≡ first_missing (drop l.name-index l.names) statements
