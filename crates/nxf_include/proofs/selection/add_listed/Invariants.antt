use Rattle.std.proofs.Common.{◌≡◌, ◌++◌, ℕ, List}
use Rattle.std.specs.List.{filter, list_any}
use Rattle.std.specs.Prelude.{◌||◌}
use Rattle.std.specs.Vec.Iter.{into_iter_items}
use Rattle.indexmap.specs.IndexSet.{contains}
use Rattle.nxf_tree.specs.Names.{same_text}
use Rattle.syntax_definitions.specs.Gathered.{is_listed, has_name}
use Rattle.nxf_include.proofs.selection.add_listed.Given as goal

abbrev pub invariant-loop-statement : goal.invariant-loop-statement
invariant-loop-statement l =
    (l.into ++ filter (is_listed l.names) (into_iter_items l.statement-iterator) ≡ l.fn.into ++ filter (is_listed l.names) l.fn.statements)
    × ((name : List ℕ) → (contains same_text l.found name || list_any (has_name name) (filter (is_listed l.names) (into_iter_items l.statement-iterator)))
    ≡ list_any (has_name name) (filter (is_listed l.names) l.fn.statements))
