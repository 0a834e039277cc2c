use Rattle.std.proofs.Common.{◌≡◌, ◌++◌, drop}
use Rattle.nxf_tree.specs.Specification.{override_list}
use Rattle.logic_spec.proofs.read.all_overrides.Given as goal

abbrev pub invariant-loop-entry : goal.invariant-loop-entry
invariant-loop-entry l = l.overrides ++ override_list (drop l.entry-index l.entries) ≡ override_list l.entries
