use Rattle.std.proofs.Common.{◌≡◌, drop}
use Rattle.nxf_tree.specs.Sorting.{modal_language}
use Rattle.nxf_tree.specs.SortFaults.{overrides_fault}
use Rattle.nxf_sorts.proofs.overrides.judge_overrides.Given as goal

abbrev pub invariant-loop-item : goal.invariant-loop-item
invariant-loop-item l = overrides_fault (modal_language l.names.signature) l.overrides ≡ overrides_fault (modal_language l.names.signature) (drop l.item-index l.overrides)
