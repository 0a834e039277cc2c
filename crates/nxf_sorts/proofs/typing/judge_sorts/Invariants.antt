use Rattle.std.proofs.Common.{◌≡◌, drop}
use Rattle.nxf_tree.specs.Sorting.{modal_language}
use Rattle.nxf_tree.specs.SortFaults.{unknown_sorts}
use Rattle.nxf_sorts.proofs.typing.judge_sorts.Given as goal

abbrev pub invariant-loop-sort : goal.invariant-loop-sort
invariant-loop-sort l = unknown_sorts (modal_language l.names.signature) l.sorts ≡ unknown_sorts (modal_language l.names.signature) (drop l.sort-index l.sorts)
