use Rattle.std.proofs.Common.{◌≡◌, [], take, drop}
use Rattle.nxf_tree.specs.Specification.{entry_fault}
use Rattle.logic_spec.proofs.FirstFaults.{walked}
use Rattle.logic_spec.proofs.judge.judge_entries.Given as goal

abbrev pub invariant-loop-i : goal.invariant-loop-i
invariant-loop-i l = walked entry_fault [] l.entries ≡ walked entry_fault (take l.i l.entries) (drop l.i l.entries)
