use Rattle.std.proofs.Common.{◌≡◌, ℕ, [], length}
use Rattle.std.specs.Option.{option_map}
use Rattle.nxf_base.specs.declared.status.SpecKind.{SpecKind}
use Rattle.nxf_tree.specs.Faults.{first_fault}
use Rattle.logic_spec.specs.steps.Seen.{known}
use Rattle.logic_spec.proofs.ListFaults.{judge_in, fault_from}
use Rattle.logic_spec.proofs.judge.judge_items.Given as goal

abbrev pub invariant-loop-items : goal.invariant-loop-items
invariant-loop-items l = option_map (λ (fault : ℕ × SpecKind). fault.1) (first_fault (judge_in l.setting) 0 [] l.initial.items) ≡ fault_from l.setting (known l.seen) l.items

abbrev pub decreases-loop-items : goal.decreases-loop-items
decreases-loop-items l = length l.items
