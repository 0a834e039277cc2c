use Rattle.std.proofs.Common.{◌≡◌, ◌++◌, take}
use Rattle.std.specs.List.{join_by}
use Rattle.nxf_tree.specs.Text.{unit_text}
use Rattle.tf0_printer.proofs.formula.+formula.Given as goal

abbrev pub invariant-write_members-loop-at : goal.invariant-write_members-loop-at
invariant-write_members-loop-at l = l.out.items ≡ l.initial.out.items ++ join_by unit_text l.operator (take l.at l.formulas)
