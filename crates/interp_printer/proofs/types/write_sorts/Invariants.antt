use Rattle.std.proofs.Common.{◌≡◌, ◌++◌, map, take}
use Rattle.std.specs.Prelude.{codes}
use Rattle.std.specs.List.{join_by}
use Rattle.nxf_tree.specs.Problem.{classical_sort_at}
use Rattle.nxf_tree.specs.Text.{sort_text}
use Rattle.interp_printer.proofs.types.write_sorts.Given as goal

abbrev pub invariant-loop-at : goal.invariant-loop-at
invariant-loop-at l = l.out.items ≡ l.initial.out.items ++ join_by sort_text (codes " * ") (map (classical_sort_at l.sorts) (take l.at l.args))
