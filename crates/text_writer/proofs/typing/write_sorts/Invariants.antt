use Rattle.std.proofs.Common.{◌≡◌, ◌++◌, take}
use Rattle.std.specs.Prelude.{codes}
use Rattle.std.specs.List.{join_by}
use Rattle.nxf_tree.specs.Text.{sort_text}
use Rattle.text_writer.proofs.typing.write_sorts.Given as goal

abbrev pub invariant-loop-at : goal.invariant-loop-at
invariant-loop-at l = l.out.items ≡ l.initial.out.items ++ join_by sort_text (codes " * ") (take l.at l.sorts)
