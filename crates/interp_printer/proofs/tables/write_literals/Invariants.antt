use Rattle.std.proofs.Common.{◌≡◌, ◌++◌, drop}
use Rattle.std.specs.Prelude.{codes}
use Rattle.std.specs.List.{join_by}
use Rattle.nxf_tree.specs.Rows.{all_rows}
use Rattle.nxf_tree.specs.Text.{unit_text}
use Rattle.fin_struct.specs.Cells.{table_at}
use Rattle.interp_printer.proofs.Literals.{first_literals}
use Rattle.interp_printer.proofs.tables.write_literals.Given as goal

abbrev pub invariant-loop-at : goal.invariant-loop-at
invariant-loop-at l =
    (l.out.items ≡ l.initial.out.items ++ join_by unit_text (codes " & ") (first_literals l.sorts l.entry (table_at l.tables l.table) l.at))
    × (l.rows ≡ drop l.at (all_rows (table_at l.tables l.table).sizes))
