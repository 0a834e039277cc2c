use Rattle.std.proofs.Common.{◌≡◌, ◌++◌}
use Rattle.std.specs.Prelude.{flat_map}
use Rattle.nxf_tree.specs.Text.{statement_text}
use Rattle.interp_printer.proofs.Statements.{first_tables}
use Rattle.interp_printer.proofs.printer.put_tables.Given as goal

abbrev pub invariant-loop-table : goal.invariant-loop-table
invariant-loop-table l = l.out.items ≡ l.initial.out.items ++ flat_map statement_text (first_tables l.over.sorts l.over.tables l.structure.tables l.table)
