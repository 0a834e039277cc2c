use Rattle.std.proofs.Common.{◌≡◌, ◌++◌, take}
use Rattle.nxf_tree.specs.Text.{terms_text}
use Rattle.interpretation_text_definitions.specs.InterpretationText.{row_elements}
use Rattle.interp_printer.proofs.tables.write_row.Given as goal

abbrev pub invariant-loop-at : goal.invariant-loop-at
invariant-loop-at l = l.out.items ≡ l.initial.out.items ++ terms_text (row_elements l.sorts (take l.at l.args) (take l.at l.row))
