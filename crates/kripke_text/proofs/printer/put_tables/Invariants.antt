use Rattle.std.proofs.Common.{◌≡◌, ◌++◌, drop, map}
use Rattle.std.specs.Prelude.{flat_map}
use Rattle.fin_struct.specs.RowLists.{listed}
use Rattle.plain_tokens.specs.Marks.{spelled}
use Rattle.kripke_text_definitions.specs.KripkeText.{table_statements, labels_of}
use Rattle.kripke_text.proofs.printer.put_tables.Given as goal

abbrev pub invariant-loop-subject : goal.invariant-loop-subject
invariant-loop-subject l = l.page ++ flat_map spelled (drop l.subject-index (table_statements (labels_of l.over) (map listed l.kripke.tables))) ≡ l.initial.page ++ flat_map spelled (table_statements (labels_of l.over) (map listed l.kripke.tables))
