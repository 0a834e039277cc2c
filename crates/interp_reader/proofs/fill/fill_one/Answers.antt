use Rattle.std.proofs.Common.{◌∙◌, ◌+◌, sym}
use Rattle.fin_struct.specs.Cells.{table_at}
use Rattle.fin_struct.specs.Places.{rows_count}
use Rattle.interp_reader.proofs.FillLemmas.{blank_filled}
use Rattle.interp_reader.proofs.fill.fill_one.Goals as goal

pub returns-else-contains-clause-filled : goal.returns-else-contains-clause-filled
returns-else-contains-clause-filled c =
    λ _. blank_filled c.args.rows.now.entries c.args.table (rows_count (table_at c.args.structure.now.tables c.args.table).sizes) c.args.structure.now
    (sym (c.requires.places (c.args.table + 1)) ∙ sym c.contains.ensures ∙ c.if-contains.false) c.requires.blank
