use Rattle.std.proofs.Common.{◌++◌, ◌<◌, ap, ◌∙◌, length, get_or, arith}
use Rattle.std.specs.Prelude.{flat_map}
use Rattle.nxf_tree.specs.Text.{statement_text}
use Rattle.fin_struct.specs.Cells.{table_at}
use Rattle.interpretation_text_definitions.specs.InterpretationText.{table_statements}
use Rattle.interp_printer.proofs.Statements.{tables_long, columns_long, table_put}
use Rattle.interp_printer.proofs.printer.put_tables.Goals as goal

pub table_statements-requires-clause-long : goal.table_statements-requires-clause-long
table_statements-requires-clause-long c =
    let n = c.loop-table.table in
    let entries = c.as_slice-entry-items.ensures in
    let below : n < length c.args.over.now.tables = omega (arith, ap length entries) in
    ap (λ tables. length (table_at tables n).sizes) c.tables.ensures
    ∙ columns_long c.args.structure.now.sizes c.args.over.now.tables c.args.structure.now.tables n c.entry-item.result c.requires.over.shapes below (c.entry-item.is ∙ ap (λ items. get_or items n c.entry-item.result) entries)

pub loop-table-preserved : goal.loop-table-preserved
loop-table-preserved c =
    let n = c.loop-table.table in
    let entries = c.as_slice-entry-items.ensures in
    let below : n < length c.args.over.now.tables = omega (arith, ap length entries) in
    let many = tables_long c.args.structure.now.sizes c.args.over.now.tables c.args.structure.now.tables c.requires.over.shapes in
    table_put c.args.over.now.sorts c.args.over.now.tables c.args.structure.now.tables n c.entry-item.result (table_at c.tables.result.now n) c.args.out.now.items c.loop-table.out.items c.table_statements.new.out.items
    below (omega (arith, many)) (c.entry-item.is ∙ ap (λ items. get_or items n c.entry-item.result) entries) (ap (λ tables. table_at tables n) c.tables.ensures) c.loop-table.invariant
    (c.in_ok-table_statements.ensures ∙ ap (λ sorts. c.loop-table.out.items ++ flat_map statement_text (table_statements sorts c.entry-item.result (table_at c.tables.result.now n))) c.as_slice-sorts.ensures)
