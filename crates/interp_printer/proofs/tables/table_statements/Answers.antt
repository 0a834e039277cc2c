use Rattle.std.proofs.Common.{◌++◌, ap, ◌∙◌}
use Rattle.std.specs.Prelude.{codes}
use Rattle.std.proofs.lemmas.Result.{on_ok_weaker}
use Rattle.nxf_tree.specs.declared.tree.Formula.{And}
use Rattle.nxf_tree.specs.Problem.{role_named, table_declaration}
use Rattle.nxf_tree.specs.Text.{statement_text, formula_text}
use Rattle.text_writer.specs.Front.{front_text}
use Rattle.fin_struct.specs.Cells.{table_at}
use Rattle.interpretation_text_definitions.specs.InterpretationText.{joined, literals}
use Rattle.interp_printer.proofs.Appending.{four_put}
use Rattle.interp_printer.proofs.Literals.{alone}
use Rattle.interp_printer.proofs.Texts.{ending, conjunction_text, symbol_text}
use Rattle.interp_printer.proofs.tables.table_statements.Goals as goal

pub returns : goal.returns
returns c =
    let entry = c.args.entry.now in
    let table = table_at c.args.tables.now c.args.table in
    let fs = literals c.args.sorts.now entry table in
    on_ok_weaker c.put.result (λ h.
    four_put c.args.out.now.items (statement_text (table_declaration c.args.sorts.now entry)) (front_text entry.name (role_named (codes "axiom"))) (formula_text (joined And fs)) ending
    c.declare_table.new.out.items c.open_statement.new.out.items c.write_literals.new.out.items c.put.new.out.items c.in_ok-declare_table.ensures c.in_ok-open_statement.ensures
    (c.in_ok-write_literals.ensures ∙ ap (λ text. c.open_statement.new.out.items ++ text) (conjunction_text fs (alone c.args.sorts.now entry table))) h
    ∙ ap (λ text. c.args.out.now.items ++ text) (symbol_text (table_declaration c.args.sorts.now entry) entry.name (joined And fs))) c.put.ensures.text
