use Rattle.std.proofs.Common.{◌++◌, ap, sym, ◌∙◌, Option}
use Rattle.std.specs.Prelude.{codes, ℕ}
use Rattle.std.proofs.lemmas.Result.{on_ok_weaker}
use Rattle.nxf_tree.specs.Text.{application_text, term_text, formula_text}
use Rattle.interpretation_text_definitions.specs.InterpretationText.{element, row_elements, literal}
use Rattle.interp_printer.proofs.Appending.{three_put}
use Rattle.interp_printer.proofs.Texts.{equation_text}
use Rattle.interp_printer.proofs.tables.write_literal.Goals as goal

pub returns-in_ok-put-in-Some : goal.returns-in_ok-put-in-Some
returns-in_ok-put-in-Some c =
    let entry = c.args.entry.now in
    let ts = row_elements c.args.sorts.now entry.args c.args.row.now in
    let value = element c.args.sorts.now c.in-Some.sort c.args.cell in
    on_ok_weaker c.write_element.result (λ h.
    three_put c.args.out.now.items (application_text entry.name ts) (codes " = ") (term_text value)
    c.write_application-in-Some.new.out.items c.put-in-Some.new.out.items c.write_element.new.out.items c.in_ok-write_application-in-Some.ensures c.in_ok-put-in-Some.ensures.text h
    ∙ ap (λ text. c.args.out.now.items ++ text) (equation_text entry.name ts value ∙ ap (λ (gives : Option ℕ). formula_text (literal c.args.sorts.now entry.name ts gives c.args.cell)) (sym c.in-Some.is))) c.write_element.ensures
