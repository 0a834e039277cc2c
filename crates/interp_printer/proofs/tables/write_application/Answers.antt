use Rattle.std.proofs.Common.{◌++◌, length, ap, sym, ◌∙◌}
use Rattle.std.specs.Prelude.{◌==◌, codes}
use Rattle.std.proofs.lemmas.Result.{on_ok_weaker}
use Rattle.nxf_tree.specs.Text.{name_text, terms_text}
use Rattle.name_laws.proofs.Spelling.{true-false}
use Rattle.interpretation_text_definitions.specs.InterpretationText.{row_elements}
use Rattle.interp_printer.proofs.Appending.{four_put}
use Rattle.interp_printer.proofs.Literals.{row_some}
use Rattle.interp_printer.proofs.Texts.{application_some}
use Rattle.interp_printer.proofs.tables.write_application.Goals as goal

pub returns : goal.returns
returns c =
    let entry = c.args.entry.now in
    let ts = row_elements c.args.sorts.now entry.args c.args.row.now in
    on_ok_weaker c.put-2.result (λ h.
    four_put c.args.out.now.items (name_text entry.name) (codes "(") (terms_text ts) (codes ")")
    c.write_name.new.out.items c.put.new.out.items c.write_row.new.out.items c.put-2.new.out.items c.in_ok-write_name.ensures.text c.in_ok-put.ensures.text
    (c.in_ok-write_row.ensures ∙ ap (λ args. c.put.new.out.items ++ terms_text (row_elements c.args.sorts.now args c.args.row.now)) c.as_slice.ensures) h
    ∙ ap (λ text. c.args.out.now.items ++ text) (application_some entry.name ts (row_some c.args.sorts.now entry.args c.args.row.now c.requires.long (λ none. true-false (sym (c.is_empty.ensures ∙ ap (λ n. n == 0) (ap length none)) ∙ c.if-is_empty.false))))) c.put-2.ensures.text
