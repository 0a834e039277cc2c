use Rattle.std.proofs.Common.{◌≡◌, ap, ◌∙◌, sym}
use Rattle.nxf_tree.specs.Text.{term_text, application_text}
use Rattle.text_writer.proofs.CallerLemmas.{term_text_of_App}
use Rattle.tf0_printer.proofs.term.+term.Goals as goal

pub write_term-returns-in-App : goal.write_term-returns-in-App
write_term-returns-in-App t c =
    let is : term_text c.args.term.now ≡ application_text c.in-App.name c.as_slice.result.now =
    ap term_text c.in-App.is ∙ term_text_of_App c.in-App.name c.in-App.terms ∙ ap (application_text c.in-App.name) (sym c.as_slice.ensures) in
    rw is c.write_application.ensures
