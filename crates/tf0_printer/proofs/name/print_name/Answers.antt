use Rattle.std.proofs.Common.{◌++◌, ap, ◌∙◌}
use Rattle.nxf_tree.specs.Text.{name_text}
use Rattle.printed_text_laws.proofs.NameRoundTrip.{printed_bare, printed_name}
use Rattle.tf0_printer.proofs.name.print_name.Goals as goal

pub returns-clause-bare : goal.returns-clause-bare
returns-clause-bare c = printed_bare c.args.name.now c.write_name.new.out.items (c.in_ok-write_name.ensures.text ∙ ap (λ s. s ++ name_text c.args.name.now) c.new-out.ensures.items)

pub returns-clause-spells : goal.returns-clause-spells
returns-clause-spells c = λ p printable. printed_name p c.args.name.now c.write_name.new.out.items (c.in_ok-write_name.ensures.text ∙ ap (λ s. s ++ name_text c.args.name.now) c.new-out.ensures.items) printable
