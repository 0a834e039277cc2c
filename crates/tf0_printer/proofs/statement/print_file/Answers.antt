use Rattle.std.proofs.Common.{◌++◌, ap, ◌∙◌}
use Rattle.std.specs.Prelude.{flat_map}
use Rattle.nxf_tree.specs.Text.{statement_text}
use Rattle.printed_text_laws.proofs.RoundTrip.{printed_spells}
use Rattle.tf0_printer.proofs.statement.print_file.Goals as goal

pub returns-clause-spells : goal.returns-clause-spells
returns-clause-spells c p h = printed_spells c.args.file.now c.write_statements.new.out.items
    (c.in_ok-write_statements.ensures ∙ ap (λ s. s ++ flat_map statement_text c.as_slice.result.now) c.new-out.ensures.items ∙ ap (flat_map statement_text) c.as_slice.ensures) p h.plain h.regular h.levels
