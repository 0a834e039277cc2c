use Rattle.std.proofs.Common.{◌++◌, map, ap, sym, ◌∙◌}
use Rattle.std.specs.Prelude.{codes}
use Rattle.std.specs.List.{join_by}
use Rattle.std.proofs.lemmas.Result.{on_ok_weaker}
use Rattle.nxf_tree.specs.Text.{unit_text}
use Rattle.interpretation_text_definitions.specs.ElementNames.{element_names}
use Rattle.interpretation_text_definitions.specs.InterpretationText.{is_element}
use Rattle.interp_printer.proofs.Appending.{three_put}
use Rattle.interp_printer.proofs.Naming.{names_count}
use Rattle.interp_printer.proofs.Texts.{alternatives_text}
use Rattle.interp_printer.proofs.sorts.write_alternatives.Goals as goal

pub returns : goal.returns
returns c =
    let fs = map is_element (element_names c.args.sorts.now c.args.sort c.args.size) in
    let count = names_count is_element c.args.sorts.now c.args.sort c.args.size in
    on_ok_weaker c.put-2.result (λ h.
    three_put c.args.out.now.items (codes "( ") (join_by unit_text (codes " | ") fs) (codes " )") c.put.new.out.items c.write_members-2.new.out.items c.put-2.new.out.items c.in_ok-put.ensures.text c.in_ok-write_members.ensures h
    ∙ ap (λ text. c.args.out.now.items ++ text) (alternatives_text fs (λ one. c.if-size-eq1.false (sym count ∙ one)))) c.put-2.ensures.text
