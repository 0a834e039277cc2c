use Rattle.std.proofs.Common.{◌++◌, ap, sym, ◌∙◌, map}
use Rattle.std.specs.Prelude.{codes}
use Rattle.std.specs.List.{join_by}
use Rattle.nxf_tree.specs.Text.{unit_text}
use Rattle.interpretation_text_definitions.specs.ElementNames.{element_names, element_name}
use Rattle.interpretation_text_definitions.specs.InterpretationText.{is_element}
use Rattle.interp_printer.proofs.Naming.{names_more, names_count}
use Rattle.interp_printer.proofs.Appending.{member_put}
use Rattle.interp_printer.proofs.sorts.write_members.Goals as goal

pub loop-number-preserved : goal.loop-number-preserved
loop-number-preserved c =
    let n = c.loop-number.number in
    let names = element_names c.args.sorts.now c.args.sort n in
    member_put unit_text (codes " | ") (map is_element names) (is_element (element_name c.args.sorts.now c.args.sort n)) n
    c.args.out.now.items c.loop-number.out.items c.put_between.new.out.items c.write_member.new.out.items
    (names_count is_element c.args.sorts.now c.args.sort n) c.loop-number.invariant c.in_ok-put_between.ensures.text c.in_ok-write_member.ensures
    ∙ ap (λ fs. c.args.out.now.items ++ join_by unit_text (codes " | ") fs) (sym (names_more is_element c.args.sorts.now c.args.sort n))
