use Rattle.std.proofs.Common.{◌++◌, ap, sym, ◌∙◌, map}
use Rattle.std.specs.Prelude.{codes}
use Rattle.nxf_tree.specs.Shapes.{Name0}
use Rattle.nxf_tree.specs.Text.{term_text, terms_text}
use Rattle.interpretation_text_definitions.specs.ElementNames.{element_names, element_name}
use Rattle.interp_printer.proofs.Naming.{names_more, names_count}
use Rattle.interp_printer.proofs.Appending.{member_put}
use Rattle.interp_printer.proofs.sorts.write_elements.Goals as goal

pub loop-number-preserved : goal.loop-number-preserved
loop-number-preserved c =
    let n = c.loop-number.number in
    let names = element_names c.args.sorts.now c.args.sort n in
    member_put term_text (codes ",") (map Name0 names) (Name0 (element_name c.args.sorts.now c.args.sort n)) n
    c.args.out.now.items c.loop-number.out.items c.put_between.new.out.items c.write_element.new.out.items
    (names_count Name0 c.args.sorts.now c.args.sort n) c.loop-number.invariant c.in_ok-put_between.ensures.text c.in_ok-write_element.ensures
    ∙ ap (λ ts. c.args.out.now.items ++ terms_text ts) (sym (names_more Name0 c.args.sorts.now c.args.sort n))
