use Rattle.std.proofs.Common.{◌++◌, ap, sym, ◌∙◌, map}
use Rattle.std.specs.Prelude.{flat_map}
use Rattle.nxf_tree.specs.Rows.{numbers_below}
use Rattle.nxf_tree.specs.Text.{statement_text}
use Rattle.interpretation_text_definitions.specs.InterpretationText.{element_declaration}
use Rattle.interp_printer.proofs.Appending.{numbered_more, one_more}
use Rattle.interp_printer.proofs.sorts.declare_elements.Goals as goal

pub loop-number-preserved : goal.loop-number-preserved
loop-number-preserved c =
    let f = element_declaration c.args.sorts.now c.args.sort in
    let n = c.loop-number.number in
    one_more statement_text (map f (numbers_below n)) (f n) _ c.loop-number.out.items _ c.loop-number.invariant c.in_ok-declare_element.ensures
    ∙ ap (λ ss. c.args.out.now.items ++ flat_map statement_text ss) (sym (numbered_more f n))
