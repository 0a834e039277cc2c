use Rattle.std.proofs.Common.{◌<◌, ◌++◌, ap, sym, ◌∙◌, take, get_or, length, arith}
use Rattle.std.specs.Prelude.{codes}
use Rattle.nxf_tree.specs.Text.{term_text, terms_text}
use Rattle.interpretation_text_definitions.specs.InterpretationText.{element, row_elements}
use Rattle.interp_printer.proofs.Appending.{member_put}
use Rattle.interp_printer.proofs.Literals.{below_at, elements_more, elements_count}
use Rattle.interp_printer.proofs.tables.write_row.Goals as goal

pub write_element-requires : goal.write_element-requires
write_element-requires c = below_at _ c.args.args.now c.loop-at.at 0 c.requires.args_in (omega arith)

pub loop-at-preserved : goal.loop-at-preserved
loop-at-preserved c =
    let sorts = c.args.sorts.now in
    let args = c.args.args.now in
    let row = c.args.row.now in
    let n = c.loop-at.at in
    let there : n < length args = omega arith in
    member_put term_text (codes ",") (row_elements sorts (take n args) (take n row)) (element sorts (get_or args n 0) (get_or row n 0)) n
    c.args.out.now.items c.loop-at.out.items c.put_between.new.out.items c.write_element.new.out.items
    (elements_count sorts args row n (omega arith) (omega arith)) c.loop-at.invariant c.in_ok-put_between.ensures.text c.in_ok-write_element.ensures
    ∙ ap (λ ts. c.args.out.now.items ++ terms_text ts) (sym (elements_more sorts args row n 0 0 there c.loop-at-test.true))
