use Rattle.std.proofs.Common.{◌++◌, ◌∷◌, [], ap, ◌∙◌}
use Rattle.std.specs.Prelude.{codes}
use Rattle.std.proofs.lemmas.Result.{on_ok_weaker}
use Rattle.nxf_tree.specs.Text.{term_text}
use Rattle.interpretation_text_definitions.specs.InterpretationText.{element}
use Rattle.interp_printer.proofs.Appending.{four_put}
use Rattle.interp_printer.proofs.Texts.{ending, actual_text}
use Rattle.interp_printer.proofs.sorts.actual_statements.Goals as goal

pub returns : goal.returns
returns c =
    on_ok_weaker c.put-3.result (λ h.
    four_put c.args.out.now.items (codes "tff(mk_actual,type,mk_actual: mk_world)." ++ 10 ∷ []) (codes "tff(mk_actual,axiom,mk_actual = ") (term_text (element c.args.sorts.now 0 c.args.world)) ending
    c.put.new.out.items c.put-2.new.out.items c.write_element.new.out.items c.put-3.new.out.items c.in_ok-put.ensures.text c.in_ok-put-2.ensures.text c.in_ok-write_element.ensures h
    ∙ ap (λ text. c.args.out.now.items ++ text) (actual_text c.args.sorts.now c.args.world)) c.put-3.ensures.text
