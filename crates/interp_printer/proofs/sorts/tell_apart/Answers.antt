use Rattle.std.proofs.Common.{◌++◌, ◌∷◌, map, ap, ◌∙◌, arith}
use Rattle.std.specs.Prelude.{codes}
use Rattle.std.proofs.lemmas.Result.{on_ok_weaker}
use Rattle.nxf_tree.specs.Shapes.{Name0}
use Rattle.nxf_tree.specs.Text.{terms_text}
use Rattle.interpretation_text_definitions.specs.ElementNames.{element_names}
use Rattle.interp_printer.proofs.Appending.{three_put}
use Rattle.interp_printer.proofs.Texts.{ending, distinct_texts}
use Rattle.interp_printer.proofs.sorts.tell_apart.Goals as goal

pub returns : goal.returns
returns c =
    let ts = map Name0 (element_names c.args.sorts.now c.args.sort c.args.size) in
    on_ok_weaker c.put-2.result (λ h.
    three_put c.args.out.now.items (codes "tff(mk_distinct,axiom,$distinct(") (terms_text ts) (41 ∷ ending)
    c.put.new.out.items c.write_elements.new.out.items c.put-2.new.out.items c.in_ok-put.ensures.text c.in_ok-write_elements.ensures h
    ∙ ap (λ text. c.args.out.now.items ++ text) (distinct_texts c.args.sorts.now c.args.sort c.args.size (omega arith))) c.put-2.ensures.text
