use Rattle.std.proofs.Common.{◌++◌, map, ap, ◌∙◌}
use Rattle.std.specs.Prelude.{codes}
use Rattle.std.proofs.lemmas.Result.{on_ok_weaker}
use Rattle.nxf_tree.specs.declared.tree.Formula.{Or}
use Rattle.nxf_tree.specs.Problem.{classical_sort_at}
use Rattle.nxf_tree.specs.Text.{sort_text, unit_text}
use Rattle.interpretation_text_definitions.specs.ElementNames.{element_names}
use Rattle.interpretation_text_definitions.specs.InterpretationText.{joined, is_element}
use Rattle.interp_printer.proofs.Appending.{five_put}
use Rattle.interp_printer.proofs.Texts.{ending, closure_text}
use Rattle.interp_printer.proofs.sorts.close_sort.Goals as goal

pub returns : goal.returns
returns c =
    let s = classical_sort_at c.args.sorts.now c.args.sort in
    let f = joined Or (map is_element (element_names c.args.sorts.now c.args.sort c.args.size)) in
    on_ok_weaker c.put-3.result (λ h.
    five_put c.args.out.now.items (codes "tff(mk_domain,axiom,! [X: ") (sort_text s) (codes "] : ") (unit_text f) ending
    c.put.new.out.items c.write_sort.new.out.items c.put-2.new.out.items c.write_alternatives.new.out.items c.put-3.new.out.items
    c.in_ok-put.ensures.text (c.in_ok-write_sort.ensures.text ∙ ap (λ t. c.put.new.out.items ++ sort_text t) c.sort_at.ensures) c.in_ok-put-2.ensures.text c.in_ok-write_alternatives.ensures h
    ∙ ap (λ text. c.args.out.now.items ++ text) (closure_text s f)) c.put-3.ensures.text
