use Rattle.std.proofs.Common.{◌≡◌, ◌++◌, ap, ◌∙◌, sym}
use Rattle.std.specs.Prelude.{codes}
use Rattle.std.specs.List.{join_by}
use Rattle.nxf_tree.specs.Shapes.{Not_is, Pair_is, Quant_is, Modal_is}
use Rattle.nxf_tree.specs.Text.{formula_text, unit_text, operator_text, quantifier_text, modality_text, sort_text}
use Rattle.text_writer.proofs.CallerLemmas.{formula_text_of_And, formula_text_of_Or}
use Rattle.tf0_printer.proofs.Appending.{after_one, after_two}
use Rattle.tf0_printer.proofs.formula.+formula.Goals as goal

pub write_formula-returns-in_ok-put-in-Not : goal.write_formula-returns-in_ok-put-in-Not
write_formula-returns-in_ok-put-in-Not t c =
    let is : formula_text c.args.formula.now ≡ codes "~ " ++ unit_text c.get.result.now =
    ap formula_text (c.in-Not.is ∙ Not_is _) ∙ ap (λ f. codes "~ " ++ unit_text f) (sym c.get.ensures) in
    rw (ap (λ text. c.args.out.now.items ++ text) is ∙ after_one _ (codes "~ ") (unit_text c.get.result.now) _ c.in_ok-put-in-Not.ensures.text) c.write_unit.ensures

pub write_formula-returns-in-And : goal.write_formula-returns-in-And
write_formula-returns-in-And t c =
    let is : formula_text c.args.formula.now ≡ join_by unit_text (codes " & ") c.as_slice-in-And.result.now =
    ap formula_text c.in-And.is ∙ formula_text_of_And _ ∙ ap (join_by unit_text (codes " & ")) (sym c.as_slice-in-And.ensures) in
    rw is c.write_members.ensures

pub write_formula-returns-in-Or : goal.write_formula-returns-in-Or
write_formula-returns-in-Or t c =
    let is : formula_text c.args.formula.now ≡ join_by unit_text (codes " | ") c.as_slice-in-Or.result.now =
    ap formula_text c.in-Or.is ∙ formula_text_of_Or _ ∙ ap (join_by unit_text (codes " | ")) (sym c.as_slice-in-Or.ensures) in
    rw is c.write_members-in-Or.ensures

pub write_formula-returns-in_ok-put-in-Pair : goal.write_formula-returns-in_ok-put-in-Pair
write_formula-returns-in_ok-put-in-Pair t c =
    let left = c.get-in-Pair.result.now in
    let right = c.get-in-Pair-2.result.now in
    let is : formula_text c.args.formula.now ≡ unit_text left ++ operator_text c.in-Pair.op ++ unit_text right =
    ap formula_text (c.in-Pair.is ∙ Pair_is _ _ _) ∙ sym (λ i. unit_text (c.get-in-Pair.ensures i) ++ operator_text c.in-Pair.op ++ unit_text (c.get-in-Pair-2.ensures i)) in
    let operator : c.put-in-Pair.new.out.items ≡ c.write_unit-in-Pair.new.out.items ++ operator_text c.in-Pair.op =
    c.in_ok-put-in-Pair.ensures.text ∙ ap (λ text. c.write_unit-in-Pair.new.out.items ++ text) c.operator.ensures in
    rw (ap (λ text. c.args.out.now.items ++ text) is ∙ after_two _ (unit_text left) (operator_text c.in-Pair.op) (unit_text right) _ _ c.in_ok-write_unit-in-Pair.ensures operator)
    c.write_unit-in-Pair-2.ensures

pub write_formula-returns-in_ok-write_binder-in-Quant : goal.write_formula-returns-in_ok-write_binder-in-Quant
write_formula-returns-in_ok-write_binder-in-Quant t c =
    let binder = quantifier_text c.in-Quant.quantifier ++ c.in-Quant.variable ++ codes ": " ++ sort_text c.in-Quant.sort ++ codes "] : " in
    let is : formula_text c.args.formula.now ≡ binder ++ unit_text c.get-in-Quant.result.now =
    ap formula_text (c.in-Quant.is ∙ Quant_is _ _ _ _) ∙ ap (λ f. binder ++ unit_text f) (sym c.get-in-Quant.ensures) in
    rw (ap (λ text. c.args.out.now.items ++ text) is ∙ after_one _ binder (unit_text c.get-in-Quant.result.now) _ c.in_ok-write_binder-in-Quant.ensures)
    c.write_unit-in-Quant.ensures

pub write_formula-returns-in_ok-write_modality-in-Modal : goal.write_formula-returns-in_ok-write_modality-in-Modal
write_formula-returns-in_ok-write_modality-in-Modal t c =
    let front = modality_text c.in-Modal.mode c.in-Modal.index in
    let is : formula_text c.args.formula.now ≡ front ++ unit_text c.get-in-Modal.result.now =
    ap formula_text (c.in-Modal.is ∙ Modal_is _ _ _) ∙ ap (λ f. front ++ unit_text f) (sym c.get-in-Modal.ensures) in
    rw (ap (λ text. c.args.out.now.items ++ text) is ∙ after_one _ front (unit_text c.get-in-Modal.result.now) _ c.in_ok-write_modality-in-Modal.ensures)
    c.write_unit-in-Modal.ensures
