use Rattle.std.proofs.Common.{◌<◌, length, map, get_or, sym, ◌∙◌, ap, arith, refl}
use Rattle.std.specs.List.{fold}
use Rattle.std.proofs.lemmas.List.{length-map}
use Rattle.std.proofs.Math.ListN.{get_or-map}
use Rattle.nxf_tree.specs.Signature.{sort_at}
use Rattle.kripke_text.proofs.Folds.{elements_next, elements_none}
use Rattle.kripke_text.proofs.pieces.elements.Goals as goal

pub loop-i-preserved : goal.loop-i-preserved
loop-i-preserved g c =
    let long : c.loop-i.i < length (map (sort_at c.args.over.now.sorts) c.args.args.now) = omega (arith, length-map c.args.args.now (sort_at c.args.over.now.sorts)) in
    let is_sort = c.sort_at.ensures ∙ sym (get_or-map (sort_at c.args.over.now.sorts) c.args.args.now c.loop-i.i 0) in
    elements_next g.M.Taker.takes c.loop-i.out c.comma.new.out c.element.new.out _ (map (sort_at c.args.over.now.sorts) c.args.args.now) c.args.row.now c.loop-i.i c.sort_at.result.now (get_or c.args.row.now c.loop-i.i 0) _ long c.loop-i-test.true is_sort refl c.loop-i.invariant c.in_ok-comma.ensures c.in_ok-element.ensures

pub returns : goal.returns
returns g c =
    let sorts = map (sort_at c.args.over.now.sorts) c.args.args.now in
    ap (λ (ms : _). fold g.M.Taker.takes c.loop-i.out ms) (sym (elements_none sorts c.args.row.now c.loop-i.i c.loop-i-test.false (length-map c.args.args.now (sort_at c.args.over.now.sorts) ∙ c.requires.long))) ∙ c.loop-i.invariant
