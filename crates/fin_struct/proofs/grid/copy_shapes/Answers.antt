use Rattle.std.proofs.Common.{◌∙◌, ap}
use Rattle.std.proofs.lemmas.List.{take_more}
use Rattle.fin_struct.specs.declared.grid.GridShape.{GridShape}
use Rattle.fin_struct.proofs.CellsLemmas.{SameShapes-push}
use Rattle.fin_struct.proofs.grid.copy_shapes.Goals as goal

pub loop-shape-preserved : goal.loop-shape-preserved
loop-shape-preserved c =
    let item = c.shape-item.result in
    let more = take_more c.args.shapes.now c.loop-shape.shape-index item c.loop-shape-test.true in
    let sizes = c.in_ok-sizes.ensures ∙ c.deref.ensures.value in
    rw (c.in_ok-push.ensures.items, more) (SameShapes-push _ _ _ _ c.loop-shape.invariant (sizes ∙ ap (λ (x : GridShape). x.sizes.items) c.shape-item.is) (ap (λ (x : GridShape). x.values) c.shape-item.is))
