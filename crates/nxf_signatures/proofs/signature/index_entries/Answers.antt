use Rattle.std.proofs.Common.{[], ◌∷◌, ◌++◌, ap, ◌∙◌}
use Rattle.logic_spec.specs.Asked.{asked_by}
use Rattle.nxf_tree.specs.declared.tree.IndexName.{IndexName}
use Rattle.nxf_tree.specs.declared.tree.IndexEntry.{IndexEntry}
use Rattle.nxf_signatures.proofs.PlaceLemmas.{indexes-more}
use Rattle.nxf_signatures.proofs.signature.index_entries.Goals as goal

pub loop-name-preserved : goal.loop-name-preserved
loop-name-preserved c =
    let entry : IndexName → IndexEntry = λ i. record { name = i; schemes = (asked_by c.args.spec.now).schemes i } in
    let more = indexes-more entry c.args.plain c.as_slice-name-items.result.now c.loop-name.name-index c.name-item.result c.loop-name-test.true in
    rw (more, ← c.name-item.is, ← c.in_ok-copy.ensures, ← c.in_ok-index_entry.ensures) (c.in_ok-push.ensures.pushed ∙ ap (λ made. made ++ c.in_ok-index_entry.field-0 ∷ []) c.loop-name.invariant)
