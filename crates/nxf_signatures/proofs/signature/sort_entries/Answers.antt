use Rattle.std.proofs.Common.{[], ◌∷◌, ◌++◌, ap, ◌∙◌}
use Rattle.logic_spec.specs.Asked.{asked_by}
use Rattle.nxf_tree.specs.declared.tree.SortName.{SortName}
use Rattle.nxf_tree.specs.declared.tree.SortEntry.{SortEntry}
use Rattle.nxf_signatures.proofs.PlaceLemmas.{sorts-more}
use Rattle.nxf_signatures.proofs.signature.sort_entries.Goals as goal

pub loop-name-preserved : goal.loop-name-preserved
loop-name-preserved c =
    let entry : SortName → SortEntry = λ s. record { name = s; regime = (asked_by c.args.spec.now).regime s } in
    let more = sorts-more entry c.args.individual c.as_slice-name-items.result.now c.loop-name.name-index c.name-item.result c.loop-name-test.true in
    rw (more, ← c.name-item.is, ← c.in_ok-copy.ensures, ← c.sort_entry.ensures) (c.in_ok-push.ensures.pushed ∙ ap (λ made. made ++ c.sort_entry.result ∷ []) c.loop-name.invariant)
