use Rattle.std.proofs.Common.{◌≡◌, ◌+◌, ◌∷◌, drop, ap, ◌∙◌, sym}
use Rattle.std.proofs.lemmas.List.{at_drop_more}
use Rattle.nxf_tree.specs.Sorting.{modal_language}
use Rattle.nxf_tree.specs.SortFaults.{override_fault, overrides_fault}
use Rattle.nxf_sorts.proofs.UseLemmas.{fault_first, fault_is}
use Rattle.nxf_sorts.proofs.overrides.judge_overrides.Goals as goal

pub returns-in-Err : goal.returns-in-Err
returns-in-Err c =
    let L = modal_language c.args.names.now.signature in
    let all = c.as_slice-item-items.result.now in
    let i = c.loop-item.item-index in
    let x = c.item-item.result in
    let split : drop i all ≡ x ∷ drop (i + 1) all = at_drop_more (λ l. l) all i x c.loop-item-test.true ∙ ap (λ y. y ∷ drop (i + 1) all) (sym c.item-item.is) in
    let here : overrides_fault L c.args.overrides.now ≡ overrides_fault L (x ∷ drop (i + 1) all) = c.loop-item.invariant ∙ ap (λ l. overrides_fault L (drop i l)) (sym c.as_slice-item-items.ensures) ∙ ap (overrides_fault L) split in
    c.at_statement.ensures _ (fault_is _ _ _ here (fault_first (override_fault L x.of x.key) _ _ c.in-Err.ensures))
