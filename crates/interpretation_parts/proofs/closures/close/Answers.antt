use Rattle.std.proofs.Common.{◌≡◌, Bor, List, ℕ, nat_eq, false, ap, ◌∙◌, slice_set}
use Rattle.std.specs.Prelude.{◌||◌, not}
use Rattle.std.proofs.lemmas.List.{get_or_read}
use Rattle.interpretation_parts.specs.steps.Held.{context_in}
use Rattle.interpretation_parts.specs.steps.Readings.{texts}
use Rattle.interpretation_parts.specs.steps.Tables.{repeated}
use Rattle.interpretation_parts.proofs.ClosureLemmas.{clash_is, noted_next}
use Rattle.interpretation_parts.proofs.RowLemmas.{map_length}
use Rattle.interpretation_parts.proofs.closures.close.Goals as goal

pub returns-clause-clash : goal.returns-clause-clash
returns-clause-clash c before noted =
    let closures = c.args.closures.now in
    let names = texts c.args.names.now in
    let closed = c.index-closed.result.now in
    ap (λ b. (closed || b) || c.any_taken.result) c.in_ok-repeat.ensures.repeat
    ∙ ap (λ b. (closed || repeated closures.listed.keys names) || b) c.any_taken.ensures
    ∙ clash_is (context_in c.args.context.now) before closures c.args.sort names closed noted c.requires (get_or_read closures.closed.items c.args.sort closed c.requires c.index-closed.ensures false)

pub returns-clause-noted : goal.returns-clause-noted
returns-clause-noted c before noted =
    let closures = c.args.closures.now in
    let closed = c.index-closed.result.now in
    noted_next before closures _ c.args.sort (texts c.args.names.now) closed noted c.requires (get_or_read closures.closed.items c.args.sort closed c.requires c.index-closed.ensures false)
    c.in_ok-repeat.ensures.listed
    (ap (λ b. slice_set closures.closed.items c.args.sort (closed || not b)) (c.is_empty.ensures ∙ ap (λ n. nat_eq n 0) (map_length (λ (name : Bor (List ℕ)). name.now) c.args.names.now)))
