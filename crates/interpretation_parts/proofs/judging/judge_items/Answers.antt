use Rattle.std.proofs.Common.{◌≡◌, ◌∙◌, take, ap, sym, subst, None}
use Rattle.std.specs.Option.{option_map}
use Rattle.interpretation_definitions.specs.Judging.{part_fault}
use Rattle.interpretation_definitions.specs.Parts.{Part}
use Rattle.interpretation_parts.specs.declared.items.Item.{Item}
use Rattle.interpretation_parts.specs.steps.After.{IsAfter, RefusesFault}
use Rattle.interpretation_parts.specs.steps.Held.{context_in}
use Rattle.interpretation_parts.specs.steps.Items.{parts_in_items, said_part}
use Rattle.interpretation_parts.specs.steps.Readings.{reading_part}
use Rattle.interpretation_parts.proofs.AfterLemmas.{judged_next, judged_refused, parts-next}
use Rattle.interpretation_parts.proofs.judging.judge_items.Goals as goal

pub loop-item-preserved : goal.loop-item-preserved
loop-item-preserved c =
    let context = context_in c.args.context.now in
    let items = c.args.items.now in
    let i = c.loop-item.item-index in
    let parts = parts_in_items (take i items) in
    let part = reading_part c.in_ok-reading.reading in
    let is = c.in_ok-reading.ensures ∙ ap (λ (x : Item). said_part x.said) c.item-item.is in
    record {
      judged = c.loop-item.invariant.judged ∙ judged_next context items i c.item-item.result part c.loop-item-test.true is (c.in-Ok.ensures.judged parts c.loop-item.invariant.after);
      after = subst (IsAfter context c.judge_part.new.rows.entries c.judge_part.new.closures) (sym (parts-next items i c.item-item.result part c.loop-item-test.true is)) (c.in-Ok.ensures.after parts c.loop-item.invariant.after);
    }

pub returns-in-Err-clause-refused : goal.returns-in-Err-clause-refused
returns-in-Err-clause-refused c =
    let context = context_in c.args.context.now in
    let items = c.args.items.now in
    let i = c.loop-item.item-index in
    let parts = parts_in_items (take i items) in
    let part = reading_part c.in_ok-reading.reading in
    let fault = part_fault context parts part in
    let is = c.in_ok-reading.ensures ∙ ap (λ (x : Item). said_part x.said) c.item-item.is in
    subst (λ o. RefusesFault o c.refused.result) (sym c.loop-item.invariant.judged)
    (judged_refused context items i c.item-item.result part c.refused.result c.loop-item-test.true is
    (subst (λ (x : Item). RefusesFault (option_map (λ f. (x.statement, f)) fault) c.refused.result) c.item-item.is (c.refused.ensures fault (c.in-Err.ensures.judged parts c.loop-item.invariant.after))))
