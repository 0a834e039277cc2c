use Rattle.std.proofs.Common.{◌≡◌, [], take, drop}
use Rattle.interpretation_parts.specs.steps.After.{IsAfter}
use Rattle.interpretation_parts.specs.steps.Held.{context_in}
use Rattle.interpretation_parts.specs.steps.Items.{item_fault, items_in, parts_in_items}
use Rattle.interpretation_parts.proofs.judging.judge_items.Given as goal

abbrev pub invariant-loop-item : goal.invariant-loop-item
invariant-loop-item l = record {
  judged : item_fault (context_in l.context) [] (items_in l.items) ≡ item_fault (context_in l.context) (parts_in_items (take l.item-index l.items)) (items_in (drop l.item-index l.items));
  after : IsAfter (context_in l.context) l.rows.entries l.closures (parts_in_items (take l.item-index l.items));
}
