use Rattle.std.proofs.Common.{◌≡◌, take}
use Rattle.interpretation_parts.specs.steps.Items.{items_in, numbered_parts}
use Rattle.interpretation_parts.proofs.items.items_of.Given as goal

abbrev pub invariant-loop-statement : goal.invariant-loop-statement
invariant-loop-statement l = record {
  number : l.number ≡ l.statement-index;
  items : items_in l.items.items ≡ numbered_parts 1 (take l.statement-index l.statements);
}
