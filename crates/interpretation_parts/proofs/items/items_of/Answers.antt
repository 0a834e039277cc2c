use Rattle.std.proofs.Common.{◌∙◌, sym, arith}
use Rattle.std.proofs.lemmas.List.{length-take-le}
use Rattle.std.proofs.lemmas.Grind.{take_at_read}
use Rattle.interpretation_parts.proofs.ItemLemmas.{numbered_parts-next}
use Rattle.interpretation_parts.proofs.items.items_of.Goals as goal

pub loop-statement-preserved : goal.loop-statement-preserved
loop-statement-preserved c =
    let more = (take_at_read c.args.statements.now c.loop-statement.statement-index c.statement-item.result c.loop-statement-test.true).1 in
    let number = c.loop-statement.invariant.number ∙ sym (length-take-le c.loop-statement.statement-index c.args.statements.now (omega (arith, c.loop-statement-test.true))) in
    record {
      number = omega (arith, c.loop-statement.invariant.number);
      items = rw (more, ← c.statement-item.is, numbered_parts-next c.loop-statement.number _ _ number, ← c.loop-statement.invariant.items) c.in_ok-statement_items.ensures;
    }
