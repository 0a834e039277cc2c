use Rattle.interpretation_parts.specs.steps.Held.{context_in}
use Rattle.interp_reader.proofs.ReadLemmas.{rows_first}
use Rattle.interp_reader.proofs.reader.rows_of.Goals as goal

pub judge_items-requires : goal.judge_items-requires
judge_items-requires c = record {
  given = rows_first (context_in c.args.context.now) c.in_ok-rows.rows.entries c.in_ok-rows.ensures;
  noted = c.in_ok-closures.ensures.noted;
  count = c.in_ok-closures.ensures.count;
}

pub returns-clause-rows : goal.returns-clause-rows
returns-clause-rows c = c.in_ok-judge_items.ensures.after.given
