use Rattle.interpretation_parts.proofs.judge.judge_value.Goals as goal

pub returns-else-element-sort-clause-rows : goal.returns-else-element-sort-clause-rows
returns-else-element-sort-clause-rows c given has = rw (c.in-Some.is, c.in-Some-value.is) (c.judge_row.ensures.rows given has)
