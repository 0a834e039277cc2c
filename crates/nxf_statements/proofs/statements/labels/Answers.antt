use Rattle.std.proofs.Common.{rules, arith}
use Rattle.std.proofs.lemmas.Grind.{common_steps}
use Rattle.syntax_definitions.specs.steps.ReadLists.{list_from}
use Rattle.syntax_definitions.specs.steps.ReadFormulas.{index_text}
use Rattle.nxf_terminals.proofs.CallerLemmas.{one_more, no_more}
use Rattle.nxf_statements.proofs.statements.labels.Goals as goal

pub returns-in_err-index_text : goal.returns-in_err-index_text
unfolding list_from
returns-in_err-index_text c =
    let e = one_more (λ n. list_from index_text n c.loop-turn.found c.loop-turn.cursor) _ c.loop-turn._turn c.loop-turn-test.true c.loop-turn.invariant in
    first_of (search rules, grind (arith, common_steps))

pub returns-in-RightBracket : goal.returns-in-RightBracket
unfolding list_from
returns-in-RightBracket c =
    let e = one_more (λ n. list_from index_text n c.loop-turn.found c.loop-turn.cursor) _ c.loop-turn._turn c.loop-turn-test.true c.loop-turn.invariant in
    first_of (search rules, grind (arith, common_steps))

pub returns-in_default : goal.returns-in_default
unfolding list_from
returns-in_default c =
    let e = one_more (λ n. list_from index_text n c.loop-turn.found c.loop-turn.cursor) _ c.loop-turn._turn c.loop-turn-test.true c.loop-turn.invariant in
    first_of (search rules, grind (arith, common_steps))

pub loop-turn-preserved : goal.loop-turn-preserved
unfolding list_from
loop-turn-preserved c =
    let e = one_more (λ n. list_from index_text n c.loop-turn.found c.loop-turn.cursor) _ c.loop-turn._turn c.loop-turn-test.true c.loop-turn.invariant in
    first_of (search rules, grind (arith, common_steps))

pub returns : goal.returns
unfolding list_from
returns c =
    let e = no_more (λ n. list_from index_text n c.loop-turn.found c.loop-turn.cursor) _ c.loop-turn._turn c.loop-turn-test.false c.loop-turn.invariant in
    first_of (search rules, grind (arith, common_steps))
