use Rattle.std.proofs.Common.{rules, arith}
use Rattle.std.proofs.lemmas.Grind.{common_steps}
use Rattle.syntax_definitions.specs.steps.ReadTypings.{sorts_from}
use Rattle.nxf_terminals.proofs.CallerLemmas.{one_more, no_more}
use Rattle.nxf_statements.proofs.typings.sorts.Goals as goal

pub returns-in_err-sort_name : goal.returns-in_err-sort_name
unfolding sorts_from
returns-in_err-sort_name c =
    let e = one_more (λ n. sorts_from n c.loop-turn.found c.loop-turn.cursor) _ c.loop-turn._turn c.loop-turn-test.true c.loop-turn.invariant in
    first_of (search rules, grind (arith, common_steps))

pub returns-in-Close : goal.returns-in-Close
unfolding sorts_from
returns-in-Close c =
    let e = one_more (λ n. sorts_from n c.loop-turn.found c.loop-turn.cursor) _ c.loop-turn._turn c.loop-turn-test.true c.loop-turn.invariant in
    first_of (search rules, grind (arith, common_steps))

pub returns-in_default : goal.returns-in_default
unfolding sorts_from
returns-in_default c =
    let e = one_more (λ n. sorts_from n c.loop-turn.found c.loop-turn.cursor) _ c.loop-turn._turn c.loop-turn-test.true c.loop-turn.invariant in
    first_of (search rules, grind (arith, common_steps))

pub loop-turn-preserved : goal.loop-turn-preserved
unfolding sorts_from
loop-turn-preserved c =
    let e = one_more (λ n. sorts_from n c.loop-turn.found c.loop-turn.cursor) _ c.loop-turn._turn c.loop-turn-test.true c.loop-turn.invariant in
    first_of (search rules, grind (arith, common_steps))

pub returns : goal.returns
unfolding sorts_from
returns c =
    let e = no_more (λ n. sorts_from n c.loop-turn.found c.loop-turn.cursor) _ c.loop-turn._turn c.loop-turn-test.false c.loop-turn.invariant in
    first_of (search rules, grind (arith, common_steps))
