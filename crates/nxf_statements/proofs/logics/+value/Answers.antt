use Rattle.std.proofs.Common.{rules, arith}
use Rattle.std.proofs.lemmas.Grind.{common_steps}
use Rattle.syntax_definitions.specs.steps.ReadLists.{list_from}
use Rattle.syntax_definitions.specs.steps.ReadLogic.{item_of, inner_entry}
use Rattle.nxf_terminals.proofs.CallerLemmas.{one_more, no_more}
use Rattle.syntax_definitions.proofs.CallerLemmas.{value_is}
use Rattle.nxf_statements.proofs.logics.+value.Goals as goal

pub value-returns : goal.value-returns
value-returns t c = rw (value_is c.args.left c.args.cursor.now) c.value_from.ensures

pub items-returns-in_err-item : goal.items-returns-in_err-item
unfolding list_from
items-returns-in_err-item t c =
    let e = one_more (λ n. list_from (item_of (inner_entry c.args.left)) n c.loop-turn.found c.loop-turn.cursor) _ c.loop-turn._turn c.loop-turn-test.true c.loop-turn.invariant in
    first_of (search rules, grind (arith, common_steps))

pub items-returns-in-RightBracket : goal.items-returns-in-RightBracket
unfolding list_from
items-returns-in-RightBracket t c =
    let e = one_more (λ n. list_from (item_of (inner_entry c.args.left)) n c.loop-turn.found c.loop-turn.cursor) _ c.loop-turn._turn c.loop-turn-test.true c.loop-turn.invariant in
    first_of (search rules, grind (arith, common_steps))

pub items-returns-in_default : goal.items-returns-in_default
unfolding list_from
items-returns-in_default t c =
    let e = one_more (λ n. list_from (item_of (inner_entry c.args.left)) n c.loop-turn.found c.loop-turn.cursor) _ c.loop-turn._turn c.loop-turn-test.true c.loop-turn.invariant in
    first_of (search rules, grind (arith, common_steps))

pub items-loop-turn-preserved : goal.items-loop-turn-preserved
unfolding list_from
items-loop-turn-preserved t c =
    let e = one_more (λ n. list_from (item_of (inner_entry c.args.left)) n c.loop-turn.found c.loop-turn.cursor) _ c.loop-turn._turn c.loop-turn-test.true c.loop-turn.invariant in
    first_of (search rules, grind (arith, common_steps))

pub items-returns : goal.items-returns
unfolding list_from
items-returns t c =
    let e = no_more (λ n. list_from (item_of (inner_entry c.args.left)) n c.loop-turn.found c.loop-turn.cursor) _ c.loop-turn._turn c.loop-turn-test.false c.loop-turn.invariant in
    first_of (search rules, grind (arith, common_steps))
