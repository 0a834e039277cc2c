use Rattle.std.proofs.Common.{rules, arith, sym, ◌∙◌}
use Rattle.std.proofs.lemmas.Grind.{common_steps}
use Rattle.syntax_definitions.specs.steps.ReadFormulas.{term, terms_from}
use Rattle.nxf_terminals.proofs.CallerLemmas.{one_more, no_more}
use Rattle.syntax_definitions.proofs.CallerLemmas.{no_argument}
use Rattle.nxf_formulas.proofs.parser.+term.Goals as goal

pub arguments-returns-then-left-eq0 : goal.arguments-returns-then-left-eq0
arguments-returns-then-left-eq0 t c other = no_argument c.args.most c.args.left c.args.cursor.now (omega arith) (sym c.eat.ensures.value ∙ c.if-not-eat.false)

pub terms-returns-in_err-term : goal.terms-returns-in_err-term
unfolding terms_from
terms-returns-in_err-term t c =
    let e = one_more (λ n. terms_from c.args.most (term c.args.most c.args.left) n c.loop-turn.found c.loop-turn.cursor) _ c.loop-turn._turn c.loop-turn-test.true c.loop-turn.invariant in
    first_of (search rules, grind (arith, common_steps))

pub terms-returns-in_err-expect : goal.terms-returns-in_err-expect
unfolding terms_from
terms-returns-in_err-expect t c =
    let e = one_more (λ n. terms_from c.args.most (term c.args.most c.args.left) n c.loop-turn.found c.loop-turn.cursor) _ c.loop-turn._turn c.loop-turn-test.true c.loop-turn.invariant in
    first_of (search rules, grind (arith, common_steps))

pub terms-returns-then-not-eat : goal.terms-returns-then-not-eat
unfolding terms_from
terms-returns-then-not-eat t c =
    let e = one_more (λ n. terms_from c.args.most (term c.args.most c.args.left) n c.loop-turn.found c.loop-turn.cursor) _ c.loop-turn._turn c.loop-turn-test.true c.loop-turn.invariant in
    first_of (search rules, grind (arith, common_steps))

pub terms-loop-turn-preserved : goal.terms-loop-turn-preserved
unfolding terms_from
terms-loop-turn-preserved t c =
    let e = one_more (λ n. terms_from c.args.most (term c.args.most c.args.left) n c.loop-turn.found c.loop-turn.cursor) _ c.loop-turn._turn c.loop-turn-test.true c.loop-turn.invariant in
    first_of (search rules, grind (arith, common_steps))

pub terms-returns : goal.terms-returns
unfolding terms_from
terms-returns t c =
    let e = no_more (λ n. terms_from c.args.most (term c.args.most c.args.left) n c.loop-turn.found c.loop-turn.cursor) _ c.loop-turn._turn c.loop-turn-test.false c.loop-turn.invariant in
    first_of (search rules, grind (arith, common_steps))
