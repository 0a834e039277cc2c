use Rattle.std.proofs.Common.{rules, arith}
use Rattle.std.proofs.lemmas.Grind.{common_steps}
use Rattle.syntax_definitions.specs.steps.ReadFormulas.{unit, units, units_from}
use Rattle.nxf_terminals.proofs.CallerLemmas.{one_more, no_more}
use Rattle.syntax_definitions.proofs.CallerLemmas.{no_group, unit_is}
use Rattle.nxf_formulas.proofs.parser.+unit.Goals as goal

pub group-returns-then-left-eq0 : goal.group-returns-then-left-eq0
group-returns-then-left-eq0 t c other = no_group c.args.most c.args.left c.args.cursor.now (omega arith)

pub unit-returns : goal.unit-returns
unit-returns t c = rw (unit_is c.args.most c.args.left c.args.cursor.now) c.unit_from.ensures

pub units-loop-turn-init : goal.units-loop-turn-init
unfolding units
units-loop-turn-init t c = first_of (search rules, grind (arith, common_steps))

pub units-returns-in_err-unit : goal.units-returns-in_err-unit
unfolding units_from
units-returns-in_err-unit t c =
    let e = one_more (λ n. units_from (unit c.args.most c.args.left) c.args.joint n c.loop-turn.found c.loop-turn.cursor) _ c.loop-turn._turn c.loop-turn-test.true c.loop-turn.invariant in
    first_of (search rules, grind (arith, common_steps))

pub units-returns-then-not-eat : goal.units-returns-then-not-eat
unfolding units_from
units-returns-then-not-eat t c =
    let e = one_more (λ n. units_from (unit c.args.most c.args.left) c.args.joint n c.loop-turn.found c.loop-turn.cursor) _ c.loop-turn._turn c.loop-turn-test.true c.loop-turn.invariant in
    first_of (search rules, grind (arith, common_steps))

pub units-loop-turn-preserved : goal.units-loop-turn-preserved
unfolding units_from
units-loop-turn-preserved t c =
    let e = one_more (λ n. units_from (unit c.args.most c.args.left) c.args.joint n c.loop-turn.found c.loop-turn.cursor) _ c.loop-turn._turn c.loop-turn-test.true c.loop-turn.invariant in
    first_of (search rules, grind (arith, common_steps))

pub units-returns : goal.units-returns
unfolding units_from
units-returns t c =
    let e = no_more (λ n. units_from (unit c.args.most c.args.left) c.args.joint n c.loop-turn.found c.loop-turn.cursor) _ c.loop-turn._turn c.loop-turn-test.false c.loop-turn.invariant in
    first_of (search rules, grind (arith, common_steps))
