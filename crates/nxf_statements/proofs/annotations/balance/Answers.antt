use Rattle.std.proofs.Common.{rules, arith, ◌∙◌}
use Rattle.std.proofs.lemmas.Grind.{common_steps}
use Rattle.syntax_definitions.proofs.CallerLemmas.{balance_is, balance_at_end}
use Rattle.nxf_statements.proofs.annotations.balance.Goals as goal

pub returns-then-is_last : goal.returns-then-is_last
returns-then-is_last c =
    let e = c.loop-cursor.invariant ∙ balance_is c.loop-cursor.cursor c.loop-cursor.open (omega (arith, c.loop-cursor-test.true, c.len.ensures)) in
    first_of (search rules, grind (arith, common_steps))

pub returns-in_err-advance : goal.returns-in_err-advance
returns-in_err-advance c =
    let e = c.loop-cursor.invariant ∙ balance_is c.loop-cursor.cursor c.loop-cursor.open (omega (arith, c.loop-cursor-test.true, c.len.ensures)) in
    first_of (search rules, grind (arith, common_steps))

pub loop-cursor-preserved : goal.loop-cursor-preserved
loop-cursor-preserved c =
    let e = c.loop-cursor.invariant ∙ balance_is c.loop-cursor.cursor c.loop-cursor.open (omega (arith, c.loop-cursor-test.true, c.len.ensures)) in
    first_of (search rules, grind (arith, common_steps))

pub returns : goal.returns
returns c =
    let e = c.loop-cursor.invariant ∙ balance_at_end c.loop-cursor.cursor c.loop-cursor.open (omega (arith, c.loop-cursor-test.false, c.len.ensures)) in
    first_of (search rules, grind (arith, common_steps))
