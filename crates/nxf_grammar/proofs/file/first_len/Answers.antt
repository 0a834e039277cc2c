use Rattle.std.proofs.Common.{sym, ap, ◌∙◌, arith}
use Rattle.syntax_definitions.specs.steps.ReadFiles.{first_len}
use Rattle.grammar_laws.proofs.ExactFiles.{stop_here, no_stop, next_len}
use Rattle.nxf_grammar.proofs.file.first_len.Goals as goal

pub returns-then-sees-clause-value : goal.returns-then-sees-clause-value
returns-then-sees-clause-value c =
    let e = stop_here c.loop-len.cursor (omega (arith, c.loop-len-test.true, c.len.ensures)) (sym c.sees.ensures ∙ c.if-sees.true) in
    omega (arith, e, c.loop-len.invariant.value, ap first_len c.new-cursor.ensures)

pub loop-len-preserved : goal.loop-len-preserved
loop-len-preserved c =
    let e = no_stop c.loop-len.cursor (omega (arith, c.loop-len-test.true, c.len.ensures)) (sym c.sees.ensures ∙ c.if-sees.false) in
    let l = next_len c.loop-len.cursor (omega (arith, c.loop-len-test.true, c.len.ensures)) in
    rw c.step.ensures (record { value = omega (arith, e, c.loop-len.invariant.value); all = omega (arith, l, c.loop-len.invariant.all) })
