use Rattle.std.proofs.Common.{refl, sym, ◌∙◌, arith}
use Rattle.kripke_text.proofs.Nexts.{no_stops_more, cut_at, cut_none}
use Rattle.kripke_text.proofs.statements.first_len.Goals as goal

pub loop-at-preserved : goal.loop-at-preserved
loop-at-preserved c = no_stops_more c.args.bytes.now c.args.left.now c.loop-at.at _ c.loop-at-test.true c.loop-at.invariant (sym c.is_stop.ensures ∙ c.if-is_stop.false)

pub returns-then-is_stop-clause-cut : goal.returns-then-is_stop-clause-cut
returns-then-is_stop-clause-cut c = cut_at c.args.bytes.now c.args.left.now c.loop-at.at _ c.loop-at-test.true c.loop-at.invariant (sym c.is_stop.ensures ∙ c.if-is_stop.true)

pub returns-clause-cut : goal.returns-clause-cut
returns-clause-cut c = cut_none c.args.bytes.now c.args.left.now _ c.requires.some refl (λ k d h. c.loop-at.invariant k d (omega arith))
