use Rattle.kripke_text_definitions.specs.KripkeText.{member}
use Rattle.kripke_text.specs.steps.Taking.{numbered}
use Rattle.kripke_text.proofs.Folds.{members_next}
use Rattle.kripke_text.proofs.head.members.Goals as goal

pub loop-n-preserved : goal.loop-n-preserved
loop-n-preserved g c =
    members_next g.M.Taker.takes c.args.out.now c.loop-n.out c.bar.new.out c.member.new.out (member c.args.variable.now (numbered c.args.front.now)) c.loop-n.n c.loop-n.invariant c.in_ok-bar.ensures c.in_ok-member.ensures
