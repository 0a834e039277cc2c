use Rattle.kripke_text.proofs.Bytes.{too_short}
use Rattle.kripke_text.proofs.number.take_bytes.Goals as goal

pub returns-in-None-clause-missed : goal.returns-in-None-clause-missed
returns-in-None-clause-missed c = λ _ rest e. too_short c.args.text.now c.args.expected.now rest c.loop-b.text c.loop-b.b-index c.loop-b-test.true c.loop-b.invariant c.in-None.ensures.end e
