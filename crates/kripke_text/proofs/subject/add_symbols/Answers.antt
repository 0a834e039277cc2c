use Rattle.std.proofs.Common.{arith}
use Rattle.kripke_text.proofs.SubjectPlaces.{symbols_next}
use Rattle.kripke_text.proofs.subject.add_symbols.Goals as goal

pub loop-place-preserved : goal.loop-place-preserved
loop-place-preserved c = symbols_next c.args.symbols.now c.loop-place.place c.loop-place.made c.push.new.self _ (omega (arith, c.len-place-end.ensures)) c.in_ok-push.ensures.pushed c.loop-place.invariant
