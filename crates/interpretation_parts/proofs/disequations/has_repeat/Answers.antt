use Rattle.interpretation_parts.proofs.SeenLemmas.{repeat_done, repeat_pairs, seen_pairs}
use Rattle.interpretation_parts.proofs.disequations.has_repeat.Goals as goal

pub loop-element-preserved : goal.loop-element-preserved
loop-element-preserved c =
    let es = c.args.elements.now in
    let i = c.loop-element.element-index in
    let keys = c.loop-element.seen.keys in
    record {
      seen = seen_pairs es i _ keys c.note_key.new.seen.keys c.in_ok-key.key c.loop-element-test.true c.loop-element.invariant.seen c.in_ok-key.ensures c.in_ok-known.ensures.keys;
      repeat = repeat_pairs es i _ keys c.in_ok-key.key c.loop-element.repeat c.in_ok-known.known c.loop-element-test.true c.loop-element.invariant.seen c.in_ok-key.ensures c.loop-element.invariant.repeat c.in_ok-known.ensures.known;
    }

pub returns : goal.returns
returns c = repeat_done c.args.elements.now c.loop-element.element-index c.loop-element.repeat c.loop-element-test.false c.loop-element.invariant.repeat
