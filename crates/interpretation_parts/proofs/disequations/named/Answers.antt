use Rattle.std.proofs.Common.{◌≡◌, ◌++◌, take, ap, ◌∙◌, sym}
use Rattle.std.proofs.lemmas.Grind.{take_at_read}
use Rattle.interpretation_parts.specs.steps.Held.{context_in, one_of}
use Rattle.interpretation_parts.proofs.RowLemmas.{elements-next}
use Rattle.interpretation_parts.proofs.disequations.named.Goals as goal

pub loop-term-preserved : goal.loop-term-preserved
loop-term-preserved c =
    let i = c.loop-term.term-index in
    let terms = take i c.args.terms.now in
    let more = (take_at_read c.args.terms.now i c.term-item.result c.loop-term-test.true).1 in
    rw (more, ← c.term-item.is) (c.in_ok-push_one.ensures ∙ ap (λ l. l ++ one_of c.element_of.result) c.loop-term.invariant ∙ sym (elements-next (context_in c.args.context.now) terms c.term-item.result c.element_of.result c.element_of.ensures))
