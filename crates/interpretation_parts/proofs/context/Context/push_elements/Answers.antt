use Rattle.std.proofs.Common.{◌++◌, ap, ◌∙◌, take}
use Rattle.std.proofs.lemmas.Grind.{take_at_read}
use Rattle.interpretation_definitions.specs.Given.{numbers_of}
use Rattle.interpretation_definitions.specs.Judging.{sorts_of}
use Rattle.interpretation_parts.specs.steps.Held.{context_in, one_of}
use Rattle.interpretation_parts.proofs.RowLemmas.{sorts-next, numbers-next}
use Rattle.interpretation_parts.proofs.context.Context.push_elements.Goals as goal

pub loop-term-preserved : goal.loop-term-preserved
loop-term-preserved c =
    let i = c.loop-term.term-index in
    let terms = take i c.args.terms.now in
    let more = (take_at_read c.args.terms.now i c.term-item.result c.loop-term-test.true).1 in
    record {
      sorts = rw (more, ← c.term-item.is) (c.in_ok-push_element.ensures.sorts ∙ ap (λ l. l ++ sorts_of (one_of c.element_of.result)) c.loop-term.invariant.sorts ∙ sorts-next (context_in c.args.self.now) terms c.term-item.result c.args.sorts.now.items c.element_of.result c.element_of.ensures);
      numbers = rw (more, ← c.term-item.is) (c.in_ok-push_element.ensures.numbers ∙ ap (λ l. l ++ numbers_of (one_of c.element_of.result)) c.loop-term.invariant.numbers ∙ numbers-next (context_in c.args.self.now) terms c.term-item.result c.args.numbers.now.items c.element_of.result c.element_of.ensures);
    }
