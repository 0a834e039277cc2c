use Rattle.std.proofs.Common.{map, ap, ◌∙◌, sym, subst}
use Rattle.interpretation_definitions.specs.Parts.{argument}
use Rattle.interpretation_definitions.specs.Given.{elements_of}
use Rattle.interpretation_definitions.specs.Judging.{value_clash}
use Rattle.interpretation_parts.specs.steps.Entries.{entry_in}
use Rattle.interpretation_parts.specs.steps.Held.{context_in, Judges, clash_if}
use Rattle.interpretation_parts.proofs.RowLemmas.{equation_late}
use Rattle.interpretation_parts.proofs.judge.judge_equation.Goals as goal

pub returns-in-Some-symbol-clause-judged : goal.returns-in-Some-symbol-clause-judged
returns-in-Some-symbol-clause-judged c given has =
    let context = context_in c.args.context.now in
    let args = map argument c.args.terms.now in
    let value = argument c.args.value.now in
    let entry = c.in-Some-symbol.entry.now in
    let late = equation_late context given c.args.name.now args value (entry_in c.args.symbol) (c.in-Some-symbol.place, entry) (sym c.is_extra.ensures ∙ c.if-is_extra.false) c.requires (ap entry_in c.in-Some-symbol.is) (sym c.equation_early.ensures ∙ c.in-None.is) in
    subst (λ fault. Judges fault c.judge_value.result) (sym late)
    (subst (λ e. Judges (clash_if (value_clash given (c.in-Some-symbol.place, entry) entry.gives (elements_of context args) e)) c.judge_value.result) c.element_of.ensures (c.judge_value.ensures.judged given has))
