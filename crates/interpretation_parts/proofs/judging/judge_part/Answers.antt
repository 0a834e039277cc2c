use Rattle.std.proofs.Common.{◌≡◌, ◌++◌, map, OnOk, subst, refl}
use Rattle.interpretation_definitions.specs.Context.{listings_of}
use Rattle.interpretation_definitions.specs.Given.{given_by}
use Rattle.interpretation_definitions.specs.Judging.{closure_fault, listings_before}
use Rattle.interpretation_definitions.specs.Parts.{Declares, Closes, Applies, Equates, Differs, AllDiffer, SaysNothing, argument}
use Rattle.interpretation_parts.specs.steps.Closed.{AreNoted}
use Rattle.interpretation_parts.specs.steps.Held.{context_in, Judges}
use Rattle.interpretation_parts.specs.steps.Readings.{names_in, texts}
use Rattle.interpretation_parts.proofs.AfterLemmas.{after_closure, after_nothing, after_row, always, on_ok}
use Rattle.interpretation_parts.proofs.judging.judge_part.Goals as goal

pub returns-in-Declares-clause-after : goal.returns-in-Declares-clause-after
returns-in-Declares-clause-after c parts after =
    rw c.in-Declares.is (always c.clash_error.result (after_nothing (context_in c.args.context.now) c.args.rows.now.entries c.args.closures.now parts (Declares c.in-Declares.typing.now) after refl refl))

pub returns-in-Closes-clause-judged : goal.returns-in-Closes-clause-judged
returns-in-Closes-clause-judged c parts after =
    rw c.in-Closes.is (subst (λ l. Judges (closure_fault (context_in c.args.context.now) parts c.in-Closes.sort.now (texts l)) c.judge_closure.result) c.as_slice.ensures.value (c.judge_closure.ensures.judged parts after.noted))

pub returns-in-Closes-clause-after : goal.returns-in-Closes-clause-after
returns-in-Closes-clause-after c parts after =
    let context = context_in c.args.context.now in
    let sort = c.in-Closes.sort.now in
    let new = c.judge_closure.new.closures in
    rw c.in-Closes.is
    (on_ok c.judge_closure.result (λ noted. after_closure context c.args.rows.now.entries c.args.closures.now new parts sort (names_in c.in-Closes.names) after noted c.judge_closure.ensures.count)
    (subst (λ l. OnOk c.judge_closure.result (AreNoted (listings_before context parts ++ listings_of context.sorts (Closes sort (texts l))) new)) c.as_slice.ensures.value (c.judge_closure.ensures.noted (listings_before context parts) after.noted)))

pub returns-in-Applies-clause-judged : goal.returns-in-Applies-clause-judged
returns-in-Applies-clause-judged c parts after = rw c.in-Applies.is (c.judge_atom.ensures.judged (given_by (context_in c.args.context.now) parts) after.given)

pub returns-in-Applies-clause-after : goal.returns-in-Applies-clause-after
returns-in-Applies-clause-after c parts after =
    let context = context_in c.args.context.now in
    rw c.in-Applies.is
    (on_ok c.judge_atom.result (λ has. after_row context c.args.rows.now.entries c.judge_atom.new.rows.entries c.args.closures.now parts (Applies c.in-Applies.truth c.in-Applies.name.now (map argument c.in-Applies.terms.now)) after refl has)
    (c.judge_atom.ensures.rows (given_by context parts) after.given))

pub returns-in-Equates-clause-judged : goal.returns-in-Equates-clause-judged
returns-in-Equates-clause-judged c parts after = rw c.in-Equates.is (c.judge_equation.ensures.judged (given_by (context_in c.args.context.now) parts) after.given)

pub returns-in-Equates-clause-after : goal.returns-in-Equates-clause-after
returns-in-Equates-clause-after c parts after =
    let context = context_in c.args.context.now in
    rw c.in-Equates.is
    (on_ok c.judge_equation.result (λ has. after_row context c.args.rows.now.entries c.judge_equation.new.rows.entries c.args.closures.now parts (Equates c.in-Equates.name.now (map argument c.in-Equates.terms.now) (argument c.in-Equates.value.now)) after refl has)
    (c.judge_equation.ensures.rows (given_by context parts) after.given))

pub returns-in-Differs-clause-after : goal.returns-in-Differs-clause-after
returns-in-Differs-clause-after c parts after =
    rw c.in-Differs.is (always c.judge_differ.result (after_nothing (context_in c.args.context.now) c.args.rows.now.entries c.args.closures.now parts (Differs (argument c.in-Differs.left.now) (argument c.in-Differs.right.now)) after refl refl))

pub returns-in-AllDiffer-clause-after : goal.returns-in-AllDiffer-clause-after
returns-in-AllDiffer-clause-after c parts after =
    rw c.in-AllDiffer.is (always c.judge_distinct.result (after_nothing (context_in c.args.context.now) c.args.rows.now.entries c.args.closures.now parts (AllDiffer (map argument c.in-AllDiffer.terms.now)) after refl refl))

pub returns-in-SaysNothing-clause-after : goal.returns-in-SaysNothing-clause-after
returns-in-SaysNothing-clause-after c parts after =
    rw c.in-SaysNothing.is (after_nothing (context_in c.args.context.now) c.args.rows.now.entries c.args.closures.now parts SaysNothing after refl refl)
