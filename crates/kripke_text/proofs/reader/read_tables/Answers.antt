use Rattle.std.proofs.Common.{◌≡◌, ◌+◌, ◌≤◌, ap, sym, ◌∙◌, arith, length, get_or, []}
use Rattle.kripke_text.specs.declared.subject.Subject.TheVariants.{Relation}
use Rattle.kripke_text.specs.steps.Reading.{IsNext}
use Rattle.kripke_text.proofs.ReadTexts.{tables_begin, table_here, blank_here, tables_next, tables_done, table_refused, rest_refused, some_has, none_has}
use Rattle.kripke_text.proofs.reader.read_tables.Goals as goal

pub loop-place-init : goal.loop-place-init
loop-place-init c = tables_begin c.args.over.now c.args.kripke.now c.args.statements.now c.requires.within c.requires.over c.requires.blank

pub next_table-requires-clause-subject_in : goal.next_table-requires-clause-subject_in
next_table-requires-clause-subject_in c =
    (table_here c.args.over.now c.loop-place.kripke c.as_slice-subject-items.result.now (Relation 0) c.loop-place.place c.loop-place.invariant.within c.loop-place.invariant.for_sig (c.as_slice-subject-items.ensures ∙ c.in_ok-subjects.ensures) c.loop-place-test.true).is_in

pub next_table-requires-clause-blank : goal.next_table-requires-clause-blank
next_table-requires-clause-blank c =
    let here = table_here c.args.over.now c.loop-place.kripke c.as_slice-subject-items.result.now (Relation 0) c.loop-place.place c.loop-place.invariant.within c.loop-place.invariant.for_sig (c.as_slice-subject-items.ensures ∙ c.in_ok-subjects.ensures) c.loop-place-test.true in
    blank_here c.args.over.now c.args.kripke.now c.args.statements.now c.loop-place.statements c.loop-place.kripke c.loop-place.place (get_or c.as_slice-subject-items.result.now c.loop-place.place (Relation 0)) c.loop-place.invariant here

pub returns-then-not-branch-clause-refused : goal.returns-then-not-branch-clause-refused
returns-then-not-branch-clause-refused c =
    let here = table_here c.args.over.now c.loop-place.kripke c.as_slice-subject-items.result.now (Relation 0) c.loop-place.place c.loop-place.invariant.within c.loop-place.invariant.for_sig (c.as_slice-subject-items.ensures ∙ c.in_ok-subjects.ensures) c.loop-place-test.true in
    table_refused c.args.over.now c.args.kripke.now c.args.statements.now c.loop-place.statements c.next_table.new.statements c.loop-place.kripke c.next_table.new.kripke c.loop-place.place (c.len.result + 3 + c.loop-place.place)
    (get_or c.as_slice-subject-items.result.now c.loop-place.place (Relation 0)) c.in_ok-next_table.field-0 c.requires.well_formed.in_range c.requires.within c.requires.over c.loop-place.invariant here c.if-not-branch.true c.in_ok-next_table.ensures.taken
    (ap (λ n. n + 3 + c.loop-place.place) c.len.ensures)

pub loop-place-preserved : goal.loop-place-preserved
loop-place-preserved c =
    let here = table_here c.args.over.now c.loop-place.kripke c.as_slice-subject-items.result.now (Relation 0) c.loop-place.place c.loop-place.invariant.within c.loop-place.invariant.for_sig (c.as_slice-subject-items.ensures ∙ c.in_ok-subjects.ensures) c.loop-place-test.true in
    tables_next c.args.over.now c.args.kripke.now c.args.statements.now c.loop-place.statements c.next_table.new.statements c.loop-place.kripke c.next_table.new.kripke c.loop-place.place
    (get_or c.as_slice-subject-items.result.now c.loop-place.place (Relation 0)) c.in_ok-next_table.field-0 c.loop-place.invariant here c.if-not-branch.false c.in_ok-next_table.ensures.taken c.in_ok-next_table.ensures.within c.in_ok-next_table.ensures.over

pub returns-then-is_some-clause-refused : goal.returns-then-is_some-clause-refused
returns-then-is_some-clause-refused c =
    let next = (some_has c.take_next.result (λ found. IsNext c.loop-place.statements found c.take_next.new.self) (sym c.if-is_some.ensures) c.take_next.ensures.some).1 in
    let past : length c.as_slice-subject-items.result.now ≤ c.loop-place.place = omega (arith, c.loop-place-test.false) in
    rest_refused c.args.over.now c.args.kripke.now c.args.statements.now c.loop-place.statements c.take_next.new.self next.0 c.loop-place.kripke c.as_slice-subject-items.result.now c.loop-place.place (c.len.result + 3 + c.len-then-is_some.result)
    c.requires.well_formed.in_range c.requires.within c.requires.over c.loop-place.invariant (c.as_slice-subject-items.ensures ∙ c.in_ok-subjects.ensures) past next.2
    (omega (arith, c.len.ensures, c.len-then-is_some.ensures, ap length c.as_slice-subject-items.ensures))

pub returns-clause-read : goal.returns-clause-read
returns-clause-read c =
    let none = none_has c.take_next.result (c.loop-place.statements ≡ []) (sym c.if-is_some.ensures) c.take_next.ensures.none in
    let past : length c.as_slice-subject-items.result.now ≤ c.loop-place.place = omega (arith, c.loop-place-test.false) in
    tables_done c.args.over.now c.args.kripke.now c.args.statements.now c.loop-place.statements c.loop-place.kripke c.as_slice-subject-items.result.now c.loop-place.place c.loop-place.invariant (c.as_slice-subject-items.ensures ∙ c.in_ok-subjects.ensures) past none
