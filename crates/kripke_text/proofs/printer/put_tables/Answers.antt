use Rattle.std.proofs.Common.{get_or, ◌∙◌}
use Rattle.kripke_text_definitions.specs.KripkeText.{table_statement}
use Rattle.fin_struct.specs.RowLists.{listed}
use Rattle.kripke_text.specs.declared.subject.Subject.TheVariants.{Relation}
use Rattle.kripke_text.specs.steps.Subjects.{label_of, table_of}
use Rattle.kripke_text.proofs.Pages.{page_next, page_end, table_first, tables_none, subject_there}
use Rattle.kripke_text.proofs.printer.put_tables.Goals as goal

pub table_statement-requires-clause-subject_in : goal.table_statement-requires-clause-subject_in
table_statement-requires-clause-subject_in c =
    let are = c.as_slice-subject-items.ensures ∙ c.in_ok-subjects.ensures in
    (subject_there c.args.over.now c.args.kripke.now c.as_slice-subject-items.result.now c.loop-subject.subject-index (Relation 0) (label_of c.args.over.now (Relation 0)) c.requires.within c.requires.over are c.loop-subject-test.true).is_in

pub loop-subject-preserved : goal.loop-subject-preserved
loop-subject-preserved c =
    let are = c.as_slice-subject-items.ensures ∙ c.in_ok-subjects.ensures in
    let subject = get_or c.as_slice-subject-items.result.now c.loop-subject.subject-index (Relation 0) in
    page_next c.loop-subject.page c.table_statement.new.out _ (table_statement (label_of c.args.over.now subject) (listed (table_of c.args.kripke.now subject))) _ _
    (table_first c.args.over.now c.args.kripke.now c.as_slice-subject-items.result.now c.loop-subject.subject-index (Relation 0) c.requires.within c.requires.over are c.loop-subject-test.true) c.in_ok-table_statement.ensures c.loop-subject.invariant

pub returns : goal.returns
returns c =
    let are = c.as_slice-subject-items.ensures ∙ c.in_ok-subjects.ensures in
    page_end c.loop-subject.page _ _ (tables_none c.args.over.now c.args.kripke.now c.as_slice-subject-items.result.now c.loop-subject.subject-index c.requires.within c.requires.over are c.loop-subject-test.false) c.loop-subject.invariant
