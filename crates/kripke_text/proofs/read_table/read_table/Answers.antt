use Rattle.std.proofs.Common.{ap, ◌∙◌, subst, arith}
use Rattle.fin_struct.specs.Places.{rows_count}
use Rattle.nxf_tree.specs.Rows.{all_rows}
use Rattle.kripke_text.specs.steps.Reading.{ReadsLine}
use Rattle.kripke_text.specs.steps.Taking.{opening_marks}
use Rattle.kripke_text.specs.steps.Comparing.{matched}
use Rattle.kripke_text.specs.steps.Subjects.{label_of, number_of, table_of}
use Rattle.std.specs.List.{fold}
use Rattle.kripke_text.proofs.SubjectReads.{table_few, number_in}
use Rattle.kripke_text.proofs.ReadTables.{table_begins, row_here, table_next, table_missing, table_done}
use Rattle.kripke_text.proofs.read_table.read_table.Goals as goal

pub new-requires : goal.new-requires
new-requires c =
    let few = table_few c.args.over.now c.args.kripke.now c.args.subject c.requires.within c.requires.over c.requires.subject_in in
    let same = ap rows_count (c.as_slice.ensures ∙ c.in_ok-sizes.ensures) in
    omega (arith, few, same)

pub loop-row-init : goal.loop-row-init
loop-row-init c =
    table_begins c.args.over.now c.args.subject c.args.kripke.now c.open_statement.new.out c.in_ok-rows.rows c.requires.within c.requires.over c.requires.subject_in c.requires.blank
    (c.in_ok-rows.ensures ∙ ap all_rows (c.as_slice.ensures ∙ c.in_ok-sizes.ensures))

pub read_line-requires-clause-row_in : goal.read_line-requires-clause-row_in
read_line-requires-clause-row_in c =
    (row_here c.args.over.now c.args.subject c.args.kripke.now c.loop-row.kripke c.open_statement.new.out c.loop-row.left c.loop-row.none c.loop-row.rows c.in-Some.row.now
    (number_in c.args.over.now c.args.kripke.now c.args.subject c.requires.within c.requires.over c.requires.subject_in) c.loop-row.invariant c.in-Some.ensures).in_range

pub returns-in_default-2-clause-read : goal.returns-in_default-2-clause-read
returns-in_default-2-clause-read c =
    let reads = subst (λ after. ReadsLine (label_of c.args.over.now c.args.subject) (table_of c.loop-row.kripke c.args.subject).values c.loop-row.none (number_of c.loop-row.kripke c.args.subject) c.in-Some.row.now c.loop-row.left c.read_line.new.matcher c.loop-row.kripke c.read_line.new.kripke after) c.in_default-2.is c.in_ok-after.ensures.read in
    table_missing c.args.over.now c.args.subject c.args.kripke.now c.loop-row.kripke c.read_line.new.kripke c.statement_name.result.now c.args.matcher.now c.open_statement.new.out c.loop-row.left c.read_line.new.matcher c.loop-row.none c.loop-row.rows c.in-Some.row.now
    c.requires.within c.requires.over c.requires.subject_in c.statement_name.ensures (c.in_ok-open_statement.ensures ∙ ap (λ o. fold matched o (opening_marks c.statement_name.result.now)) c.again-left.ensures) c.loop-row.invariant c.in-Some.ensures reads

pub loop-row-preserved : goal.loop-row-preserved
loop-row-preserved c =
    let reads = subst (λ after. ReadsLine (label_of c.args.over.now c.args.subject) (table_of c.loop-row.kripke c.args.subject).values c.loop-row.none (number_of c.loop-row.kripke c.args.subject) c.in-Some.row.now c.loop-row.left c.read_line.new.matcher c.loop-row.kripke c.read_line.new.kripke after) c.in-Some-2.is c.in_ok-after.ensures.read in
    table_next c.args.over.now c.args.subject c.args.kripke.now c.loop-row.kripke c.read_line.new.kripke c.open_statement.new.out c.loop-row.left c.read_line.new.matcher c.loop-row.none c.in-Some-2.after c.loop-row.rows c.advance.new.self c.in-Some.row.now
    c.requires.within c.requires.over c.requires.subject_in c.loop-row.invariant c.in-Some.ensures reads c.in_ok-after.ensures.within c.in_ok-after.ensures.over c.advance.ensures

pub returns-clause-read : goal.returns-clause-read
returns-clause-read c =
    table_done c.args.over.now c.args.subject c.args.kripke.now c.loop-row.kripke c.statement_name.result.now c.args.matcher.now c.open_statement.new.out c.loop-row.left c.truth.new.out c.close_statement.new.out c.loop-row.none c.loop-row.rows c.is_done.result
    c.requires.within c.requires.over c.requires.subject_in c.statement_name.ensures (c.in_ok-open_statement.ensures ∙ ap (λ o. fold matched o (opening_marks c.statement_name.result.now)) c.again-left.ensures) c.loop-row.invariant c.in_default.ensures c.in_ok-truth.ensures c.in_ok-close_statement.ensures c.is_done.ensures
