use Rattle.std.proofs.Common.{sym, ap, ◌∙◌, arith}
use Rattle.nxf_tree.specs.Rows.{all_rows}
use Rattle.fin_struct.specs.Places.{rows_count}
use Rattle.fin_struct.proofs.CallerLemmas.{InRange-length}
use Rattle.kripke_text.specs.steps.Subjects.{label_of, table_of}
use Rattle.kripke_text.proofs.LinesLaw.{lines_begin, lines_step, lines_done}
use Rattle.kripke_text.proofs.RowPlaces.{next_row}
use Rattle.kripke_text.proofs.SubjectReads.{table_filled, table_few, table_columns}
use Rattle.kripke_text.proofs.table.literals.Goals as goal

pub new-requires : goal.new-requires
new-requires g c =
    let few = table_few c.args.over.now c.args.kripke.now c.args.subject c.requires.within c.requires.over c.requires.subject_in in
    omega (arith, few, ap rows_count (c.as_slice.ensures ∙ c.in_ok-sizes.ensures))

pub loop-row-init : goal.loop-row-init
loop-row-init g c =
    lines_begin _ g.M.Taker.takes c.args.out.now (label_of c.args.over.now c.args.subject) (table_of c.args.kripke.now c.args.subject) c.in_ok-rows.rows
    (c.in_ok-rows.ensures ∙ ap all_rows (c.as_slice.ensures ∙ c.in_ok-sizes.ensures))

pub line-shown-requires-clause-row_in : goal.line-shown-requires-clause-row_in
line-shown-requires-clause-row_in g c =
    (next_row (table_of c.args.kripke.now c.args.subject).sizes c.loop-row.rows c.loop-row.invariant.at c.in-Some.row.now c.loop-row.invariant.rows_are c.in-Some.ensures).in_range

pub put_line-requires-clause-long : goal.put_line-requires-clause-long
put_line-requires-clause-long g c =
    let next = next_row (table_of c.args.kripke.now c.args.subject).sizes c.loop-row.rows c.loop-row.invariant.at c.in-Some.row.now c.loop-row.invariant.rows_are c.in-Some.ensures in
    sym (InRange-length (table_of c.args.kripke.now c.args.subject).sizes c.in-Some.row.now next.in_range)
    ∙ table_columns c.args.over.now c.args.kripke.now c.args.subject c.requires.within c.requires.over c.requires.subject_in

pub loop-row-preserved : goal.loop-row-preserved
loop-row-preserved g c =
    lines_step _ g.M.Taker.takes c.args.out.now c.loop-row.out c.put_line.new.out (label_of c.args.over.now c.args.subject) (table_of c.args.kripke.now c.args.subject) c.loop-row.none c.in_ok-none.none c.loop-row.rows c.advance.new.self c.in-Some.row.now c.line-shown.result
    (table_filled c.args.over.now c.args.kripke.now c.args.subject c.requires.within c.requires.over c.requires.subject_in) c.loop-row.invariant c.in-Some.ensures c.line-shown.ensures c.in_ok-none.ensures.none c.in_ok-none.ensures.marks c.advance.ensures

pub returns-clause-none : goal.returns-clause-none
returns-clause-none g c =
    (lines_done _ g.M.Taker.takes c.args.out.now c.loop-row.out (label_of c.args.over.now c.args.subject) (table_of c.args.kripke.now c.args.subject) c.loop-row.none c.loop-row.rows c.loop-row.invariant c.in_default.ensures).1

pub returns-clause-marks : goal.returns-clause-marks
returns-clause-marks g c =
    (lines_done _ g.M.Taker.takes c.args.out.now c.loop-row.out (label_of c.args.over.now c.args.subject) (table_of c.args.kripke.now c.args.subject) c.loop-row.none c.loop-row.rows c.loop-row.invariant c.in_default.ensures).0
