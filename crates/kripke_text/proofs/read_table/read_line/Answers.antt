use Rattle.std.proofs.Common.{sym, ◌∙◌, subst}
use Rattle.kripke_text.specs.steps.Reading.{TakesLine}
use Rattle.kripke_text.specs.steps.Subjects.{label_of, number_of, table_of}
use Rattle.fin_struct.proofs.CallerLemmas.{InRange-length}
use Rattle.kripke_text.proofs.SubjectReads.{table_columns}
use Rattle.kripke_text.proofs.TakeLines.{table_suits}
use Rattle.kripke_text.proofs.Writes.{line_within, line_missing}
use Rattle.kripke_text.proofs.read_table.read_line.Goals as goal

pub take_line-requires-clause-long : goal.take_line-requires-clause-long
take_line-requires-clause-long c =
    sym (InRange-length (table_of c.args.kripke.now c.args.subject).sizes c.args.row.now c.requires.row_in)
    ∙ table_columns c.args.over.now c.args.kripke.now c.args.subject c.requires.within c.requires.over c.requires.subject_in

pub returns-in-Some-clause-within : goal.returns-in-Some-clause-within
returns-in-Some-clause-within c =
    let takes = subst (λ found. TakesLine (label_of c.args.over.now c.args.subject) (table_of c.args.kripke.now c.args.subject).values c.args.none c.args.row.now c.args.matcher.now c.take_line.new.matcher found) c.in-Some.is c.in_ok-number.ensures in
    (line_within c.args.over.now c.args.kripke.now c.write_line.new.kripke c.args.subject c.in-Some.number c.args.row.now c.requires.within c.requires.over c.requires.subject_in takes.1 c.write_line.ensures).0

pub returns-in-Some-clause-over : goal.returns-in-Some-clause-over
returns-in-Some-clause-over c =
    let takes = subst (λ found. TakesLine (label_of c.args.over.now c.args.subject) (table_of c.args.kripke.now c.args.subject).values c.args.none c.args.row.now c.args.matcher.now c.take_line.new.matcher found) c.in-Some.is c.in_ok-number.ensures in
    (line_within c.args.over.now c.args.kripke.now c.write_line.new.kripke c.args.subject c.in-Some.number c.args.row.now c.requires.within c.requires.over c.requires.subject_in takes.1 c.write_line.ensures).1

pub returns-in-None-clause-read : goal.returns-in-None-clause-read
returns-in-None-clause-read c =
    let takes = subst (λ found. TakesLine (label_of c.args.over.now c.args.subject) (table_of c.args.kripke.now c.args.subject).values c.args.none c.args.row.now c.args.matcher.now c.take_line.new.matcher found) c.in-None.is c.in_ok-number.ensures in
    line_missing (label_of c.args.over.now c.args.subject) (table_of c.args.kripke.now c.args.subject).values c.args.none (number_of c.args.kripke.now c.args.subject) c.args.row.now c.args.matcher.now c.take_line.new.matcher c.args.kripke.now c.only_if.result c.is_function.result
    (table_suits c.args.over.now c.args.kripke.now c.args.subject c.requires.within c.requires.over c.requires.subject_in) c.is_function.ensures c.only_if.ensures takes
