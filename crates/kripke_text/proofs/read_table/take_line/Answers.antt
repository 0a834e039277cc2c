use Rattle.std.proofs.Common.{ap, sym, ◌∙◌, subst}
use Rattle.std.specs.List.{fold}
use Rattle.kripke_text.specs.steps.Taking.{lead_marks}
use Rattle.kripke_text_definitions.specs.KripkeText as text
use Rattle.kripke_text.specs.steps.Comparing.{matched}
use Rattle.kripke_text.specs.steps.Reading.{TakesNumber, Bounded}
use Rattle.kripke_text.specs.steps.Subjects.{label_of, table_of}
use Rattle.kripke_text.proofs.TakeLines.{front_missed, value_missed, back_missed, line_taken, table_suits}
use Rattle.kripke_text.proofs.read_table.take_line.Goals as goal

pub returns-then-not-agrees : goal.returns-then-not-agrees
returns-then-not-agrees c =
    front_missed (label_of c.args.over.now c.args.subject) (table_of c.args.kripke.now c.args.subject).values c.args.none c.args.row.now c.args.matcher.now c.lead.new.out c.front.new.out
    (c.in_ok-lead.ensures ∙ ap (λ o. fold matched o (lead_marks c.args.none)) c.again-trial.ensures) c.in_ok-front.ensures (sym c.if-not-agrees.ensures)

pub returns-in_default : goal.returns-in_default
returns-in_default c =
    value_missed (label_of c.args.over.now c.args.subject) (table_of c.args.kripke.now c.args.subject).values c.args.none c.args.row.now c.args.matcher.now c.lead.new.out c.front.new.out c.take_value.new.matcher
    (c.in_ok-lead.ensures ∙ ap (λ o. fold matched o (lead_marks c.args.none)) c.again-trial.ensures) c.in_ok-front.ensures
    (subst (λ found. TakesNumber (text.label_value (label_of c.args.over.now c.args.subject)) (Bounded (table_of c.args.kripke.now c.args.subject).values) c.front.new.out c.take_value.new.matcher found) c.in_default.is c.in_ok-number.ensures)

pub returns-then-not-agrees-2 : goal.returns-then-not-agrees-2
returns-then-not-agrees-2 c =
    back_missed (label_of c.args.over.now c.args.subject) (table_of c.args.kripke.now c.args.subject).values c.args.none c.args.row.now c.in-Some.number c.args.matcher.now c.lead.new.out c.front.new.out c.take_value.new.matcher c.back.new.out
    (table_suits c.args.over.now c.args.kripke.now c.args.subject c.requires.within c.requires.over c.requires.subject_in)
    (c.in_ok-lead.ensures ∙ ap (λ o. fold matched o (lead_marks c.args.none)) c.again-trial.ensures) c.in_ok-front.ensures
    (subst (λ found. TakesNumber (text.label_value (label_of c.args.over.now c.args.subject)) (Bounded (table_of c.args.kripke.now c.args.subject).values) c.front.new.out c.take_value.new.matcher found) c.in-Some.is c.in_ok-number.ensures)
    c.in_ok-back.ensures (sym c.if-not-agrees-2.ensures)

pub returns : goal.returns
returns c =
    line_taken (label_of c.args.over.now c.args.subject) (table_of c.args.kripke.now c.args.subject).values c.args.none c.args.row.now c.in-Some.number c.args.matcher.now c.lead.new.out c.front.new.out c.take_value.new.matcher c.back.new.out
    (c.in_ok-lead.ensures ∙ ap (λ o. fold matched o (lead_marks c.args.none)) c.again-trial.ensures) c.in_ok-front.ensures
    (subst (λ found. TakesNumber (text.label_value (label_of c.args.over.now c.args.subject)) (Bounded (table_of c.args.kripke.now c.args.subject).values) c.front.new.out c.take_value.new.matcher found) c.in-Some.is c.in_ok-number.ensures)
    c.in_ok-back.ensures (sym c.if-not-agrees-2.ensures)
