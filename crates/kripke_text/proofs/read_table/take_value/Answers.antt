use Rattle.std.proofs.Common.{ap}
use Rattle.kripke_text.proofs.TakeLines.{relation_value, existence_value, symbol_value}
use Rattle.kripke_text.proofs.SubjectReads.{if_ok}
use Rattle.kripke_text.proofs.read_table.take_value.Goals as goal

pub returns-in-Relation : goal.returns-in-Relation
returns-in-Relation c = relation_value c.args.over.now c.args.kripke.now c.args.subject _ c.args.matcher.now c.requires.within c.requires.over c.requires.subject_in c.in-Relation.is c.requires.agrees

pub returns-in-Existence : goal.returns-in-Existence
returns-in-Existence c = existence_value c.args.over.now c.args.kripke.now c.args.subject _ c.args.matcher.now c.requires.within c.requires.over c.requires.subject_in c.in-Existence.is c.requires.agrees

pub returns-in-Symbol : goal.returns-in-Symbol
returns-in-Symbol c =
    if_ok c.take_result.result _ _ (λ found takes. symbol_value c.args.over.now c.args.kripke.now c.args.subject c.in-Symbol.symbol _ c.args.matcher.now c.take_result.new.matcher found c.requires.within c.requires.over c.requires.subject_in c.in-Symbol.is (ap (λ e. e.gives) c.symbol_entry.ensures) takes) c.take_result.ensures
