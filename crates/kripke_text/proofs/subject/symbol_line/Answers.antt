use Rattle.std.proofs.Common.{◌∷◌, ap, sym, ◌∙◌}
use Rattle.nxf_tree.specs.Rows.{size_at}
use Rattle.fin_struct.specs.KripkeTables.{symbol_row, symbol_table}
use Rattle.kripke_text.proofs.SubjectReads.{function_values, predicate_values, some_values, truth_said, value_said}
use Rattle.kripke_text.proofs.subject.symbol_line.Goals as goal

pub value-requires-clause-function : goal.value-requires-clause-function
value-requires-clause-function c = some_values _ _ (function_values c.args.over.now c.args.kripke.now c.args.symbol c.in-Some.field-0 c.symbol_entry-entry.result.now c.requires.within c.requires.over c.requires.symbol_in c.symbol_entry-entry.ensures c.in-Some.is)

pub returns-in-Some : goal.returns-in-Some
returns-in-Some c =
    value_said (symbol_table c.args.kripke.now c.args.symbol) (size_at c.args.kripke.now.sizes c.in-Some.field-0) c.value.result (symbol_row c.args.kripke.now c.args.symbol c.symbol_parts-world.result.0 c.symbol_parts-world.result.1.now) c.args.row.now
    (function_values c.args.over.now c.args.kripke.now c.args.symbol c.in-Some.field-0 c.symbol_entry-entry.result.now c.requires.within c.requires.over c.requires.symbol_in c.symbol_entry-entry.ensures c.in-Some.is) c.symbol_parts-world.ensures.row c.value.ensures.cell

pub holds-requires-clause-predicate : goal.holds-requires-clause-predicate
holds-requires-clause-predicate c = predicate_values c.args.over.now c.args.kripke.now c.args.symbol c.symbol_entry-entry.result.now c.requires.within c.requires.over c.requires.symbol_in c.symbol_entry-entry.ensures c.in-None.is

pub returns-in-None : goal.returns-in-None
returns-in-None c =
    truth_said (symbol_table c.args.kripke.now c.args.symbol) c.holds.result c.chosen.result (c.symbol_parts-world.result.0 ∷ c.symbol_parts-world.result.1.now) c.args.row.now
    (predicate_values c.args.over.now c.args.kripke.now c.args.symbol c.symbol_entry-entry.result.now c.requires.within c.requires.over c.requires.symbol_in c.symbol_entry-entry.ensures c.in-None.is) (c.symbol_parts-world.ensures.predicate (ap (λ e. e.gives) (sym c.symbol_entry-entry.ensures) ∙ c.in-None.is)) c.holds.ensures.cell c.chosen.ensures
