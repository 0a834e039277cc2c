use Rattle.std.proofs.Common.{◌∷◌, ap, sym, ◌∙◌}
use Rattle.nxf_tree.specs.Rows.{size_at}
use Rattle.fin_struct.specs.KripkeTables.{symbol_number, symbol_row, symbol_table}
use Rattle.kripke_text.proofs.SubjectReads.{function_values, predicate_values, some_values}
use Rattle.kripke_text.proofs.Writes.{truth_written, value_written}
use Rattle.kripke_text.proofs.read_table.write_symbol.Goals as goal

pub set_value-requires-clause-function : goal.set_value-requires-clause-function
set_value-requires-clause-function c = some_values _ _ (function_values c.args.over.now c.args.kripke.now c.args.symbol c.in-Some.field-0 c.symbol_entry-entry.result.now c.requires.within c.requires.over c.requires.symbol_in c.symbol_entry-entry.ensures c.in-Some.is)

pub returns-in-Some : goal.returns-in-Some
returns-in-Some c =
    value_written c.args.kripke.now c.set_value.new.self (symbol_number c.args.kripke.now c.args.symbol) (symbol_table c.args.kripke.now c.args.symbol).values (symbol_row c.args.kripke.now c.args.symbol c.symbol_parts-world.result.0 c.symbol_parts-world.result.1.now) c.args.row.now (size_at c.args.kripke.now.sizes c.in-Some.field-0) c.args.number
    (function_values c.args.over.now c.args.kripke.now c.args.symbol c.in-Some.field-0 c.symbol_entry-entry.result.now c.requires.within c.requires.over c.requires.symbol_in c.symbol_entry-entry.ensures c.in-Some.is) c.symbol_parts-world.ensures.row c.set_value.ensures.written

pub set_holds-requires-clause-predicate : goal.set_holds-requires-clause-predicate
set_holds-requires-clause-predicate c = predicate_values c.args.over.now c.args.kripke.now c.args.symbol c.symbol_entry-entry.result.now c.requires.within c.requires.over c.requires.symbol_in c.symbol_entry-entry.ensures c.in-None.is

pub returns-in-None : goal.returns-in-None
returns-in-None c =
    truth_written c.args.kripke.now c.set_holds.new.self (symbol_number c.args.kripke.now c.args.symbol) (symbol_table c.args.kripke.now c.args.symbol).values (c.symbol_parts-world.result.0 ∷ c.symbol_parts-world.result.1.now) c.args.row.now c.args.number
    (predicate_values c.args.over.now c.args.kripke.now c.args.symbol c.symbol_entry-entry.result.now c.requires.within c.requires.over c.requires.symbol_in c.symbol_entry-entry.ensures c.in-None.is) (c.symbol_parts-world.ensures.predicate (ap (λ e. e.gives) (sym c.symbol_entry-entry.ensures) ∙ c.in-None.is)) c.set_holds.ensures.written
