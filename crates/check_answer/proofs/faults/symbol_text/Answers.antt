use Rattle.std.proofs.Common.{◌≡◌, ℕ, List, IfOk}
use Rattle.answer_definitions.specs.FaultNames.{symbol_words}
use Rattle.check_answer.proofs.Names.{symbol_words-place, no_symbol_words, said_of_entry, said_of_none}
use Rattle.check_answer.proofs.faults.symbol_text.Goals as goal

pub returns-in-Some : goal.returns-in-Some
returns-in-Some c =
    let given = c.as_slice.result.now in
    said_of_entry symbol_words c.args.over.now.symbols given c.args.symbol c.as_slice.ensures (λ (name : List ℕ). IfOk c.copy.result (λ text. text ≡ name))
    c.in-Some.entry.now _ (symbol_words-place given c.args.symbol c.in-Some.entry.now) c.in-Some.ensures.lookup.3.0 c.in-Some.ensures.lookup.1 c.copy.ensures

pub returns-in-None : goal.returns-in-None
returns-in-None c =
    let given = c.as_slice.result.now in
    said_of_none symbol_words c.args.over.now.symbols given c.args.symbol c.as_slice.ensures (λ (name : List ℕ). IfOk c.from_bytes.result (λ text. text ≡ name))
    _ (no_symbol_words given c.args.symbol) c.in-None.ensures.lookup.3 c.from_bytes.ensures
