-- What other crates cite of the lemmas of this one.
pub use Rattle.text_writer.proofs.Numerals.{numeral_decimal}
pub use Rattle.text_writer.proofs.TextRows.{formula_text_of_And, formula_text_of_Or, term_text_of_App}
