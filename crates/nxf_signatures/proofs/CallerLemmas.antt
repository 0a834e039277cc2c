-- What other crates cite of the lemmas of this one.
pub use Rattle.nxf_signatures.proofs.Lookups.{sort_texts-append}
pub use Rattle.nxf_signatures.proofs.Noted.{symbols_noted, texts_noted, type_first}
pub use Rattle.nxf_signatures.proofs.TablesLaw.{sorts_are}
pub use Rattle.nxf_signatures.proofs.Walks.{of_And, of_Or, row_length_is}
