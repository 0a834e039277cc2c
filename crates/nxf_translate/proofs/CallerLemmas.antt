-- What other crates cite of the lemmas of this one.
pub use Rattle.nxf_translate.proofs.TermCases.{named-at}
