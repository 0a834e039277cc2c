-- What other crates cite of the lemmas of this one.
pub use Rattle.numbered_definitions.proofs.Options.{joined, mapped}
