-- What other crates cite of the lemmas of this one.
pub use Rattle.condition_axioms.proofs.AddingTerms.{listed-at}
