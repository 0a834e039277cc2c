-- What other crates cite of the lemmas of this one.
pub use Rattle.interp_reader.proofs.StructureGiven.{structure_is}
