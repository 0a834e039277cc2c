-- What other crates cite of the lemmas of this one.
pub use Rattle.classical_syntax.proofs.Places.{in_range-below, is_constant-place, is_flexible-place, sort_at-place}
