-- What other crates cite of the lemmas of this one.
pub use Rattle.nxf_include.proofs.Callers.{Keeps-after, Keeps-files, Keeps-same, fault_after, misses_after}
