-- What other crates cite of the lemmas of this one.
pub use Rattle.formula_cells.proofs.GrowingLemmas.{grows_twice, node_kept, term_at_kept, term_kept}
pub use Rattle.formula_cells.proofs.PuttingLemmas.{puts_more, puts_push, puts_term_here, puts_term_more, puts_term_push}
pub use Rattle.formula_cells.proofs.ReadingLemmas.{argument_within, good_read, node_read, part_within, term_read}
