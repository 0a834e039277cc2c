-- What other crates cite of the lemmas of this one.
pub use Rattle.interpretation_parts.proofs.AfterLemmas.{on_ok}
pub use Rattle.interpretation_parts.proofs.BelowLemmas.{AllBelow, IsContextOf, found_below, given_below, listings_counted}
pub use Rattle.interpretation_parts.proofs.ItemFaults.{fault_of_items}
pub use Rattle.interpretation_parts.proofs.ItemLemmas.{map-append}
pub use Rattle.interpretation_parts.proofs.RowLemmas.{map_length}
pub use Rattle.interpretation_parts.proofs.TableLemmas.{same_text-sym, same_text-true}
