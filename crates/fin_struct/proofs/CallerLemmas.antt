-- What other crates cite of the lemmas of this one.
pub use Rattle.fin_struct.proofs.BlankKripke.{classical-shapes}
pub use Rattle.fin_struct.proofs.CellsLemmas.{written_alone}
pub use Rattle.fin_struct.proofs.CorrespondingLemmas.{lifts, lowered-agrees, lowered-for, lowered-is, whole-lists}
pub use Rattle.fin_struct.proofs.KripkeLemmas.{existence_in, holds-listed, numbers_end, numbers_in, relation_in, small_bit, symbol_in, value-listed, written_kripke}
pub use Rattle.fin_struct.proofs.PlacesLemmas.{InRange-length, count_step, place_below}
pub use Rattle.fin_struct.proofs.RowListsLemmas.{all_rows-at, length-all_rows, lists-determine, lists-fit, lists-tell, place-row_at, row_at, row_at-in_range, true_row-cell}
pub use Rattle.fin_struct.proofs.StructureLemmas.{are-tables, filled_tail, shapes_blank, structure-law, structure_view, written_filled, written_shapes_of}
pub use Rattle.fin_struct.proofs.WalkLemmas.{walk-next}
