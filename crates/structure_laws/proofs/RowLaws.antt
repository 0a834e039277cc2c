-- The rows of a table in their order, and its cells.
use Rattle.std.proofs.Common.{◌≡◌, ℕ, ◌<◌, List, [], get_or, Some, sym, ◌∙◌, ap, subst, arith}
use Rattle.std.specs.Prelude.{slice_get}
use Rattle.std.proofs.lemmas.Option.{slice_get_within, get_or_from_slice_get}
use Rattle.nxf_tree.specs.Rows.{all_rows}
use Rattle.fin_struct.specs.Places.{rows_count, InRange, place}
use Rattle.fin_struct.proofs.CallerLemmas.{place_below, row_at, row_at-in_range, place-row_at, length-all_rows, all_rows-at}
use Rattle.structure_laws.specs.RowLaws.{RowsStandLaw, CellsBelowLaw}

-- the row at a number is the one with that place
row-is : (sizes : List ℕ) (k : ℕ) (row : List ℕ) → k < rows_count sizes → slice_get (all_rows sizes) k ≡ Some row → row_at sizes k ≡ row
row-is sizes k row below h =
    sym (all_rows-at sizes (row_at sizes k) (row_at-in_range sizes k below))
    ∙ ap (λ (j : ℕ). get_or (all_rows sizes) j []) (place-row_at sizes k below)
    ∙ get_or_from_slice_get (all_rows sizes) k row [] h

in-count : (sizes : List ℕ) (k : ℕ) (row : List ℕ) → slice_get (all_rows sizes) k ≡ Some row → k < rows_count sizes
in-count sizes k row h = omega (arith, slice_get_within (all_rows sizes) k row h, length-all_rows sizes)

pub rows-stand : RowsStandLaw
rows-stand sizes = record {
  count = length-all_rows sizes;
  in_range = λ k row h.
      let below = in-count sizes k row h in
      subst (InRange sizes) (row-is sizes k row below h) (row_at-in_range sizes k below);
  places = λ k row h.
      let below = in-count sizes k row h in
      sym (ap (place sizes) (row-is sizes k row below h)) ∙ place-row_at sizes k below;
}

pub cells-below : CellsBelowLaw
cells-below table row h in_row = h.below _ (omega (arith, place_below table.sizes row in_row, h.count))
