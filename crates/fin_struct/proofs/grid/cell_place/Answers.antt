use Rattle.std.proofs.Common.{◌≡◌, length, arith, ◌∙◌, ap}
use Rattle.fin_struct.specs.Cells.{sizes_at}
use Rattle.fin_struct.proofs.PlacesLemmas.{place_below}
use Rattle.fin_struct.proofs.CellsLemmas.{length-starts_of, sizes_at-read, start_read, start_below}
use Rattle.fin_struct.proofs.grid.cell_place.Goals as goal
use Rattle.fin_struct.proofs.grid.cell_place.Goals.{After-deref}

pub bounds-starts-table : goal.bounds-starts-table
bounds-starts-table c = omega (arith, ap length c.requires.starts_kept, length-starts_of 0 c.args.shapes.now)

-- the sizes that were read
sizes : (c : After-deref) → c.deref.result.now ≡ sizes_at c.args.shapes.now c.args.table
sizes c = c.deref.ensures.value ∙ sizes_at-read c.args.shapes.now c.args.table _ c.requires.table_in

pub place_under-requires-clause-in_range : goal.place_under-requires-clause-in_range
place_under-requires-clause-in_range c = rw (sizes c) c.requires.row_in

pub place_under-requires-clause-small : goal.place_under-requires-clause-small
place_under-requires-clause-small c = rw (sizes c) (omega (arith, start_below c.args.shapes.now c.args.table c.requires.table_in))

pub overflow_add-result : goal.overflow_add-result
overflow_add-result c =
    let e = sizes (goal.at.overflow_add-result c).After-deref in
    let value = rw e at c.place_under.ensures in
    omega (arith, value, place_below _ _ c.requires.row_in, start_below c.args.shapes.now c.args.table c.requires.table_in, start_read c.args.shapes.now c.args.starts.now c.args.table c.requires.table_in c.requires.starts_kept)

pub returns : goal.returns
returns c =
    let e = sizes (goal.at.returns c).After-deref in
    let value = rw e at c.place_under.ensures in
    omega (arith, value, start_read c.args.shapes.now c.args.starts.now c.args.table c.requires.table_in c.requires.starts_kept)
