use Rattle.std.proofs.Common.{◌≡◌, ◌+◌, ◌<◌, ℕ, length, arith, ◌∙◌}
use Rattle.std.proofs.lemmas.List.{get_or_read}
use Rattle.fin_struct.specs.Places.{place, InRange, row_under}
use Rattle.fin_struct.specs.Cells.{sizes_at, start_of}
use Rattle.fin_struct.proofs.PlacesLemmas.{place_below}
use Rattle.fin_struct.proofs.CellsLemmas.{Seen, seen, cell_in, bounded_at, start_below}
use Rattle.fin_struct.proofs.grid.Grid.get.Goals as goal
use Rattle.fin_struct.proofs.grid.Grid.get.Goals.{After-deref-2}

known : (c : After-deref-2) → Seen c.self.inside.shapes.items c.self.inside.cells.items c.args.self.now c.args.table
known c = seen c.self.inside.shapes.items c.self.inside.cells.items c.args.self.now c.args.table c.self.view_is c.requires.table_in

in_range : (c : After-deref-2) → InRange (sizes_at c.self.inside.shapes.items c.args.table) (row_under c.args.world c.args.args.now)
in_range c = rw (known c).is at c.requires.row_in

in_cells : (c : After-deref-2) {n : ℕ} → n ≡ start_of c.self.inside.shapes.items c.args.table + place (sizes_at c.self.inside.shapes.items c.args.table) (row_under c.args.world c.args.args.now) → n < length c.self.inside.cells.items
in_cells c e = omega (arith, e, place_below _ _ (in_range c), start_below c.self.inside.shapes.items c.args.table (known c).below, c.self.invariant.1)

pub cell_place-requires-clause-table_in : goal.cell_place-requires-clause-table_in
cell_place-requires-clause-table_in c = rw c.deref.ensures.value (known c).below

pub cell_place-requires-clause-row_in : goal.cell_place-requires-clause-row_in
cell_place-requires-clause-row_in c = rw c.deref.ensures.value (in_range c)

pub returns-clause-value : goal.returns-clause-value
returns-clause-value c =
    let d = (goal.at.returns-clause-value c).After-deref-2 in
    let g = c.self.inside in
    let at = rw c.deref.ensures.value at c.cell_place.ensures in
    let read = get_or_read g.cells.items c.cell_place.result _ (in_cells d at) c.index.ensures 0 in
    let s = known d in
    read ∙ (rw (at, s.is) (cell_in g.shapes.items g.cells.items c.args.table (row_under c.args.world c.args.args.now) (place_below _ _ (in_range d))))

pub returns-clause-below : goal.returns-clause-below
returns-clause-below c =
    let d = (goal.at.returns-clause-below c).After-deref-2 in
    let g = c.self.inside in
    let at = rw c.deref.ensures.value at c.cell_place.ensures in
    let read = get_or_read g.cells.items c.cell_place.result _ (in_cells d at) c.index.ensures 0 in
    let s = known d in
    let b = bounded_at g.shapes.items g.cells.items c.args.table (place (sizes_at g.shapes.items c.args.table) (row_under c.args.world c.args.args.now)) s.below c.self.invariant.3 (place_below _ _ (in_range d)) in
    rw (read, at, s.is) b

pub index-requires : goal.index-requires
index-requires c =
    let d = (goal.at.index-requires c).After-deref-2 in
    let at = rw c.deref.ensures.value at c.cell_place.ensures in
    omega (arith, in_cells d at, c.self.inside.cells.ok.0)
