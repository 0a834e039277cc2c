use Rattle.std.proofs.Common.{◌<◌, length, arith, ◌∙◌, length-set}
use Rattle.fin_struct.specs.Places.{place, InRange, row_under}
use Rattle.fin_struct.specs.Cells.{sizes_at, table_at}
use Rattle.fin_struct.proofs.PlacesLemmas.{place_below}
use Rattle.fin_struct.proofs.CellsLemmas.{Seen, seen, written, written_there, written_alone, written_shapes, length_in, bounded_set, start_below}
use Rattle.fin_struct.proofs.grid.Grid.set.Goals as goal
use Rattle.fin_struct.proofs.grid.Grid.set.Goals.{After-deref-2}

known : (c : After-deref-2) → Seen c.self.inside.shapes.items c.self.inside.cells.items c.args.self.now c.args.table
known c = seen c.self.inside.shapes.items c.self.inside.cells.items c.args.self.now c.args.table c.self.view_is c.requires.table_in

in_range : (c : After-deref-2) → InRange (sizes_at c.self.inside.shapes.items c.args.table) (row_under c.args.world c.args.args.now)
in_range c = rw (known c).is at c.requires.row_in

pub index_mut-requires : goal.index_mut-requires
index_mut-requires c =
    let d = (goal.at.index_mut-requires c).After-deref-2 in
    let at = rw c.deref.ensures.value at c.cell_place-at.ensures in
    omega (arith, at, place_below _ _ (in_range d), start_below c.self.inside.shapes.items c.args.table (known d).below, c.self.invariant.1, c.self.inside.cells.ok.0)

pub cell_place-at-requires-clause-table_in : goal.cell_place-at-requires-clause-table_in
cell_place-at-requires-clause-table_in c = rw c.deref.ensures.value (known c).below

pub cell_place-at-requires-clause-row_in : goal.cell_place-at-requires-clause-row_in
cell_place-at-requires-clause-row_in c = rw c.deref.ensures.value (in_range c)

pub invariant_of-self : goal.invariant_of-self
invariant_of-self c =
    let d = (goal.at.invariant_of-self c).After-deref-2 in
    let g = c.self.inside in
    let at = rw c.deref.ensures.value at c.cell_place-at.ensures in
    let s = known d in
    let small = rw s.is at c.requires.below in
    let b = bounded_set g.shapes.items g.cells.items c.args.table (place (sizes_at g.shapes.items c.args.table) (row_under c.args.world c.args.args.now)) c.args.value s.below (place_below _ _ (in_range d)) small c.self.invariant.3 in
    (c.self.invariant.0, length-set _ _ _ ∙ c.self.invariant.1, c.self.invariant.2, rw at b)

pub returns-clause-written : goal.returns-clause-written
returns-clause-written c =
    let d = (goal.at.returns-clause-written c).After-deref-2 in
    let g = c.self.inside in
    let at = rw c.deref.ensures.value at c.cell_place-at.ensures in
    rw at (written g.shapes.items g.cells.items c.args.self.now c.args.table (row_under c.args.world c.args.args.now) c.args.value c.self.view_is (known d) (place_below _ _ (in_range d)))

pub returns-clause-there : goal.returns-clause-there
returns-clause-there c =
    let d = (goal.at.returns-clause-there c).After-deref-2 in
    let g = c.self.inside in
    let s = known d in
    let below = place_below _ _ (in_range d) in
    let e = returns-clause-written c in
    let in_cells : place (table_at c.args.self.now c.args.table).sizes (row_under c.args.world c.args.args.now) < length (table_at c.args.self.now c.args.table).cells = rw s.is (omega (arith, length_in g.shapes.items g.cells.items c.args.table s.below c.self.invariant.1)) in
    rw e (written_there c.args.self.now c.args.table (row_under c.args.world c.args.args.now) c.args.value c.requires.table_in in_cells)

pub returns-clause-alone : goal.returns-clause-alone
returns-clause-alone c = λ t r in_r ne. rw (returns-clause-written c) (written_alone c.args.self.now c.args.table (row_under c.args.world c.args.args.now) c.args.value c.requires.table_in c.requires.row_in t r in_r ne)

pub returns-clause-shapes : goal.returns-clause-shapes
returns-clause-shapes c = λ t. rw (returns-clause-written c) (written_shapes c.args.self.now c.args.table (row_under c.args.world c.args.args.now) c.args.value t c.requires.table_in)
