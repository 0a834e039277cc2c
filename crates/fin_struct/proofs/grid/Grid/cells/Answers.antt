use Rattle.std.proofs.Common.{◌≡◌, length, take, drop, sym, ap, ◌∙◌, arith}
use Rattle.std.proofs.lemmas.List.{get_or_read}
use Rattle.fin_struct.specs.declared.grid.GridShape.{GridShape}
use Rattle.fin_struct.specs.Places.{rows_count}
use Rattle.fin_struct.specs.Cells.{CellTable, sizes_at, start_of}
use Rattle.fin_struct.proofs.CellsLemmas.{Seen, seen, length-starts_of, sizes_at-read, start_read, start_below}
use Rattle.fin_struct.proofs.grid.Grid.cells.Goals as goal
use Rattle.fin_struct.proofs.grid.Grid.cells.Goals.{After-deref-2}

pub index-first-requires : goal.index-first-requires
index-first-requires c =
    let g = c.self.inside in
    omega (arith, (seen g.shapes.items g.cells.items c.args.self.now c.args.table c.self.view_is c.requires).below, ap length c.self.invariant.0, length-starts_of 0 g.shapes.items, g.starts.ok.0)

pub index-requires : goal.index-requires
index-requires c =
    let g = c.self.inside in
    omega (arith, (seen g.shapes.items g.cells.items c.args.self.now c.args.table c.self.view_is c.requires).below, g.shapes.ok.0)

known : (c : After-deref-2) → Seen c.self.inside.shapes.items c.self.inside.cells.items c.args.self.now c.args.table
known c = seen c.self.inside.shapes.items c.self.inside.cells.items c.args.self.now c.args.table c.self.view_is c.requires

first : (c : After-deref-2) → c.index-first.result.now ≡ start_of c.self.inside.shapes.items c.args.table
first c =
    let g = c.self.inside in
    get_or_read g.starts.items c.args.table _ (omega (arith, (known c).below, ap length c.self.invariant.0, length-starts_of 0 g.shapes.items)) c.index-first.ensures 0
    ∙ start_read g.shapes.items g.starts.items c.args.table (known c).below c.self.invariant.0

count : (c : After-deref-2) → c.count_rows-count.result ≡ rows_count (sizes_at c.self.inside.shapes.items c.args.table)
count c =
    let shapes = c.self.inside.shapes.items in
    let sizes : c.deref.result.now ≡ sizes_at shapes c.args.table = c.deref.ensures.value ∙ ap (λ (s : GridShape). s.sizes.items) c.index.ensures ∙ sizes_at-read shapes c.args.table _ (known c).below in
    let capped = rw sizes at c.count_rows-count.ensures in
    omega (arith, capped, start_below shapes c.args.table (known c).below, c.self.invariant.2)

pub cells_from-requires : goal.cells_from-requires
cells_from-requires c =
    rw c.deref-2.ensures.value (omega (arith, first c, count c, start_below c.self.inside.shapes.items c.args.table (known c).below, c.self.invariant.1))

pub returns : goal.returns
returns c =
    let d = (goal.at.returns c).After-deref-2 in
    let n = count d in
    let at = first d in
    let cells = c.deref-2.ensures.value in
    c.cells_from.ensures ∙ (λ i. take (n i) (drop (at i) (cells i))) ∙ ap (λ (t : CellTable). t.cells) (sym (known d).is)
