use Rattle.std.proofs.Common.{◌≡◌, sym, ap, ◌∙◌, arith}
use Rattle.fin_struct.specs.declared.grid.GridShape.{GridShape}
use Rattle.fin_struct.specs.Cells.{CellTable, sizes_at, table_at}
use Rattle.fin_struct.proofs.CellsLemmas.{Seen, seen, sizes_at-read, start_below}
use Rattle.fin_struct.proofs.grid.Grid.rows.Goals as goal
use Rattle.fin_struct.proofs.grid.Grid.rows.Goals.{After-deref}

pub index-requires : goal.index-requires
index-requires c =
    let g = c.self.inside in
    omega (arith, (seen g.shapes.items g.cells.items c.args.self.now c.args.table c.self.view_is c.requires).below, g.shapes.ok.0)

known : (c : After-deref) → Seen c.self.inside.shapes.items c.self.inside.cells.items c.args.self.now c.args.table
known c = seen c.self.inside.shapes.items c.self.inside.cells.items c.args.self.now c.args.table c.self.view_is c.requires

-- the sizes that were read
sizes : (c : After-deref) → c.deref.result.now ≡ sizes_at c.self.inside.shapes.items c.args.table
sizes c = c.deref.ensures.value ∙ ap (λ (s : GridShape). s.sizes.items) c.index.ensures ∙ sizes_at-read c.self.inside.shapes.items c.args.table _ (known c).below

pub new-requires : goal.new-requires
new-requires c = rw (sizes c) (omega (arith, start_below c.self.inside.shapes.items c.args.table (known c).below, c.self.invariant.2))

pub returns : goal.returns
returns c =
    let d = (goal.at.returns c).After-deref in
    let e : c.deref.result.now ≡ (table_at c.args.self.now c.args.table).sizes = sizes d ∙ ap (λ (t : CellTable). t.sizes) (sym (known d).is) in
    rw e at c.new.ensures
