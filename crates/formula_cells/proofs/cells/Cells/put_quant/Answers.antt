use Rattle.formula_cells.specs.Stored.{Stored}
use Rattle.formula_cells.proofs.GrowingLemmas.{adds_quant}
use Rattle.formula_cells.proofs.cells.Cells.put_quant.Goals as goal

pub returns-clause-put : goal.returns-clause-put
returns-clause-put c =
    let s : Stored = record { cells = c.self.inside.cells.items; kids = c.self.inside.kids.items; names = c.self.inside.names.keys; roots = c.self.inside.roots } in
    let names = c.number_in.new.names.keys in
    let grows = c.in_ok-number.ensures.grows in
    rw (c.push_cell.ensures.at, c.push_cell.ensures.pushed, c.in_ok-reserve.ensures.items, ← c.self.view_is)
    (adds_quant s c.self.invariant names grows.0 grows.1 c.args.quantifier c.args.sort c.in_ok-number.number c.args.body c.args.name.now c.in_ok-number.ensures.number)
