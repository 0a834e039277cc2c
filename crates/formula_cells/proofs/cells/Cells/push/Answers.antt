use Rattle.std.proofs.Common.{◌++◌, length, sym, subst}
use Rattle.formula_cells.specs.Stored.{Stored, IsCell}
use Rattle.formula_cells.proofs.GrowingLemmas.{stored_parts, adds_cell}
use Rattle.formula_cells.proofs.cells.Cells.push.Goals as goal
use Rattle.formula_cells.proofs.cells.Cells.push.Goals.{After-push_cell}

before : After-push_cell → Stored
before c = record { cells = c.self.inside.cells.items; kids = c.self.inside.kids.items; names = c.self.inside.names.keys; roots = c.self.inside.roots }

pub invariant_of-self-2 : goal.invariant_of-self-2
unfolding before
invariant_of-self-2 c =
    let s = before c in
    let good = subst (λ (z : Stored). IsCell z.cells (z.kids ++ c.args.parts.now) z.names (length z.cells) c.args.cell) (sym c.self.view_is) c.requires in
    rw (c.push_cell.ensures.pushed, c.in_ok-reserve.ensures.items, c.in_ok-extend_from_slice.ensures.items) (stored_parts s c.args.cell c.self.invariant c.args.parts.now good)

pub returns-clause-added : goal.returns-clause-added
unfolding before
returns-clause-added c =
    rw (c.push_cell.ensures.at, c.push_cell.ensures.pushed, c.in_ok-reserve.ensures.items, c.in_ok-extend_from_slice.ensures.items, ← c.self.view_is) (adds_cell (before c) c.args.cell c.self.invariant c.args.parts.now)
