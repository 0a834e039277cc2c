use Rattle.std.proofs.Common.{◌≡◌, ◌<◌, length, sym, subst}
use Rattle.formula_cells.specs.Expressions.{expression}
use Rattle.formula_cells.specs.Stored.{Stored, expressions_of, expression_at}
use Rattle.formula_cells.proofs.ReadingLemmas.{stands, read_at}
use Rattle.formula_cells.proofs.cells.Cells.cell.Goals as goal

pub returns-clause-stands : goal.returns-clause-stands
returns-clause-stands c =
    let s : Stored = record { cells = c.self.inside.cells.items; kids = c.self.inside.kids.items; names = c.self.inside.names.keys; roots = c.self.inside.roots } in
    let is : s ≡ c.args.self.now = c.self.view_is in
    let within : c.args.at < length s.cells = subst (λ (z : Stored). c.args.at < length z.cells) (sym is) c.requires in
    subst (λ (z : Stored). expression_at z c.args.at ≡ expression z.kids z.names (expressions_of z) c.index.result.now) is
    ((stands s c.self.invariant c.args.at within c.index.result.now (read_at s.cells c.args.at c.index.result.now within c.index.ensures)).1)
