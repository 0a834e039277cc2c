use Rattle.std.proofs.Common.{◌≡◌, ◌∙◌, sym}
use Rattle.fin_struct.specs.Cells.{SameShapes}
use Rattle.fin_struct.proofs.CellsLemmas.{same_tables_of, same_starts_of, same_total, same_bounded}
use Rattle.fin_struct.proofs.grid.Grid.copy.Goals as goal
use Rattle.fin_struct.proofs.grid.Grid.copy.Goals.{In_ok-cells}

starts : (c : In_ok-cells) → c.in_ok-starts.starts.items ≡ c.self.inside.starts.items
starts c = c.in_ok-starts.ensures ∙ c.deref-2.ensures.value

cells : (c : In_ok-cells) → c.in_ok-cells.cells.items ≡ c.self.inside.cells.items
cells c = c.in_ok-cells.ensures ∙ c.deref-3.ensures.value

shapes : (c : In_ok-cells) → SameShapes c.in_ok-shapes.shapes.items c.self.inside.shapes.items
shapes c = rw c.deref.ensures.value at c.in_ok-shapes.ensures

pub invariant_of-result : goal.invariant_of-result
invariant_of-result c =
    let s = shapes c in
    let total = same_total _ _ s in
    rw (starts c, cells c) (
      c.self.invariant.0 ∙ sym (same_starts_of _ _ 0 s),
      c.self.invariant.1 ∙ sym total,
      rw total c.self.invariant.2,
      same_bounded _ _ _ s c.self.invariant.3,
    )

pub returns : goal.returns
returns c = rw (cells c) (same_tables_of _ _ _ (shapes c) ∙ c.self.view_is)
