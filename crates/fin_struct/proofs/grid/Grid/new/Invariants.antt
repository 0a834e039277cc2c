use Rattle.std.proofs.Common.{◌≡◌, ◌+◌, ◌++◌, drop}
use Rattle.fin_struct.specs.Cells.{total_rows, starts_of}
use Rattle.fin_struct.proofs.grid.Grid.new.Given as goal

-- the starts so far, before those of the shapes to come
abbrev pub invariant-loop-shape : goal.invariant-loop-shape
invariant-loop-shape l = record {
  starts : l.starts.items ++ starts_of l.at (drop l.shape-index l.shape-items) ≡ starts_of 0 l.shape-items;
  rows : l.at + total_rows (drop l.shape-index l.shape-items) ≡ total_rows l.shape-items;
}
