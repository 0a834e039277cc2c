use Rattle.std.proofs.Common.{◌≡◌, ◌+◌, ◌≤◌, min, drop}
use Rattle.nxf_tree.specs.Structures.{table_shapes}
use Rattle.fin_struct.specs.Limits.{cells_in, cells_of}
use Rattle.fin_struct.proofs.limits.cells.Given as goal

-- the total so far and the cells of the tables to come
abbrev pub invariant-loop-table : goal.invariant-loop-table
invariant-loop-table l = record {
  so_far : min (l.total + cells_in (table_shapes l.sizes (drop l.table-index l.over.tables))) 18446744073709551615 ≡ cells_of l.over l.sizes;
  fits : l.total ≤ 18446744073709551615;
}
