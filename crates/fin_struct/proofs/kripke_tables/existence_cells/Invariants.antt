use Rattle.std.proofs.Common.{◌≡◌, ◌+◌, ◌≤◌, min, drop}
use Rattle.nxf_tree.specs.Structures.{existence_shapes}
use Rattle.fin_struct.specs.Limits.{cells_in}
use Rattle.fin_struct.proofs.kripke_tables.existence_cells.Given as goal

-- the total so far and the cells of the sorts to come
abbrev pub invariant-loop-place : goal.invariant-loop-place
invariant-loop-place l = record {
  so_far : min (l.total + cells_in (existence_shapes l.worlds l.sizes l.place (drop l.place l.sorts))) 18446744073709551615 ≡ min (cells_in (existence_shapes l.worlds l.sizes 0 l.sorts)) 18446744073709551615;
  fits : l.total ≤ 18446744073709551615;
}
