use Rattle.std.proofs.Common.{◌≡◌, ◌++◌, map, drop}
use Rattle.nxf_tree.specs.Structures as structures
use Rattle.fin_struct.specs.Cells.{grid_shape}
use Rattle.fin_struct.proofs.shapes.table_shapes.Given as goal

-- the shapes so far, before those of the tables to come
abbrev pub invariant-loop-table : goal.invariant-loop-table
invariant-loop-table l = map grid_shape l.shapes.items ++ structures.table_shapes l.sizes (drop l.table-index l.tables) ≡ structures.table_shapes l.sizes l.tables
