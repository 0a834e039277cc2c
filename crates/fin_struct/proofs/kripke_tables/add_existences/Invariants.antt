use Rattle.std.proofs.Common.{◌≡◌, ◌++◌, map, drop}
use Rattle.nxf_tree.specs.Structures.{existence_shapes}
use Rattle.fin_struct.specs.Cells.{grid_shape}
use Rattle.fin_struct.proofs.kripke_tables.add_existences.Given as goal

-- the shapes so far, before those of the sorts to come
abbrev pub invariant-loop-place : goal.invariant-loop-place
invariant-loop-place l = map grid_shape l.shapes.items ++ existence_shapes l.worlds l.sizes l.place (drop l.place l.sorts) ≡ map grid_shape l.initial.shapes.items ++ existence_shapes l.worlds l.sizes 0 l.sorts
