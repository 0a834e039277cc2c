use Rattle.std.proofs.Common.{◌≡◌, ◌++◌, map, drop}
use Rattle.nxf_tree.specs.Structures.{relation_shapes}
use Rattle.fin_struct.specs.Cells.{grid_shape}
use Rattle.fin_struct.proofs.kripke_tables.add_relations.Given as goal

-- the shapes so far, before those of the indexes to come
abbrev pub invariant-loop-index : goal.invariant-loop-index
invariant-loop-index l = map grid_shape l.shapes.items ++ relation_shapes l.worlds (drop l._index-index l.indexes) ≡ map grid_shape l.initial.shapes.items ++ relation_shapes l.worlds l.indexes
