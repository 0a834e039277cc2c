use Rattle.std.proofs.Common.{take}
use Rattle.fin_struct.specs.Cells.{SameShapes}
use Rattle.fin_struct.proofs.grid.copy_shapes.Given as goal

-- the shapes so far are copied
abbrev pub invariant-loop-shape : goal.invariant-loop-shape
invariant-loop-shape l = SameShapes l.copies.items (take l.shape-index l.shapes)
