use Rattle.std.proofs.Common.{◌≡◌, ◌++◌, map, drop}
use Rattle.nxf_tree.specs.Rows.{size_at}
use Rattle.fin_struct.proofs.shapes.sizes_of.Given as goal

-- the sizes so far, before those of the sorts to come
abbrev pub invariant-loop-sort : goal.invariant-loop-sort
invariant-loop-sort l = l.found.items ++ map (size_at l.sizes) (drop l.sort-index l.sorts) ≡ map (size_at l.sizes) l.sorts
