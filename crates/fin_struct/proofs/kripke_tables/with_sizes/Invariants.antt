use Rattle.std.proofs.Common.{◌≡◌, ◌++◌, map, drop}
use Rattle.nxf_tree.specs.Rows.{size_at}
use Rattle.fin_struct.proofs.kripke_tables.with_sizes.Given as goal

-- the sizes so far, before those of the sorts to come
abbrev pub invariant-loop-sort : goal.invariant-loop-sort
invariant-loop-sort l = l.front.items ++ map (size_at l.sizes) (drop l.sort-index l.sorts) ≡ l.initial.front.items ++ map (size_at l.sizes) l.sorts
