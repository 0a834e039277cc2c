use Rattle.std.proofs.Common.{◌≡◌, ◌++◌, map, drop}
use Rattle.nxf_tree.specs.Rows.{size_at}
use Rattle.kripke_text.proofs.columns.add_sizes.Given as goal

-- the sizes so far, before those of the sorts to come
abbrev pub invariant-loop-sort : goal.invariant-loop-sort
invariant-loop-sort l = l.sizes ++ map (size_at l.kripke.sizes) (drop l.sort-index l.sorts) ≡ l.initial.sizes ++ map (size_at l.kripke.sizes) l.sorts
