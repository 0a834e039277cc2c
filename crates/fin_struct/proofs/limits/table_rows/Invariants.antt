use Rattle.std.proofs.Common.{◌≡◌, ◌*◌, ◌≤◌, map, min, drop}
use Rattle.nxf_tree.specs.Rows.{size_at}
use Rattle.fin_struct.specs.Places.{rows_count}
use Rattle.fin_struct.proofs.limits.table_rows.Given as goal

-- the count so far times the rows of the sorts to come
abbrev pub invariant-loop-sort : goal.invariant-loop-sort
invariant-loop-sort l = record {
  so_far : min (l.count * rows_count (drop l.sort-index (map (size_at l.sizes) l.sorts))) 18446744073709551615 ≡ min (rows_count (map (size_at l.sizes) l.sorts)) 18446744073709551615;
  fits : l.count ≤ 18446744073709551615;
}
