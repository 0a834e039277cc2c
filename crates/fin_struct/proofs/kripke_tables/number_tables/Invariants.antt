use Rattle.std.proofs.Common.{◌≡◌, ◌++◌, ◌+◌, ◌≤◌, drop, length}
use Rattle.nxf_tree.specs.Signature.{existence_sorts}
use Rattle.fin_struct.specs.KripkeTables.{numbers_from}
use Rattle.fin_struct.proofs.kripke_tables.number_tables.Given as goal

-- the numbers so far, before those of the sorts to come
abbrev pub invariant-loop-sort : goal.invariant-loop-sort
invariant-loop-sort l = record {
  numbers : l.existence.items ++ numbers_from l.next (drop l.sort-index l.sorts) ≡ numbers_from l.first l.sorts;
  count : l.next + length (existence_sorts (drop l.sort-index l.sorts)) ≡ l.first + length (existence_sorts l.sorts);
  few : l.next ≤ l.first + l.sort-index;
}
