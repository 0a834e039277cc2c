use Rattle.std.proofs.Common.{◌≡◌, ◌++◌, drop}
use Rattle.structure_tests.proofs.structures.numbers.Given as goal

-- the numbers so far, before those to come
abbrev pub invariant-loop-item : goal.invariant-loop-item
invariant-loop-item l = l.list ++ drop l.item-index l.items ≡ l.items
