use Rattle.std.proofs.Common.{◌<◌, length}
use Rattle.std.specs.Option.{IsSome}
use Rattle.fin_struct.specs.KripkeTables.{IsKripkeFor, existence_number}
use Rattle.structure_tests.proofs.values.fault_of.Given as goal

abbrev pub invariant-loop-world : goal.invariant-loop-world
invariant-loop-world l = record {
  over : IsKripkeFor l.over l.kripke;
  sort : 0 < length l.kripke.existence;
  varying : IsSome (existence_number l.kripke 0);
}
