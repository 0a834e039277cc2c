use Rattle.std.proofs.Common.{◌<◌}
use Rattle.fin_struct.specs.KripkeTables.{IsKripkeFor}
use Rattle.structure_tests.proofs.relations.with_pairs.Given as goal

abbrev pub invariant-loop-from : goal.invariant-loop-from
invariant-loop-from l = record { over : IsKripkeFor l.over l.kripke; index : 0 < l.kripke.indexes }
