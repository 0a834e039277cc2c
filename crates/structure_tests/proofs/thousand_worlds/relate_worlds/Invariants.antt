use Rattle.std.proofs.Common.{◌≡◌, ◌<◌}
use Rattle.nxf_tree.specs.declared.tree.Signature.{Signature}
use Rattle.fin_struct.specs.KripkeTables.{IsKripkeFor}
use Rattle.structure_tests.proofs.thousand_worlds.relate_worlds.Given as goal

abbrev pub invariant-loop-to : goal.invariant-loop-to
invariant-loop-to l = record {
  same : (sig : Signature) → IsKripkeFor sig l.fn.kripke → IsKripkeFor sig l.kripke;
  index : 0 < l.kripke.indexes;
  existence : l.kripke.existence ≡ l.fn.kripke.existence;
}

abbrev pub invariant-loop-from : goal.invariant-loop-from
invariant-loop-from l = record {
  same : (sig : Signature) → IsKripkeFor sig l.fn.kripke → IsKripkeFor sig l.kripke;
  index : 0 < l.kripke.indexes;
  existence : l.kripke.existence ≡ l.fn.kripke.existence;
}
