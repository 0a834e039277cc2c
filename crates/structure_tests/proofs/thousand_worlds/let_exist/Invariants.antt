use Rattle.std.proofs.Common.{◌<◌, length, IsSome}
use Rattle.nxf_tree.specs.declared.tree.Signature.{Signature}
use Rattle.fin_struct.specs.KripkeTables.{IsKripkeFor, existence_number}
use Rattle.structure_tests.proofs.thousand_worlds.let_exist.Given as goal

abbrev pub invariant-loop-element : goal.invariant-loop-element
invariant-loop-element l = record {
  same : (sig : Signature) → IsKripkeFor sig l.fn.kripke → IsKripkeFor sig l.kripke;
  sort : 0 < length l.kripke.existence;
  varying : IsSome (existence_number l.kripke 0);
}

abbrev pub invariant-loop-world : goal.invariant-loop-world
invariant-loop-world l = record {
  same : (sig : Signature) → IsKripkeFor sig l.fn.kripke → IsKripkeFor sig l.kripke;
  sort : 0 < length l.kripke.existence;
  varying : IsSome (existence_number l.kripke 0);
}
