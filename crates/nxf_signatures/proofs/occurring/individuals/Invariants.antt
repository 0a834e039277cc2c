use Rattle.std.proofs.Common.{◌≡◌}
use Rattle.nxf_tree.specs.Occurrences.{individuals}
use Rattle.nxf_signatures.proofs.occurring.individuals.Given as goal

abbrev pub invariant-loop : goal.invariant-loop
invariant-loop l = l.sorts ≡ individuals l.counter
