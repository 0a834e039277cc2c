use Rattle.std.proofs.Common.{◌≡◌}
use Rattle.std.specs.List.{list_any}
use Rattle.nxf_tree.specs.SignatureOf.{mentions_individual}
use Rattle.nxf_signatures.specs.steps.Tables.{uses_in}
use Rattle.nxf_signatures.proofs.signature.any_has_individual.Given as goal

abbrev pub invariant-loop-kind : goal.invariant-loop-kind
invariant-loop-kind l = list_any mentions_individual (uses_in l.symbols.entries) ≡ list_any mentions_individual (uses_in l.kind-iterator)
