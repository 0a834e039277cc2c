use Rattle.std.proofs.Common.{◌≡◌, ◌++◌, take}
use Rattle.nxf_tree.specs.ClassicalSignature.{existence_entries}
use Rattle.classical_signatures.proofs.classical_signature.add_existences.Given as goal

abbrev pub invariant-loop-place : goal.invariant-loop-place
invariant-loop-place l = l.tables ≡ l.initial.tables ++ existence_entries 0 (take l.place l.sort-items)
