use Rattle.std.proofs.Common.{◌≡◌, ◌++◌, take}
use Rattle.nxf_tree.specs.ClassicalSignature.{relation_entries}
use Rattle.classical_signatures.proofs.classical_signature.add_relations.Given as goal

abbrev pub invariant-loop-index : goal.invariant-loop-index
invariant-loop-index l = l.tables ≡ l.initial.tables ++ relation_entries (take l.index-index l.index-items)
