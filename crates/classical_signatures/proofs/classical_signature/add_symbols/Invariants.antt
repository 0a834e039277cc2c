use Rattle.std.proofs.Common.{◌≡◌, ◌++◌, take}
use Rattle.nxf_tree.specs.ClassicalSignature.{symbol_entries}
use Rattle.classical_signatures.proofs.classical_signature.add_symbols.Given as goal

abbrev pub invariant-loop-symbol : goal.invariant-loop-symbol
invariant-loop-symbol l = l.tables ≡ l.initial.tables ++ symbol_entries (take l.symbol-index l.symbol-items)
