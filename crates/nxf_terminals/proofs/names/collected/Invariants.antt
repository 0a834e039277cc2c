use Rattle.std.proofs.Common.{◌≡◌, ◌++◌, length}
use Rattle.nxf_terminals.proofs.names.collected.Given as goal

abbrev pub invariant-loop-byte : goal.invariant-loop-byte
invariant-loop-byte l = l.found.items ++ l.bytes ≡ l.initial.bytes

abbrev pub decreases-loop-byte : goal.decreases-loop-byte
decreases-loop-byte l = length l.bytes
