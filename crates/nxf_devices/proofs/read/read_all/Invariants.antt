use Rattle.std.proofs.Common.{◌≡◌, ◌+◌, ◌≤◌, length}
use Rattle.nxf_devices.proofs.read.read_all.Given as goal

abbrev pub invariant-loop : goal.invariant-loop
invariant-loop g l = (l.most ≡ l.limit + 1) × (length l.bytes.items ≤ l.most)
