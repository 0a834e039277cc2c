use Rattle.std.proofs.Common.{◌≡◌, ◌≤◌, length}
use Rattle.nxf_run.specs.Ending.{AppendsSome}
use Rattle.nxf_run.proofs.output.write_all.Given as goal

abbrev pub invariant-loop-rest : goal.invariant-loop-rest
invariant-loop-rest g l =
    (written : AppendsSome (g.S.Sink.held l.fn.sink) (g.S.Sink.held l.sink) l.fn.bytes)
    × (written.rest ≡ l.rest)
    × (g.S.Sink.faults l.fn.sink ≤ g.S.Sink.faults l.sink)

abbrev pub decreases-loop-rest : goal.decreases-loop-rest
decreases-loop-rest g l = length l.rest
