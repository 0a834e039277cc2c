use Rattle.std.proofs.Common.{◌≡◌, drop}
use Rattle.fin_struct.specs.FirstFault.{frames_from, frame_conditions}
use Rattle.structure_laws.proofs.FirstFaultLemmas.{first_failing}
use Rattle.frames.proofs.FaultLemmas.{holds_in}
use Rattle.frames.proofs.faults.first_fault.Given as goal

abbrev pub invariant-loop-place : goal.invariant-loop-place
invariant-loop-place l = first_failing (holds_in l.over l.kripke) (frames_from l.place (drop l.place l.over.indexes)) ≡ first_failing (holds_in l.over l.kripke) (frame_conditions l.over)
