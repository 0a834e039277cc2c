use Rattle.std.proofs.Common.{None, refl, ap}
use mathlib.Core.Logic.{inl, inr}
use Rattle.nxf_devices.proofs.program.start.Goals as goal
use Rattle.nxf_devices.proofs.program.start.Goals.{in-Ok+in_ok-3+in_ok-new-in-Ok+in_ok-push-in-Ok, in-Err}

pub returns : goal.returns
returns c = record {
  run = _;
  libraries = elim c.match-var.branch [
    | in-Ok+in_ok-3+in_ok-new-in-Ok+in_ok-push-in-Ok w ↦
        inr (rw (w.roots-is, w.in_ok-push-in-Ok.ensures.ok, c.in_ok-push-2.ensures.ok, c.in_ok-push.ensures.ok, c.new-roots.ensures) refl)
    | in-Err w ↦ inl (rw (w.roots-is, c.in_ok-push-2.ensures.ok, c.in_ok-push.ensures.ok, c.new-roots.ensures) refl)
  ];
  out = ap (λ n. record { held = None; faults = n }) c.new-out.ensures;
  err = ap (λ n. record { held = None; faults = n }) c.new-err.ensures;
  ends = record { answers = c.run.ensures.answers; causes = c.run.ensures.causes };
  reports = c.run.ensures.reports;
}
