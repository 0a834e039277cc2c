use Rattle.std.proofs.Common.{◌≡◌, ◌++◌, drop}
use Rattle.kripke_text.specs.steps.Subjects.{existences_from}
use Rattle.kripke_text.proofs.subject.add_existences.Given as goal

abbrev pub invariant-loop-place : goal.invariant-loop-place
invariant-loop-place l = l.made ++ existences_from l.place (drop l.place l.sort-items) ≡ l.initial.made ++ existences_from 0 l.sort-items
