use Rattle.std.proofs.Common.{◌≡◌, ◌++◌, drop}
use Rattle.kripke_text.specs.steps.Subjects.{relations_from}
use Rattle.kripke_text.proofs.subject.add_relations.Given as goal

abbrev pub invariant-loop-place : goal.invariant-loop-place
invariant-loop-place l = l.made ++ relations_from l.place (drop l.place l.indexes) ≡ l.initial.made ++ relations_from 0 l.indexes
