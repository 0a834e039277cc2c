use Rattle.std.proofs.Common.{◌≡◌, ◌++◌, drop}
use Rattle.kripke_text.specs.steps.Subjects.{symbols_from}
use Rattle.kripke_text.proofs.subject.add_symbols.Given as goal

abbrev pub invariant-loop-place : goal.invariant-loop-place
invariant-loop-place l = l.made ++ symbols_from l.place (drop l.place l.symbols) ≡ l.initial.made ++ symbols_from 0 l.symbols
