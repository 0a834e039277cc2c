use Rattle.evaluation_tests.specs.Flat.{IsFlat}
use Rattle.evaluation_tests.proofs.formulas.nest.Given as goal

abbrev pub invariant-deeper : goal.invariant-deeper
invariant-deeper l = IsFlat l.formula
