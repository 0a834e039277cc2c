use Rattle.evaluation_tests.proofs.FlatLemmas.{AreFlat}
use Rattle.evaluation_tests.proofs.formulas.conjunction.Given as goal

abbrev pub invariant-more : goal.invariant-more
invariant-more l = AreFlat l.parts
