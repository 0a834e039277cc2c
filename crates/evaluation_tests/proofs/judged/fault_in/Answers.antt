use Rattle.std.proofs.Common.{sym, subst}
use Rattle.classical_evaluation_definitions.specs.ClassicalSorting.{IsWellFormedClassical}
use Rattle.evaluation_tests.proofs.FlatLemmas.{flat_formed}
use Rattle.evaluation_tests.proofs.judged.fault_in.Goals as goal

pub prepare-requires-clause-well_formed : goal.prepare-requires-clause-well_formed
prepare-requires-clause-well_formed g c = subst IsWellFormedClassical (sym c.in_ok-over.ensures) flat_formed
