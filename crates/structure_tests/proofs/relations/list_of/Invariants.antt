use Rattle.std.proofs.Common.{◌≡◌, take}
use Rattle.structure_tests.proofs.relations.list_of.Given as goal

abbrev pub invariant-loop-scheme : goal.invariant-loop-scheme
invariant-loop-scheme l = l.schemes ≡ take l.scheme-index l.chosen
