use Rattle.std.proofs.Common.{◌≡◌, take}
use Rattle.structure_tests.proofs.thousand_worlds.index.Given as goal

abbrev pub invariant-loop-scheme : goal.invariant-loop-scheme
invariant-loop-scheme l = l.schemes ≡ take l.scheme-index l.chosen
