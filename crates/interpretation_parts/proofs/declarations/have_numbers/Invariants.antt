use Rattle.std.proofs.Common.{◌≡◌, take}
use Rattle.interpretation_definitions.specs.Judging.{same_sorts}
use Rattle.interpretation_parts.proofs.declarations.have_numbers.Given as goal

abbrev pub invariant-loop-at : goal.invariant-loop-at
invariant-loop-at l = l.same ≡ same_sorts l.sorts (take l.at l.numbers) (take l.at l.names)
