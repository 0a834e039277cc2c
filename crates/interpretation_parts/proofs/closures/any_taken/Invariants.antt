use Rattle.std.proofs.Common.{◌≡◌, take}
use Rattle.std.specs.List.{list_any}
use Rattle.interpretation_definitions.specs.Judging.{is_taken}
use Rattle.interpretation_parts.specs.steps.Held.{context_in}
use Rattle.interpretation_parts.specs.steps.Readings.{texts}
use Rattle.interpretation_parts.proofs.closures.any_taken.Given as goal

abbrev pub invariant-loop-name : goal.invariant-loop-name
invariant-loop-name l = l.any ≡ list_any (is_taken (context_in l.context) l.sort) (texts (take l.name-index l.names))
