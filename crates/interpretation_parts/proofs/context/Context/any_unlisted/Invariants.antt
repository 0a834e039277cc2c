use Rattle.std.proofs.Common.{◌≡◌, map, take}
use Rattle.std.specs.List.{list_any}
use Rattle.interpretation_definitions.specs.Parts.{argument}
use Rattle.interpretation_definitions.specs.Judging.{is_unlisted}
use Rattle.interpretation_parts.specs.steps.Held.{context_in}
use Rattle.interpretation_parts.proofs.context.Context.any_unlisted.Given as goal

abbrev pub invariant-loop-term : goal.invariant-loop-term
invariant-loop-term l = l.any ≡ list_any (is_unlisted (context_in l.self)) (map argument (take l.term-index l.terms))
