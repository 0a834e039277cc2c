use Rattle.std.proofs.Common.{◌≡◌, take, map}
use Rattle.std.specs.List.{list_any}
use Rattle.interpretation_definitions.specs.Judging.{has_extra_head}
use Rattle.interpretation_definitions.specs.Parts.{argument}
use Rattle.interpretation_parts.specs.steps.Held.{context_in}
use Rattle.interpretation_parts.proofs.disequations.any_extra_head.Given as goal

abbrev pub invariant-loop-term : goal.invariant-loop-term
invariant-loop-term l = l.any ≡ list_any (has_extra_head (context_in l.context)) (map argument (take l.term-index l.terms))
