use Rattle.std.proofs.Common.{◌≡◌, take, map}
use Rattle.interpretation_definitions.specs.Given.{elements_of}
use Rattle.interpretation_definitions.specs.Parts.{argument}
use Rattle.interpretation_parts.specs.steps.Held.{context_in}
use Rattle.interpretation_parts.proofs.disequations.named.Given as goal

abbrev pub invariant-loop-term : goal.invariant-loop-term
invariant-loop-term l = l.named.items ≡ elements_of (context_in l.context) (map argument (take l.term-index l.terms))
