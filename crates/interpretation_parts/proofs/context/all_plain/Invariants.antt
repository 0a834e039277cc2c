use Rattle.std.proofs.Common.{◌≡◌, map, take}
use Rattle.std.specs.List.{list_all}
use Rattle.interpretation_definitions.specs.Parts.{argument}
use Rattle.interpretation_definitions.specs.Judging.{is_plain}
use Rattle.interpretation_parts.proofs.context.all_plain.Given as goal

abbrev pub invariant-loop-term : goal.invariant-loop-term
invariant-loop-term l = l.all ≡ list_all is_plain (map argument (take l.term-index l.terms))
