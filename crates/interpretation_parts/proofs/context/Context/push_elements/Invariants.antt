use Rattle.std.proofs.Common.{◌≡◌, ◌++◌, map, take}
use Rattle.interpretation_definitions.specs.Parts.{argument}
use Rattle.interpretation_definitions.specs.Given.{elements_of, numbers_of}
use Rattle.interpretation_definitions.specs.Judging.{sorts_of}
use Rattle.interpretation_parts.specs.steps.Held.{context_in}
use Rattle.interpretation_parts.proofs.context.Context.push_elements.Given as goal

abbrev pub invariant-loop-term : goal.invariant-loop-term
invariant-loop-term l = record {
  sorts : l.sorts.items ≡ l.initial.sorts.items ++ sorts_of (elements_of (context_in l.self) (map argument (take l.term-index l.terms)));
  numbers : l.numbers.items ≡ l.initial.numbers.items ++ numbers_of (elements_of (context_in l.self) (map argument (take l.term-index l.terms)));
}
