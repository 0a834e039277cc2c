use Rattle.std.proofs.Common.{◌≡◌, length, map, take}
use Rattle.interpretation_definitions.specs.Context.{and_listings}
use Rattle.interpretation_parts.specs.steps.Tables.{Counted}
use Rattle.interpretation_parts.proofs.context.note_listings.Given as goal

abbrev pub invariant-loop-name : goal.invariant-loop-name
invariant-loop-name l = record {
  listed : l.elements.entries ≡ and_listings l.initial.elements.entries (map (λ name. (name.now, l.sort)) (take l.name-index l.names));
  counted : Counted l.elements.entries l.counts.items;
  count : length l.counts.items ≡ length l.initial.counts.items;
}
