use Rattle.std.proofs.Common.{◌≡◌, take}
use Rattle.nxf_signatures.specs.steps.Tables.{seen_in, and_occurrences, key_occurrences_in}
use Rattle.nxf_signatures.proofs.occurring.Occurring.note_overrides.Given as goal

abbrev pub invariant-loop-item : goal.invariant-loop-item
invariant-loop-item l = (us : _) → seen_in l.self ≡ and_occurrences us (seen_in l.initial.self) (key_occurrences_in (take l.item-index l.overrides))
