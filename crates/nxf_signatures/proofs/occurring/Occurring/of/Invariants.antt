use Rattle.std.proofs.Common.{◌≡◌, take}
use Rattle.std.specs.Prelude.{flat_map}
use Rattle.nxf_signatures.specs.steps.Tables.{uses_in, seen_in, nothing, and_occurrences, occurrences_with}
use Rattle.nxf_signatures.proofs.occurring.Occurring.of.Given as goal

abbrev pub invariant-loop-statement : goal.invariant-loop-statement
invariant-loop-statement l =
    seen_in l.occurring ≡ and_occurrences (uses_in l.declarations.symbols.entries) nothing (flat_map (occurrences_with l.overrides) (take l.statement-index l.statements))
