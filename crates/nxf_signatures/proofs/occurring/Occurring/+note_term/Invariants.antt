use Rattle.std.proofs.Common.{◌≡◌, take}
use Rattle.std.specs.Prelude.{flat_map}
use Rattle.nxf_signatures.specs.steps.Tables.{uses_in, seen_in, and_occurrences, term_occurrences}
use Rattle.nxf_signatures.proofs.occurring.Occurring.+note_term.Given as goal

abbrev pub invariant-note_terms-loop-term : goal.invariant-note_terms-loop-term
invariant-note_terms-loop-term l =
    seen_in l.self ≡ and_occurrences (uses_in l.declarations.symbols.entries) (seen_in l.initial.self) (flat_map term_occurrences (take l.term-index l.terms))
