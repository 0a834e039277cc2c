use Rattle.std.proofs.Common.{◌≡◌, take}
use Rattle.std.specs.Prelude.{flat_map}
use Rattle.nxf_tree.specs.Occurrences.{occurrences}
use Rattle.nxf_signatures.specs.steps.Tables.{uses_in, seen_in, and_occurrences}
use Rattle.nxf_signatures.proofs.occurring.Occurring.+note_formula.Given as goal

abbrev pub invariant-note_formulas-loop-formula : goal.invariant-note_formulas-loop-formula
invariant-note_formulas-loop-formula l =
    seen_in l.self ≡ and_occurrences (uses_in l.declarations.symbols.entries) (seen_in l.initial.self) (flat_map occurrences (take l.formula-index l.formulas))
