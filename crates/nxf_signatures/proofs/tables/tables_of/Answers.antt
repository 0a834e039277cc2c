use Rattle.std.proofs.Common.{ap, ◌∙◌}
use Rattle.std.specs.Prelude.{flat_map}
use Rattle.logic_spec.specs.Asked.{asked_by}
use Rattle.nxf_signatures.specs.steps.Tables.{uses_in, nothing, and_occurrences, occurrences_with}
use Rattle.nxf_signatures.proofs.Asked.{marks_of}
use Rattle.nxf_signatures.proofs.TablesLaw.{tables_are}
use Rattle.nxf_signatures.proofs.tables.tables_of.Goals as goal

pub returns : goal.returns
returns c =
    let ss = c.args.file.now.statements in
    let us = uses_in c.in_ok-declarations.declarations.symbols.entries in
    let marks = (λ i. flat_map (occurrences_with (c.overrides.ensures i)) (c.as_slice-statements.ensures i)) ∙ marks_of (asked_by c.args.spec.now) ss c.requires in
    tables_are ss _ (rw (← c.as_slice-statements.ensures) c.in_ok-declarations.ensures.symbols) (rw (← c.as_slice-statements.ensures) c.in_ok-declarations.ensures.sorts) (c.in_ok-occurring.ensures ∙ ap (and_occurrences us nothing) marks) c.has_individual-individual.ensures
