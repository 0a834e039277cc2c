use Rattle.std.proofs.Common.{◌∷◌, ap, ◌∙◌, sym}
use Rattle.std.specs.Prelude.{flat_map, Some}
use Rattle.nxf_tree.specs.declared.tree.SortName.TheVariants.{Individual}
use Rattle.nxf_tree.specs.Occurrences.{Occurrence, use_with}
use Rattle.nxf_signatures.specs.steps.Tables.{uses_in, seen_in, and_occurrences, term_occurrences}
use Rattle.nxf_signatures.proofs.Walks.{on_ok, of_App}
use Rattle.nxf_signatures.proofs.occurring.Occurring.+note_term.Goals as goal

pub note_term-returns-in_ok-note_use-in-App : goal.note_term-returns-in_ok-note_use-in-App
note_term-returns-in_ok-note_use-in-App t c =
    let us = uses_in c.args.declarations.now.symbols.entries in
    let rest = flat_map term_occurrences c.in-App.terms in
    let is = ap term_occurrences c.in-App.is ∙ of_App c.in-App.name c.in-App.terms ∙ ap (λ n. Occurrence.symbol (use_with c.in-App.name n (Some Individual)) ∷ rest) (sym c.len.ensures) in
    on_ok c.note_terms.result (λ h. h ∙ ap (λ s. and_occurrences us s rest) c.in_ok-note_use-in-App.ensures ∙ sym (ap (and_occurrences us (seen_in c.args.self.now)) is)) c.note_terms.ensures
