use Rattle.std.proofs.Common.{◌∷◌, ap, ◌∙◌, sym}
use Rattle.std.specs.Prelude.{flat_map, None}
use Rattle.nxf_tree.specs.Occurrences.{Occurrence, use_with}
use Rattle.nxf_signatures.specs.steps.Tables.{uses_in, seen_in, and_occurrences, term_occurrences}
use Rattle.nxf_signatures.proofs.Walks.{on_ok, of_Atom}
use Rattle.nxf_signatures.proofs.occurring.Occurring.note_atom.Goals as goal

pub returns : goal.returns
returns c =
    let us = uses_in c.args.declarations.now.symbols.entries in
    let rest = flat_map term_occurrences c.args.terms.now in
    let is = of_Atom c.args.name.now c.args.terms.now ∙ ap (λ n. Occurrence.symbol (use_with c.args.name.now n None) ∷ rest) (sym c.len.ensures) in
    on_ok c.note_terms.result (λ h. h ∙ ap (λ s. and_occurrences us s rest) c.in_ok-note_use.ensures ∙ sym (ap (and_occurrences us (seen_in c.args.self.now)) is)) c.note_terms.ensures
