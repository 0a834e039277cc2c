use Rattle.std.proofs.Common.{ap, ◌∙◌, sym}
use Rattle.std.proofs.lemmas.List.Sums.{fold-append}
use Rattle.nxf_signatures.specs.steps.Tables.{uses_in, seen_in, and_occurrence, and_occurrences, term_occurrences}
use Rattle.nxf_signatures.proofs.Walks.{on_ok, of_Same}
use Rattle.nxf_signatures.proofs.occurring.Occurring.note_sides.Goals as goal

pub returns : goal.returns
returns c =
    let us = uses_in c.args.declarations.now.symbols.entries in
    let old = seen_in c.args.self.now in
    let left = c.get.result.now in
    let right = c.get-2.result.now in
    rw (← c.get.ensures, ← c.get-2.ensures)
    (on_ok c.note_term-2.result
    (λ h. h ∙ ap (λ s. and_occurrences us s (term_occurrences right)) c.in_ok-note_term.ensures
    ∙ sym (ap (and_occurrences us old) (of_Same left right) ∙ fold-append (and_occurrence us) old (term_occurrences left) (term_occurrences right)))
    c.note_term-2.ensures)
