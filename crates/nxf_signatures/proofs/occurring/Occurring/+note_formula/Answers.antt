use Rattle.std.proofs.Common.{◌≡◌, ap, ◌∙◌, sym}
use Rattle.std.proofs.lemmas.List.Sums.{fold-append}
use Rattle.std.specs.Prelude.{◌++◌, ◌∷◌}
use Rattle.nxf_signatures.specs.steps.Tables.{uses_in, seen_in, and_occurrences}
use Rattle.nxf_tree.specs.Occurrences.{Occurrence, occurrences}
use Rattle.nxf_tree.specs.Shapes.{Not_is, Pair_is, Quant_is, Modal_is}
use Rattle.nxf_signatures.proofs.Walks.{on_ok, of_And, of_Or, of_terms}
use Rattle.nxf_signatures.proofs.occurring.Occurring.+note_formula.Goals as goal

pub note_formula-returns-in-Not : goal.note_formula-returns-in-Not
note_formula-returns-in-Not t c =
    let is = ap occurrences (c.in-Not.is ∙ Not_is _) ∙ ap occurrences (sym c.get.ensures) in
    rw is c.note_formula.ensures

pub note_formula-returns-in-And : goal.note_formula-returns-in-And
note_formula-returns-in-And t c = let is = ap occurrences c.in-And.is ∙ of_And c.in-And.parts in rw is c.note_formulas.ensures

pub note_formula-returns-in-Or : goal.note_formula-returns-in-Or
note_formula-returns-in-Or t c = let is = ap occurrences c.in-Or.is ∙ of_Or c.in-Or.parts in rw is c.note_formulas-in-Or.ensures

pub note_formula-returns-in_ok-note_formula-in-Pair : goal.note_formula-returns-in_ok-note_formula-in-Pair
note_formula-returns-in_ok-note_formula-in-Pair t c =
    let is : occurrences c.args.formula.now ≡ occurrences c.get-in-Pair.result.now ++ occurrences c.get-in-Pair-2.result.now =
    ap occurrences (c.in-Pair.is ∙ Pair_is _ _ _) ∙ sym (λ i. occurrences (c.get-in-Pair.ensures i) ++ occurrences (c.get-in-Pair-2.ensures i)) in
    rw (is, fold-append, ← c.in_ok-note_formula-in-Pair.ensures) c.note_formula-in-Pair-2.ensures

pub note_formula-returns-in-Quant : goal.note_formula-returns-in-Quant
note_formula-returns-in-Quant t c =
    let us = uses_in c.args.declarations.now.symbols.entries in
    let body = occurrences c.get-in-Quant.result.now in
    let is = ap occurrences (c.in-Quant.is ∙ Quant_is _ _ _ _) ∙ ap (λ f. Occurrence.sort c.in-Quant.sort ∷ occurrences f) (sym c.get-in-Quant.ensures) in
    on_ok c.note_formula-in-Quant.result (λ h. h ∙ ap (λ s. and_occurrences us s body) (c.note_sort.ensures us) ∙ sym (ap (and_occurrences us (seen_in c.args.self.now)) is)) c.note_formula-in-Quant.ensures

pub note_formula-returns-in_ok-note_index-in-Modal : goal.note_formula-returns-in_ok-note_index-in-Modal
note_formula-returns-in_ok-note_index-in-Modal t c =
    let us = uses_in c.args.declarations.now.symbols.entries in
    let body = occurrences c.get-in-Modal.result.now in
    let is = ap occurrences (c.in-Modal.is ∙ Modal_is _ _ _) ∙ ap (λ f. Occurrence.index c.in-Modal.index ∷ occurrences f) (sym c.get-in-Modal.ensures) in
    on_ok c.note_formula-in-Modal.result (λ h. h ∙ ap (λ s. and_occurrences us s body) (c.in_ok-note_index-in-Modal.ensures us) ∙ sym (ap (and_occurrences us (seen_in c.args.self.now)) is)) c.note_formula-in-Modal.ensures

pub note_formula-returns-in-Distinct : goal.note_formula-returns-in-Distinct
note_formula-returns-in-Distinct t c = let is = ap occurrences c.in-Distinct.is ∙ of_terms c.in-Distinct.terms in rw is c.note_terms.ensures
