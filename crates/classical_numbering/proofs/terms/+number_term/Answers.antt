use Rattle.std.proofs.Common.{◌≡◌, ◌+◌, [], ◌∷◌, ◌++◌, take, map, Some, sym, ap, ◌∙◌, subst, arith}
use Rattle.std.proofs.lemmas.Grind.{take_at_read}
use Rattle.std.proofs.lemmas.Result.{IfOk-weaker}
use Rattle.nxf_tree.specs.Depth.{term_depth, list_depth}
use Rattle.nxf_tree.proofs.CallerLemmas.{term_depth_of_App}
use Rattle.numbered_definitions.specs.declared.node.NTerm as numbered
use Rattle.formula_cells.specs.Stored.{term_at}
use Rattle.formula_cells.specs.Putting.{AddsTerm, PutsTerm, PutsTerms}
use Rattle.formula_cells.proofs.CallerLemmas.{puts_term_more, puts_term_push}
use Rattle.classical_evaluation_definitions.specs.ClassicalForm.{named_term, named_terms}
use Rattle.classical_numbering.specs.steps.Numbering.{HasSort, HaveSorts, NamesTerm, NamesTerms}
use Rattle.classical_numbering.proofs.NameLemmas.{symbol_found}
use Rattle.classical_numbering.proofs.SortLemmas.{bound_variable, function_known, function_arguments, argument_at}
use Rattle.classical_numbering.proofs.TermLemmas.{named_App, term_within, terms_push}
use Rattle.classical_numbering.proofs.terms.+number_term.Goals as goal

pub number_term-put_variable-requires : goal.number_term-put_variable-requires
number_term-put_variable-requires t c =
    let csig = c.args.names.now.over.now in
    let xs = c.args.binders.now in
    bound_variable csig xs c.in-Var.name (subst (HasSort csig xs) c.in-Var.is c.requires)

pub number_term-unreachable-requires : goal.number_term-unreachable-requires
number_term-unreachable-requires t c =
    let csig = c.args.names.now.over.now in
    let xs = c.args.binders.now in
    function_known csig xs c.in-App.name c.in-App.terms (subst (HasSort csig xs) c.in-App.is c.requires) (sym c.symbol.ensures ∙ c.in_default.is)

pub number_term-number_terms-requires : goal.number_term-number_terms-requires
number_term-number_terms-requires t c =
    let csig = c.args.names.now.over.now in
    let xs = c.args.binders.now in
    (omega (arith, c.decreases, ap term_depth c.in-App.is, term_depth_of_App c.in-App.name c.in-App.terms, ap list_depth c.as_slice.ensures), subst (HaveSorts csig xs) (sym c.as_slice.ensures) (function_arguments csig xs c.in-App.name c.in-App.terms (subst (HasSort csig xs) c.in-App.is c.requires)))

pub number_term-returns-in_ok-args-in-App : goal.number_term-returns-in_ok-args-in-App
number_term-returns-in_ok-args-in-App t c =
    let csig = c.args.names.now.over.now in
    let xs = c.args.binders.now in
    let old = c.args.cells.now in
    let mid = c.number_terms.new.cells in
    let new = c.put_app.new.self in
    let args = c.as_slice-in-App.result.now in
    let f = c.in-App.name in
    let k = c.in-Some.number in
    let h : PutsTerms (NamesTerms csig xs c.as_slice.result.now) old mid c.in_ok-args-in-App.args = c.in_ok-args-in-App.ensures in
    let holds : named_terms csig xs (map (term_at mid) args) ≡ Some c.in-App.terms =
    ap (λ l. named_terms csig xs (map (term_at mid) l)) c.as_slice-in-App.ensures ∙ h.holds ∙ ap Some c.as_slice.ensures in
    let named : named_term csig xs (numbered.App k (map (term_at mid) args)) ≡ Some c.args.term.now =
    named_App csig xs k f (map (term_at mid) args) c.in-App.terms (symbol_found csig f k (sym c.symbol.ensures ∙ c.in-Some.is)) holds ∙ ap Some (sym c.in-App.is) in
    IfOk-weaker c.put_app.result (λ at. AddsTerm mid new at (numbered.App k (map (term_at mid) args))) (PutsTerm (NamesTerm csig xs c.args.term.now) old new)
    (λ at p. puts_term_more (NamesTerm csig xs c.args.term.now) old mid new at (numbered.App k (map (term_at mid) args)) h.grows p named) c.put_app.ensures.put

pub number_terms-number_term-requires : goal.number_terms-number_term-requires
number_terms-number_term-requires t c =
    let csig = c.args.names.now.over.now in
    let xs = c.args.binders.now in
    (omega (arith, c.decreases, ap term_depth c.term-item.is, term_within c.args.terms.now c.loop-term.term-index c.term-item.result c.loop-term-test.true), subst (HasSort csig xs) (sym c.term-item.is) (argument_at csig xs c.args.terms.now c.loop-term.term-index c.term-item.result c.loop-term-test.true c.requires))

pub number_terms-loop-term-preserved : goal.number_terms-loop-term-preserved
number_terms-loop-term-preserved level c =
    let csig = c.args.names.now.over.now in
    let xs = c.args.binders.now in
    let terms = c.args.terms.now in
    let i = c.loop-term.term-index in
    let t = c.term-item.result in
    let more : take (i + 1) terms ≡ take i terms ++ t ∷ [] = (take_at_read terms i t c.loop-term-test.true).1 ∙ ap (λ x. take i terms ++ x ∷ []) (sym c.term-item.is) in
    subst (PutsTerms (NamesTerms csig xs (take (i + 1) terms)) c.args.cells.now c.number_term.new.cells) (sym c.in_ok-push.ensures.pushed)
    (puts_term_push (NamesTerms csig xs (take i terms)) (NamesTerms csig xs (take (i + 1) terms)) (NamesTerm csig xs t)
    (λ ns n h k. terms_push csig xs ns (take i terms) n t h k ∙ ap Some (sym more))
    c.args.cells.now c.loop-term.cells c.number_term.new.cells c.loop-term.args c.in_ok-arg.arg c.loop-term.invariant c.in_ok-arg.ensures)
