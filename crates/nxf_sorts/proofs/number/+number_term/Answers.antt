use Rattle.std.proofs.Common.{◌≡◌, ◌+◌, [], ◌∷◌, ◌++◌, get_or, drop, take, map, arith, Some, ap, ◌∙◌, sym, subst}
use Rattle.std.proofs.lemmas.List.{at_drop_more}
use Rattle.std.proofs.lemmas.Grind.{take_at_read}
use Rattle.nxf_tree.specs.declared.tree.Term.{Term, Var, App}
use Rattle.nxf_tree.specs.Signature.{sort_at}
use Rattle.numbered_definitions.specs.declared.node.NTerm.{NTerm, Bound}
use Rattle.numbered_definitions.specs.declared.node.NTerm as numbered
use Rattle.numbered_definitions.specs.NamedForm.{named_terms}
use Rattle.nxf_base.specs.declared.status.SortKind.TheVariants.{FreeVariable, Mismatch}
use Rattle.nxf_tree.specs.Sorting.{modal_language}
use Rattle.nxf_tree.specs.SortFaults.{term_fault, arguments_fault}
use Rattle.formula_cells.specs.Stored.{term_at}
use Rattle.formula_cells.specs.Putting.{PutsTerm, PutsTerms}
use Rattle.formula_cells.proofs.CallerLemmas.{puts_term_here, puts_term_more, puts_term_push}
use Rattle.nxf_sorts.specs.steps.Scope.{variables, bound_in}
use Rattle.nxf_sorts.specs.steps.Numbering.{IsFault, NumbersTerm, NumbersArgument}
use Rattle.nxf_sorts.proofs.UseLemmas.{fault_is, refused_with}
use Rattle.nxf_sorts.proofs.TermLemmas.{variable_numbered, variable_free, symbol_refused, arguments_refused, application_numbered, argument_apart, refused_here, fine_here, named_push}
use Rattle.nxf_sorts.proofs.number.+number_term.Goals as goal

pub number_argument-returns-else-sort-wanted : goal.number_argument-returns-else-sort-wanted
number_argument-returns-else-sort-wanted t c =
    let sig = c.args.names.now.signature in
    let us = c.args.names.now.declared in
    let bs = c.args.binders.now in
    fault_is _ _ _ (argument_apart sig us bs c.args.of.now c.args.wanted c.args.term.now (term_at c.number_term.new.cells c.in_ok-argument.argument) c.in_ok-argument.sort c.requires.good c.requires.wanted c.in_ok-argument.ensures.holds c.if-sort-wanted.false
    ∙ ap (λ n. Some (Mismatch, n)) (sym c.bytes.ensures)) c.fault_of.ensures

pub number_term-returns-in_err-number-in-App : goal.number_term-returns-in_err-number-in-App
number_term-returns-in_err-number-in-App t c =
    let sig = c.args.names.now.signature in
    let us = c.args.names.now.declared in
    let bs = c.args.binders.now in
    let e = c.in_err-number-in-App.field-0.0 in
    refused_with _ _ _ e c.from_residual-in_err-number-in-App.ensures.1
    (subst (λ (x : Term). IsFault (term_fault (modal_language sig) us (bound_in sig bs) x) e) (sym c.in-App.is) (symbol_refused sig us bs c.in-App.name c.in-App.terms e (rw (← c.len.ensures) c.in_err-number-in-App.ensures)))

pub number_term-returns-in_err-args-in-App : goal.number_term-returns-in_err-args-in-App
number_term-returns-in_err-args-in-App t c =
    let sig = c.args.names.now.signature in
    let us = c.args.names.now.declared in
    let bs = c.args.binders.now in
    let e = c.in_err-args-in-App.field-0.0 in
    refused_with _ _ _ e c.from_residual-in_err-args-in-App.ensures.1
    (subst (λ (x : Term). IsFault (term_fault (modal_language sig) us (bound_in sig bs) x) e) (sym c.in-App.is)
    (arguments_refused sig us bs c.in-App.name c.in-App.terms c.in_ok-number-in-App.gives c.in_ok-number-in-App.number c.in_ok-number-in-App.sorts.now (rw (← c.len.ensures) c.in_ok-number-in-App.ensures) e
    (rw (← c.as_slice.ensures) c.in_err-args-in-App.ensures)))

pub number_term-returns-in_ok-at-in-Some : goal.number_term-returns-in_ok-at-in-Some
number_term-returns-in_ok-at-in-Some t c =
    let sig = c.args.names.now.signature in
    let us = c.args.names.now.declared in
    let bs = c.args.binders.now in
    let old = c.args.cells.now in
    let new = c.put_bound.new.self in
    subst (λ (x : Term). PutsTerm (λ n. NumbersTerm sig us bs x n c.in-Some.sort) old new c.in_ok-at-in-Some.at) (sym c.in-Var.is)
    (puts_term_here (λ n. NumbersTerm sig us bs (Var c.in-Var.name) n c.in-Some.sort) old new c.in_ok-at-in-Some.at (Bound c.in-Some.level) c.in_ok-at-in-Some.ensures.put (variable_numbered sig us bs c.in-Var.name (c.in-Some.level, c.in-Some.sort) c.requires.scope (sym c.in-Some.ensures)))

pub number_term-returns-in-None : goal.number_term-returns-in-None
number_term-returns-in-None t c =
    fault_is _ _ _ (ap (term_fault (modal_language c.args.names.now.signature) c.args.names.now.declared (bound_in c.args.names.now.signature c.args.binders.now)) c.in-Var.is
    ∙ variable_free c.args.names.now.signature c.args.names.now.declared c.args.binders.now c.in-Var.name (sym c.in-None.ensures)
    ∙ ap (λ n. Some (FreeVariable, n)) (sym c.bytes.ensures)) c.fault_of.ensures

pub number_term-returns-in_ok-at-in-App : goal.number_term-returns-in_ok-at-in-App
number_term-returns-in_ok-at-in-App t c =
    let sig = c.args.names.now.signature in
    let us = c.args.names.now.declared in
    let bs = c.args.binders.now in
    let old = c.args.cells.now in
    let mid = c.number_terms.new.cells in
    let new = c.put_app.new.self in
    let list = c.as_slice-in-App.result.now in
    let gives = c.in_ok-number-in-App.gives in
    let h = c.in_ok-args-in-App.ensures in
    subst (λ (x : Term). PutsTerm (λ n. NumbersTerm sig us bs x n gives) old new c.in_ok-at-in-App.at) (sym c.in-App.is)
    (puts_term_more (λ n. NumbersTerm sig us bs (App c.in-App.name c.in-App.terms) n gives) old mid new c.in_ok-at-in-App.at (numbered.App c.in_ok-number-in-App.number (map (term_at mid) list)) h.grows c.in_ok-at-in-App.ensures.put
    (application_numbered sig us bs c.in-App.name c.in-App.terms gives c.in_ok-number-in-App.number c.in_ok-number-in-App.sorts.now (rw (← c.len.ensures) c.in_ok-number-in-App.ensures) (map (term_at mid) list)
    (rw (c.as_slice-in-App.ensures, ← c.as_slice.ensures) h.holds)))

pub number_terms-returns-in_err-argument : goal.number_terms-returns-in_err-argument
number_terms-returns-in_err-argument level c =
    let sig = c.args.names.now.signature in
    let us = c.args.names.now.declared in
    let bs = c.args.binders.now in
    let i = c.loop-term.term-index in
    let w = get_or c.args.sorts.now c.loop-term.at 0 in
    let t = c.term-item.result in
    let e = c.in_err-argument.field-0.0 in
    let split_sorts : drop i c.args.sorts.now ≡ w ∷ drop (i + 1) c.args.sorts.now =
    ap (λ k. drop k c.args.sorts.now) (sym c.loop-term.invariant.place) ∙ at_drop_more (λ l. l) c.args.sorts.now c.loop-term.at 0 (omega (arith, c.if-at-sorts.false)) ∙ ap (λ k. w ∷ drop (k + 1) c.args.sorts.now) c.loop-term.invariant.place in
    let split_terms : drop i c.args.terms.now ≡ t ∷ drop (i + 1) c.args.terms.now =
    at_drop_more (λ l. l) c.args.terms.now i t c.loop-term-test.true ∙ ap (λ x. x ∷ drop (i + 1) c.args.terms.now) (sym c.term-item.is) in
    let here : arguments_fault (modal_language sig) us (bound_in sig bs) c.args.of.now (map (sort_at sig.sorts) c.args.sorts.now) c.args.terms.now
    ≡ arguments_fault (modal_language sig) us (bound_in sig bs) c.args.of.now (map (sort_at sig.sorts) (w ∷ drop (i + 1) c.args.sorts.now)) (t ∷ drop (i + 1) c.args.terms.now) =
    c.loop-term.invariant.faults ∙ (λ j. arguments_fault (modal_language sig) us (bound_in sig bs) c.args.of.now (map (sort_at sig.sorts) (split_sorts j)) (split_terms j)) in
    refused_with _ _ _ e c.from_residual-in_err-argument.ensures.1
    (fault_is _ _ e here (refused_here sig us bs c.args.of.now w t (drop (i + 1) c.args.sorts.now) (drop (i + 1) c.args.terms.now) e c.in_err-argument.ensures))

pub number_terms-loop-term-preserved : goal.number_terms-loop-term-preserved
number_terms-loop-term-preserved level c =
    let sig = c.args.names.now.signature in
    let us = c.args.names.now.declared in
    let bs = c.args.binders.now in
    let i = c.loop-term.term-index in
    let w = get_or c.args.sorts.now c.loop-term.at 0 in
    let t = c.term-item.result in
    let terms = c.args.terms.now in
    let split_sorts : drop i c.args.sorts.now ≡ w ∷ drop (i + 1) c.args.sorts.now =
    ap (λ k. drop k c.args.sorts.now) (sym c.loop-term.invariant.place) ∙ at_drop_more (λ l. l) c.args.sorts.now c.loop-term.at 0 (omega (arith, c.if-at-sorts.false)) ∙ ap (λ k. w ∷ drop (k + 1) c.args.sorts.now) c.loop-term.invariant.place in
    let split_terms : drop i terms ≡ t ∷ drop (i + 1) terms =
    at_drop_more (λ l. l) terms i t c.loop-term-test.true ∙ ap (λ x. x ∷ drop (i + 1) terms) (sym c.term-item.is) in
    let here : arguments_fault (modal_language sig) us (bound_in sig bs) c.args.of.now (map (sort_at sig.sorts) c.args.sorts.now) terms
    ≡ arguments_fault (modal_language sig) us (bound_in sig bs) c.args.of.now (map (sort_at sig.sorts) (w ∷ drop (i + 1) c.args.sorts.now)) (t ∷ drop (i + 1) terms) =
    c.loop-term.invariant.faults ∙ (λ j. arguments_fault (modal_language sig) us (bound_in sig bs) c.args.of.now (map (sort_at sig.sorts) (split_sorts j)) (split_terms j)) in
    let more = (take_at_read terms i t c.loop-term-test.true).1 in
    record {
      faults = here ∙ fine_here sig us bs c.args.of.now w t (drop (i + 1) c.args.sorts.now) (drop (i + 1) terms) c.in_ok-argument.ensures.holds.no_fault;
      puts =
          subst (PutsTerms (λ ns. named_terms sig (variables bs) ns ≡ Some (take (i + 1) terms)) c.args.cells.now c.number_argument.new.cells) (sym c.in_ok-put.ensures)
          (puts_term_push (λ ns. named_terms sig (variables bs) ns ≡ Some (take i terms)) (λ ns. named_terms sig (variables bs) ns ≡ Some (take (i + 1) terms)) (NumbersArgument sig us bs c.args.of.now w t)
          (λ ns n h k. named_push sig (variables bs) ns (take i terms) n t h k.named ∙ ap Some (ap (λ x. take i terms ++ x ∷ []) c.term-item.is ∙ sym more))
          c.args.cells.now c.loop-term.cells c.number_argument.new.cells c.loop-term.args c.in_ok-argument.argument c.loop-term.invariant.puts c.in_ok-argument.ensures);
      place = ap (λ k. k + 1) c.loop-term.invariant.place;
    }
