use Rattle.std.proofs.Common.{◌≡◌, ◌+◌, [], ◌∷◌, ◌++◌, drop, take, map, Some, ap, ◌∙◌, sym, subst}
use Rattle.std.specs.Option.{option_or}
use Rattle.std.proofs.lemmas.List.{at_drop_more}
use Rattle.std.proofs.lemmas.Grind.{take_at_read}
use Rattle.nxf_tree.specs.declared.tree.Formula.{Formula, Same, Differ, Not, And, Or}
use Rattle.nxf_tree.specs.Shapes.{Pair2, Quant1, Modal1, Pair_is, Quant_is, Modal_is}
use Rattle.nxf_tree.specs.Sorting.{modal_language}
use Rattle.nxf_tree.specs.SortFaults.{formula_fault}
use Rattle.numbered_definitions.specs.declared.node.Node.{Node}
use Rattle.numbered_definitions.specs.declared.node.Node as node
use Rattle.numbered_definitions.specs.NamedForm.{NodeNot, NodePair, NodeQuant, NodeModal, named_forms}
use Rattle.formula_cells.specs.Stored.{node_at, term_at}
use Rattle.formula_cells.specs.Putting.{Puts, PutsAll}
use Rattle.formula_cells.proofs.CallerLemmas.{grows_twice, node_kept, puts_more, puts_push}
use Rattle.nxf_sorts.specs.steps.Scope.{Scope, variables, bound_in}
use Rattle.nxf_sorts.specs.steps.Numbering.{IsFault, NumbersFormula, KnowsIndexes, KnowsAllIndexes, formulas_faults}
use Rattle.nxf_sorts.proofs.UseLemmas.{fault_first, fault_is, refused_with}
use Rattle.nxf_sorts.proofs.FormulaLemmas.{fault_Not, fault_And, fault_Or, same_numbered, differ_numbered, not_numbered, and_numbered, or_numbered, pair_numbered, pair_first, pair_second, quantified_refused, quantified_numbered, modal_numbered, knows_member, forms_push}
use Rattle.nxf_sorts.proofs.formula.+number_formula.Goals as goal

pub number_formula-returns-in_err-a-in-Same-clause-value : goal.number_formula-returns-in_err-a-in-Same-clause-value
number_formula-returns-in_err-a-in-Same-clause-value t c =
    let sig = c.args.names.now.signature in
    let us = c.args.names.now.declared in
    let bs = c.args.binders.now in
    let e = c.in_err-a-in-Same.field-0.0 in
    refused_with _ _ _ e c.from_residual-in_err-a-in-Same.ensures.1
    (subst (λ (f : Formula). IsFault (formula_fault (modal_language sig) us (bound_in sig bs) f) e) (sym c.in-Same.is) (c.in_err-a-in-Same.ensures))

pub number_formula-returns-in_err-a-in-Differ-clause-value : goal.number_formula-returns-in_err-a-in-Differ-clause-value
number_formula-returns-in_err-a-in-Differ-clause-value t c =
    let sig = c.args.names.now.signature in
    let us = c.args.names.now.declared in
    let bs = c.args.binders.now in
    let e = c.in_err-a-in-Differ.field-0.0 in
    refused_with _ _ _ e c.from_residual-in_err-a-in-Differ.ensures.1
    (subst (λ (f : Formula). IsFault (formula_fault (modal_language sig) us (bound_in sig bs) f) e) (sym c.in-Differ.is) (c.in_err-a-in-Differ.ensures))

pub number_formula-returns-in_err-part-in-Not-clause-value : goal.number_formula-returns-in_err-part-in-Not-clause-value
number_formula-returns-in_err-part-in-Not-clause-value t c =
    let sig = c.args.names.now.signature in
    let us = c.args.names.now.declared in
    let bs = c.args.binders.now in
    let is : c.args.formula.now ≡ Not c.get.result.now = c.in-Not.is ∙ ap Not (sym c.get.ensures) in
    let e = c.in_err-part-in-Not.field-0.0 in
    refused_with _ _ _ e c.from_residual-in_err-part-in-Not.ensures.1
    (subst (λ (f : Formula). IsFault (formula_fault (modal_language sig) us (bound_in sig bs) f) e) (sym is) (fault_is _ _ e (fault_Not sig us bs c.get.result.now) c.in_err-part-in-Not.ensures.value))

pub number_formula-returns-in_err-parts-in-And-clause-value : goal.number_formula-returns-in_err-parts-in-And-clause-value
number_formula-returns-in_err-parts-in-And-clause-value t c =
    let sig = c.args.names.now.signature in
    let us = c.args.names.now.declared in
    let bs = c.args.binders.now in
    let e = c.in_err-parts-in-And.field-0.0 in
    refused_with _ _ _ e c.from_residual-in_err-parts-in-And.ensures.1
    (subst (λ (f : Formula). IsFault (formula_fault (modal_language sig) us (bound_in sig bs) f) e) (sym c.in-And.is) (fault_is _ _ e (fault_And sig us bs c.in-And.parts) c.in_err-parts-in-And.ensures.value))

pub number_formula-returns-in_err-parts-in-Or-clause-value : goal.number_formula-returns-in_err-parts-in-Or-clause-value
number_formula-returns-in_err-parts-in-Or-clause-value t c =
    let sig = c.args.names.now.signature in
    let us = c.args.names.now.declared in
    let bs = c.args.binders.now in
    let e = c.in_err-parts-in-Or.field-0.0 in
    refused_with _ _ _ e c.from_residual-in_err-parts-in-Or.ensures.1
    (subst (λ (f : Formula). IsFault (formula_fault (modal_language sig) us (bound_in sig bs) f) e) (sym c.in-Or.is) (fault_is _ _ e (fault_Or sig us bs c.in-Or.parts) c.in_err-parts-in-Or.ensures.value))

pub number_formula-returns-in_ok-at-in-Same-clause-value : goal.number_formula-returns-in_ok-at-in-Same-clause-value
number_formula-returns-in_ok-at-in-Same-clause-value t c =
    let sig = c.args.names.now.signature in
    let us = c.args.names.now.declared in
    let bs = c.args.binders.now in
    let old = c.args.cells.now in
    let mid = c.number_sides.new.cells in
    let new = c.put_same.new.self in
    let at = c.in_ok-at-in-Same.at in
    subst (λ (f : Formula). Puts (NumbersFormula sig us bs f) old new at) (sym c.in-Same.is)
    (puts_more (NumbersFormula sig us bs (Same c.in-Same.left c.in-Same.right)) old mid new at (node.Same (term_at mid c.in_ok-a-in-Same.a) (term_at mid c.in_ok-a-in-Same.b)) c.in_ok-a-in-Same.ensures.grows c.in_ok-at-in-Same.ensures.put (same_numbered sig us bs c.in-Same.left c.in-Same.right (term_at mid c.in_ok-a-in-Same.a) (term_at mid c.in_ok-a-in-Same.b) c.in_ok-a-in-Same.ensures.holds))

pub number_formula-returns-in_ok-at-in-Differ-clause-value : goal.number_formula-returns-in_ok-at-in-Differ-clause-value
number_formula-returns-in_ok-at-in-Differ-clause-value t c =
    let sig = c.args.names.now.signature in
    let us = c.args.names.now.declared in
    let bs = c.args.binders.now in
    let old = c.args.cells.now in
    let mid = c.number_sides-in-Differ.new.cells in
    let new = c.put_differ.new.self in
    let at = c.in_ok-at-in-Differ.at in
    subst (λ (f : Formula). Puts (NumbersFormula sig us bs f) old new at) (sym c.in-Differ.is)
    (puts_more (NumbersFormula sig us bs (Differ c.in-Differ.left c.in-Differ.right)) old mid new at (node.Differ (term_at mid c.in_ok-a-in-Differ.a) (term_at mid c.in_ok-a-in-Differ.b)) c.in_ok-a-in-Differ.ensures.grows c.in_ok-at-in-Differ.ensures.put (differ_numbered sig us bs c.in-Differ.left c.in-Differ.right (term_at mid c.in_ok-a-in-Differ.a) (term_at mid c.in_ok-a-in-Differ.b) c.in_ok-a-in-Differ.ensures.holds))

pub number_formula-returns-in_ok-at-in-Not-clause-value : goal.number_formula-returns-in_ok-at-in-Not-clause-value
number_formula-returns-in_ok-at-in-Not-clause-value t c =
    let sig = c.args.names.now.signature in
    let us = c.args.names.now.declared in
    let bs = c.args.binders.now in
    let is : c.args.formula.now ≡ Not c.get.result.now = c.in-Not.is ∙ ap Not (sym c.get.ensures) in
    let old = c.args.cells.now in
    let mid = c.number_formula.new.cells in
    let new = c.put_not.new.self in
    let at = c.in_ok-at-in-Not.at in
    subst (λ (f : Formula). Puts (NumbersFormula sig us bs f) old new at) (sym is)
    (puts_more (NumbersFormula sig us bs (Not c.get.result.now)) old mid new at (NodeNot (node_at mid c.in_ok-part-in-Not.part)) c.in_ok-part-in-Not.ensures.value.grows c.in_ok-at-in-Not.ensures.put (not_numbered sig us bs c.get.result.now (node_at mid c.in_ok-part-in-Not.part) c.in_ok-part-in-Not.ensures.value.holds))

pub number_formula-returns-in_ok-at-in-And-clause-value : goal.number_formula-returns-in_ok-at-in-And-clause-value
number_formula-returns-in_ok-at-in-And-clause-value t c =
    let sig = c.args.names.now.signature in
    let us = c.args.names.now.declared in
    let bs = c.args.binders.now in
    let old = c.args.cells.now in
    let mid = c.number_formulas.new.cells in
    let new = c.put_and.new.self in
    let at = c.in_ok-at-in-And.at in
    subst (λ (f : Formula). Puts (NumbersFormula sig us bs f) old new at) (sym c.in-And.is)
    (puts_more (NumbersFormula sig us bs (And c.in-And.parts)) old mid new at (node.And (map (node_at mid) c.as_slice.result.now)) c.in_ok-parts-in-And.ensures.value.grows c.in_ok-at-in-And.ensures.put (and_numbered sig us bs c.in-And.parts (map (node_at mid) c.as_slice.result.now) (rw c.as_slice.ensures c.in_ok-parts-in-And.ensures.value.holds)))

pub number_formula-returns-in_ok-at-in-Or-clause-value : goal.number_formula-returns-in_ok-at-in-Or-clause-value
number_formula-returns-in_ok-at-in-Or-clause-value t c =
    let sig = c.args.names.now.signature in
    let us = c.args.names.now.declared in
    let bs = c.args.binders.now in
    let old = c.args.cells.now in
    let mid = c.number_formulas-in-Or.new.cells in
    let new = c.put_or.new.self in
    let at = c.in_ok-at-in-Or.at in
    subst (λ (f : Formula). Puts (NumbersFormula sig us bs f) old new at) (sym c.in-Or.is)
    (puts_more (NumbersFormula sig us bs (Or c.in-Or.parts)) old mid new at (node.Or (map (node_at mid) c.as_slice-in-Or.result.now)) c.in_ok-parts-in-Or.ensures.value.grows c.in_ok-at-in-Or.ensures.put (or_numbered sig us bs c.in-Or.parts (map (node_at mid) c.as_slice-in-Or.result.now) (rw c.as_slice-in-Or.ensures c.in_ok-parts-in-Or.ensures.value.holds)))

pub number_formula-returns-in-Quant-clause-value : goal.number_formula-returns-in-Quant-clause-value
number_formula-returns-in-Quant-clause-value t c =
    let is : c.args.formula.now ≡ Quant1 c.in-Quant.quantifier c.in-Quant.name c.in-Quant.sort c.get-in-Quant.result.now = c.in-Quant.is ∙ Quant_is _ _ _ _ ∙ (λ i. Quant1 c.in-Quant.quantifier c.in-Quant.name c.in-Quant.sort (sym c.get-in-Quant.ensures i)) in
    rw is c.number_quantified.ensures.value

pub number_formula-returns-in-Modal-clause-value : goal.number_formula-returns-in-Modal-clause-value
number_formula-returns-in-Modal-clause-value t c =
    let is : c.args.formula.now ≡ Modal1 c.in-Modal.mode c.in-Modal.index c.get-in-Modal.result.now = c.in-Modal.is ∙ Modal_is _ _ _ ∙ (λ i. Modal1 c.in-Modal.mode c.in-Modal.index (sym c.get-in-Modal.ensures i)) in
    rw is c.number_modal.ensures.value

pub number_formulas-returns-in_err-part-clause-value : goal.number_formulas-returns-in_err-part-clause-value
number_formulas-returns-in_err-part-clause-value t c =
    let sig = c.args.names.now.signature in
    let us = c.args.names.now.declared in
    let bs = c.args.binders.now in
    let fs = c.as_slice-formula-items.result.now in
    let i = c.loop-formula.formula-index in
    let f = c.formula-item.result in
    let e = c.in_err-part.field-0.0 in
    let split : drop i fs ≡ f ∷ drop (i + 1) fs = at_drop_more (λ l. l) fs i f c.loop-formula-test.true ∙ ap (λ x. x ∷ drop (i + 1) fs) (sym c.formula-item.is) in
    let same : fs ≡ c.args.formulas.now = c.as_slice-formula-items.ensures in
    let here : IsFault (formula_fault (modal_language sig) us (bound_in sig bs) f) e = subst (λ (b : Scope). IsFault (formula_fault (modal_language sig) us (bound_in sig b) f) e) c.loop-formula.invariant.same c.in_err-part.ensures.value in
    refused_with _ _ _ e c.from_residual-in_err-part.ensures.1
    (fault_is _ _ e (c.loop-formula.invariant.faults ∙ ap (λ l. formulas_faults sig us bs (drop i l)) (sym same) ∙ ap (formulas_faults sig us bs) split) (fault_first _ _ e here))

pub number_formulas-loop-formula-preserved : goal.number_formulas-loop-formula-preserved
number_formulas-loop-formula-preserved t c =
    let sig = c.args.names.now.signature in
    let us = c.args.names.now.declared in
    let bs = c.args.binders.now in
    let fs = c.as_slice-formula-items.result.now in
    let all = c.args.formulas.now in
    let i = c.loop-formula.formula-index in
    let f = c.formula-item.result in
    let split : drop i fs ≡ f ∷ drop (i + 1) fs = at_drop_more (λ l. l) fs i f c.loop-formula-test.true ∙ ap (λ x. x ∷ drop (i + 1) fs) (sym c.formula-item.is) in
    let more = (take_at_read fs i f c.loop-formula-test.true).1 in
    let same : fs ≡ all = c.as_slice-formula-items.ensures in
    let value : Puts (NumbersFormula sig us bs f) c.loop-formula.cells c.number_formula.new.cells c.in_ok-part.part =
    subst (λ (b : Scope). Puts (NumbersFormula sig us b f) c.loop-formula.cells c.number_formula.new.cells c.in_ok-part.part) c.loop-formula.invariant.same c.in_ok-part.ensures.value in
    record {
      same = c.in_ok-part.ensures.kept ∙ c.loop-formula.invariant.same;
      faults =
          c.loop-formula.invariant.faults
          ∙ ap (λ l. formulas_faults sig us bs (drop i l)) (sym same)
          ∙ ap (formulas_faults sig us bs) split
          ∙ ap (λ o. option_or o (formulas_faults sig us bs (drop (i + 1) fs))) value.holds.no_fault
          ∙ ap (λ l. formulas_faults sig us bs (drop (i + 1) l)) same;
      puts =
          subst (PutsAll (λ ns. KnowsAllIndexes sig all → named_forms sig (variables bs) ns ≡ Some (take (i + 1) all)) c.args.cells.now c.number_formula.new.cells) (sym c.in_ok-put.ensures)
          (puts_push (λ ns. KnowsAllIndexes sig all → named_forms sig (variables bs) ns ≡ Some (take i all)) (λ ns. KnowsAllIndexes sig all → named_forms sig (variables bs) ns ≡ Some (take (i + 1) all)) (NumbersFormula sig us bs f)
          (λ ns n h k known.
          let here : KnowsIndexes sig f = rw c.formula-item.is (knows_member sig fs i f c.loop-formula-test.true (rw same known)) in
          let before : named_forms sig (variables bs) ns ≡ Some (take i fs) = h known ∙ ap (λ l. Some (take i l)) (sym same) in
          forms_push sig (variables bs) ns (take i fs) n f before (k.named here)
          ∙ ap Some (ap (λ x. take i fs ++ x ∷ []) c.formula-item.is ∙ sym more)
          ∙ ap (λ l. Some (take (i + 1) l)) same)
          c.args.cells.now c.loop-formula.cells c.number_formula.new.cells c.loop-formula.parts c.in_ok-part.part c.loop-formula.invariant.puts value);
    }

pub number_modal-returns-clause-value : goal.number_modal-returns-clause-value
number_modal-returns-clause-value t c =
    let sig = c.args.names.now.signature in
    let us = c.args.names.now.declared in
    let bs = c.args.binders.now in
    let mid = c.number_formula.new.cells in
    let n = node_at mid c.in_ok-part.part in
    let k = c.found_index-number.result in
    let h = c.in_ok-part.ensures.value in
    puts_more (NumbersFormula sig us bs (Modal1 c.args.mode c.args.index.now c.args.body.now)) c.args.cells.now mid c.put_modal.new.self c.in_ok-at.at (NodeModal c.args.mode k n) h.grows c.in_ok-at.ensures.put
    (modal_numbered sig us bs c.args.mode c.args.index.now c.args.body.now k n c.found_index-number.ensures h.holds)

pub number_formula-returns-in_err-a-in-Pair-clause-value : goal.number_formula-returns-in_err-a-in-Pair-clause-value
number_formula-returns-in_err-a-in-Pair-clause-value t c =
    let sig = c.args.names.now.signature in
    let us = c.args.names.now.declared in
    let bs = c.args.binders.now in
    let e = c.in_err-a-in-Pair.field-0.0 in
    let f = c.get-in-Pair.result.now in
    let g = c.in-Pair.right in
    let is : c.args.formula.now ≡ Pair2 c.in-Pair.op f g = c.in-Pair.is ∙ Pair_is _ _ _ ∙ (λ i. Pair2 c.in-Pair.op (sym c.get-in-Pair.ensures i) g) in
    refused_with _ _ _ e c.from_residual-in_err-a-in-Pair.ensures.1
    (subst (λ (x : Formula). IsFault (formula_fault (modal_language sig) us (bound_in sig bs) x) e) (sym is) (pair_first sig us bs c.in-Pair.op f g e c.in_err-a-in-Pair.ensures.value))

pub number_formula-returns-in_err-b-in-Pair-clause-value : goal.number_formula-returns-in_err-b-in-Pair-clause-value
number_formula-returns-in_err-b-in-Pair-clause-value t c =
    let sig = c.args.names.now.signature in
    let us = c.args.names.now.declared in
    let bs = c.args.binders.now in
    let e = c.in_err-b-in-Pair.field-0.0 in
    let f = c.get-in-Pair.result.now in
    let g = c.get-in-Pair-2.result.now in
    let is : c.args.formula.now ≡ Pair2 c.in-Pair.op f g = c.in-Pair.is ∙ Pair_is _ _ _ ∙ (λ i. Pair2 c.in-Pair.op (sym c.get-in-Pair.ensures i) (sym c.get-in-Pair-2.ensures i)) in
    refused_with _ _ _ e c.from_residual-in_err-b-in-Pair.ensures.1
    (subst (λ (x : Formula). IsFault (formula_fault (modal_language sig) us (bound_in sig bs) x) e) (sym is)
    (pair_second sig us bs c.in-Pair.op f g (node_at c.number_formula-in-Pair.new.cells c.in_ok-a-in-Pair.a) e c.in_ok-a-in-Pair.ensures.value.holds
    (subst (λ (b : Scope). IsFault (formula_fault (modal_language sig) us (bound_in sig b) g) e) c.in_ok-a-in-Pair.ensures.kept c.in_err-b-in-Pair.ensures.value)))

pub number_formula-returns-in_ok-at-in-Pair-clause-value : goal.number_formula-returns-in_ok-at-in-Pair-clause-value
number_formula-returns-in_ok-at-in-Pair-clause-value t c =
    let sig = c.args.names.now.signature in
    let us = c.args.names.now.declared in
    let bs = c.args.binders.now in
    let old = c.args.cells.now in
    let one = c.number_formula-in-Pair.new.cells in
    let mid = c.number_formula-in-Pair-2.new.cells in
    let new = c.put_pair.new.self in
    let at = c.in_ok-at-in-Pair.at in
    let f = c.get-in-Pair.result.now in
    let g = c.get-in-Pair-2.result.now in
    let a = c.in_ok-a-in-Pair.a in
    let b = c.in_ok-b-in-Pair.b in
    let is : c.args.formula.now ≡ Pair2 c.in-Pair.op f g = c.in-Pair.is ∙ Pair_is _ _ _ ∙ (λ i. Pair2 c.in-Pair.op (sym c.get-in-Pair.ensures i) (sym c.get-in-Pair-2.ensures i)) in
    let h = c.in_ok-a-in-Pair.ensures.value in
    let k : Puts (NumbersFormula sig us bs g) one mid b = subst (λ (s : Scope). Puts (NumbersFormula sig us s g) one mid b) c.in_ok-a-in-Pair.ensures.kept c.in_ok-b-in-Pair.ensures.value in
    let left : NumbersFormula sig us bs f (node_at mid a) = subst (NumbersFormula sig us bs f) (sym (node_kept one mid k.grows a h.formula)) h.holds in
    subst (λ (x : Formula). Puts (NumbersFormula sig us bs x) old new at) (sym is)
    (puts_more (NumbersFormula sig us bs (Pair2 c.in-Pair.op f g)) old mid new at (NodePair c.in-Pair.op (node_at mid a) (node_at mid b)) (grows_twice old one mid h.grows k.grows) c.in_ok-at-in-Pair.ensures.put
    (pair_numbered sig us bs c.in-Pair.op f g (node_at mid a) (node_at mid b) left k.holds))

pub number_quantified-returns-in_err-part-in-Some-clause-value : goal.number_quantified-returns-in_err-part-in-Some-clause-value
number_quantified-returns-in_err-part-in-Some-clause-value t c =
    let sig = c.args.names.now.signature in
    let us = c.args.names.now.declared in
    let bs = c.args.binders.now in
    let e = c.in_err-part-in-Some.field-0.0 in
    refused_with _ _ _ e c.from_residual.ensures.1 (quantified_refused sig us bs c.args.quantifier c.args.name.now c.args.sort.now c.args.body.now c.in-Some.number c.in-Some.ensures e c.in_err-part-in-Some.ensures.value)

pub number_quantified-returns-in_ok-at-in-Some-clause-value : goal.number_quantified-returns-in_ok-at-in-Some-clause-value
number_quantified-returns-in_ok-at-in-Some-clause-value t c =
    let sig = c.args.names.now.signature in
    let us = c.args.names.now.declared in
    let bs = c.args.binders.now in
    let mid = c.number_under.new.cells in
    let n = node_at mid c.in_ok-part-in-Some.part in
    let h = c.in_ok-part-in-Some.ensures.value in
    puts_more (NumbersFormula sig us bs (Quant1 c.args.quantifier c.args.name.now c.args.sort.now c.args.body.now)) c.args.cells.now mid c.put_quant.new.self c.in_ok-at-in-Some.at (NodeQuant c.args.quantifier c.in-Some.number c.args.name.now n) h.grows c.in_ok-at-in-Some.ensures.put
    (quantified_numbered sig us bs c.args.quantifier c.args.name.now c.args.sort.now c.args.body.now c.in-Some.number c.in-Some.ensures n h.holds)

pub number_under-returns-in_err-at-clause-value : goal.number_under-returns-in_err-at-clause-value
number_under-returns-in_err-at-clause-value t c =
    let sig = c.args.names.now.signature in
    let us = c.args.names.now.declared in
    let e = c.in_err-at.field-0.0 in
    refused_with _ _ _ e c.from_residual-in_err-at.ensures.1
    (subst (λ (b : Scope). IsFault (formula_fault (modal_language sig) us (bound_in sig b) c.args.body.now) e) c.in_ok-enter.ensures c.in_err-at.ensures.value)
