use Rattle.std.proofs.Common.{◌≡◌, ◌+◌, [], ◌∷◌, ◌++◌, take, map, Some, sym, ap, ◌∙◌, subst, arith}
use Rattle.std.specs.Option.{option_map}
use Rattle.std.proofs.lemmas.Grind.{take_at_read}
use Rattle.std.proofs.lemmas.Result.{IfOk-weaker}
use Rattle.nxf_tree.specs.declared.tree.Formula.{Same, Differ, Not}
use Rattle.nxf_tree.specs.Depth.{formula_depth, formula_list_depth}
use Rattle.nxf_tree.proofs.CallerLemmas.{formula_depth_of_And, formula_depth_of_Not, formula_depth_of_Or, formula_depth_of_Pair, formula_depth_of_Quant}
use Rattle.nxf_tree.specs.Shapes.{Pair2, Quant1, Pair_is, Quant_is}
use Rattle.numbered_definitions.specs.declared.node.Node as node
use Rattle.numbered_definitions.specs.NamedForm.{NodeNot, NodePair, NodeQuant, both}
use Rattle.formula_cells.specs.Stored.{node_at, term_at}
use Rattle.formula_cells.specs.Putting.{AddsNode, Puts, PutsAll}
use Rattle.formula_cells.proofs.CallerLemmas.{grows_twice, node_kept, puts_more, puts_push}
use Rattle.classical_evaluation_definitions.specs.ClassicalForm.{named_form, named_forms}
use Rattle.classical_numbering.specs.steps.Numbering.{IsSortedUnder, AreSortedUnder, NamesFormula, NamesFormulas, PutsSides}
use Rattle.classical_numbering.proofs.NameLemmas.{sort_found}
use Rattle.classical_numbering.proofs.SortLemmas.{not_part, and_parts, or_parts, part_at, pair_parts, bound_sort_known, body_sorted, no_modality}
use Rattle.classical_numbering.proofs.FormulaLemmas.{formula_within, named_And, named_Or, named_Pair, named_Quant, forms_push}
use Rattle.classical_numbering.proofs.formulas.+number_formula.Goals as goal
use Rattle.classical_numbering.proofs.formulas.+number_formula.Goals.{number_formula-After-get-in-Pair}

pub number_formula-number_formula-requires : goal.number_formula-number_formula-requires
number_formula-number_formula-requires t c =
    let csig = c.args.names.now.over.now in
    let xs = c.args.binders.now.items in
    (omega (arith, c.decreases, ap formula_depth c.in-Not.is, formula_depth_of_Not c.in-Not.part, ap formula_depth c.get-in-Not.ensures), subst (IsSortedUnder csig xs) (sym c.get-in-Not.ensures) (not_part csig xs c.in-Not.part (subst (IsSortedUnder csig xs) c.in-Not.is c.requires)))

pub number_formula-number_formulas-requires : goal.number_formula-number_formulas-requires
number_formula-number_formulas-requires t c =
    let csig = c.args.names.now.over.now in
    let xs = c.args.binders.now.items in
    (omega (arith, c.decreases, ap formula_depth c.in-And.is, formula_depth_of_And c.in-And.parts, ap formula_list_depth c.as_slice-in-And.ensures), subst (AreSortedUnder csig xs) (sym c.as_slice-in-And.ensures) (and_parts csig xs c.in-And.parts (subst (IsSortedUnder csig xs) c.in-And.is c.requires)))

pub number_formula-number_formulas-requires-in-Or : goal.number_formula-number_formulas-requires-in-Or
number_formula-number_formulas-requires-in-Or t c =
    let csig = c.args.names.now.over.now in
    let xs = c.args.binders.now.items in
    (omega (arith, c.decreases, ap formula_depth c.in-Or.is, formula_depth_of_Or c.in-Or.parts, ap formula_list_depth c.as_slice-in-Or.ensures), subst (AreSortedUnder csig xs) (sym c.as_slice-in-Or.ensures) (or_parts csig xs c.in-Or.parts (subst (IsSortedUnder csig xs) c.in-Or.is c.requires)))

pub number_formula-number_formula-requires-in-Pair : goal.number_formula-number_formula-requires-in-Pair
number_formula-number_formula-requires-in-Pair t c =
    let csig = c.args.names.now.over.now in
    let xs = c.args.binders.now.items in
    let parts = pair_parts csig xs c.in-Pair.op c.in-Pair.left c.in-Pair.right (subst (IsSortedUnder csig xs) (c.in-Pair.is ∙ Pair_is _ _ _) c.requires) in
    (omega (arith, c.decreases, ap formula_depth c.in-Pair.is, formula_depth_of_Pair c.in-Pair.op c.in-Pair.left c.in-Pair.right, ap formula_depth c.get-in-Pair.ensures), subst (IsSortedUnder csig xs) (sym c.get-in-Pair.ensures) parts.0)

pub number_formula-number_formula-requires-in-Pair-2 : goal.number_formula-number_formula-requires-in-Pair-2
number_formula-number_formula-requires-in-Pair-2 t c =
    let csig = c.args.names.now.over.now in
    let xs = c.args.binders.now.items in
    let parts = pair_parts csig xs c.in-Pair.op c.in-Pair.left c.in-Pair.right (subst (IsSortedUnder csig xs) (c.in-Pair.is ∙ Pair_is _ _ _) c.requires) in
    (omega (arith, c.decreases, ap formula_depth c.in-Pair.is, formula_depth_of_Pair c.in-Pair.op c.in-Pair.left c.in-Pair.right, ap formula_depth c.get-in-Pair-2.ensures), subst (λ ys. IsSortedUnder csig ys c.get-in-Pair-2.result.now) (sym c.in_ok-left-in-Pair.ensures.kept) (subst (IsSortedUnder csig xs) (sym c.get-in-Pair-2.ensures) parts.1))

pub number_formula-number_quantified-requires : goal.number_formula-number_quantified-requires
number_formula-number_quantified-requires t c =
    let csig = c.args.names.now.over.now in
    let xs = c.args.binders.now.items in
    let q = c.in-Quant in
    let is : c.args.formula.now ≡ Quant1 q.quantifier q.name q.sort c.get-in-Quant.result.now = q.is ∙ Quant_is _ _ _ _ ∙ ap (Quant1 q.quantifier q.name q.sort) (sym c.get-in-Quant.ensures) in
    (omega (arith, c.decreases, ap formula_depth q.is, formula_depth_of_Quant q.quantifier q.name q.sort q.body, ap formula_depth c.get-in-Quant.ensures), subst (IsSortedUnder csig xs) is c.requires)

pub number_formula-unreachable-requires : goal.number_formula-unreachable-requires
number_formula-unreachable-requires t c =
    let csig = c.args.names.now.over.now in
    let xs = c.args.binders.now.items in
    no_modality csig xs c.in-Modal.field-0 c.in-Modal.field-1 c.in-Modal.field-2 (subst (IsSortedUnder csig xs) c.in-Modal.is c.requires)

pub number_formula-returns-in_ok-left-in-Same-clause-put : goal.number_formula-returns-in_ok-left-in-Same-clause-put
number_formula-returns-in_ok-left-in-Same-clause-put t c =
    let csig = c.args.names.now.over.now in
    let xs = c.args.binders.now.items in
    let old = c.args.cells.now in
    let mid = c.number_sides.new.cells in
    let new = c.put_same.new.self in
    let f = c.args.formula.now in
    let n = node.Same (term_at mid c.in_ok-left-in-Same.left) (term_at mid c.in_ok-left-in-Same.right) in
    let h : PutsSides csig c.as_slice-in-Same.result.now c.get.result.now c.get-in-Same.result.now old mid (c.in_ok-left-in-Same.left, c.in_ok-left-in-Same.right) = c.in_ok-left-in-Same.ensures in
    let k : PutsSides csig xs c.in-Same.left c.in-Same.right old mid (c.in_ok-left-in-Same.left, c.in_ok-left-in-Same.right) = rw (← c.as_slice-in-Same.ensures.value, ← c.get.ensures, ← c.get-in-Same.ensures) h in
    let named : named_form csig xs n ≡ Some f = (λ i. both Same (k.left i) (k.right i)) ∙ ap Some (sym c.in-Same.is) in
    IfOk-weaker c.put_same.result (λ at. AddsNode mid new at n) (Puts (NamesFormula csig xs f) old new) (λ at p. puts_more (NamesFormula csig xs f) old mid new at n h.grows p named) c.put_same.ensures.put

pub number_formula-returns-in_ok-left-in-Differ-clause-put : goal.number_formula-returns-in_ok-left-in-Differ-clause-put
number_formula-returns-in_ok-left-in-Differ-clause-put t c =
    let csig = c.args.names.now.over.now in
    let xs = c.args.binders.now.items in
    let old = c.args.cells.now in
    let mid = c.number_sides-in-Differ.new.cells in
    let new = c.put_differ.new.self in
    let f = c.args.formula.now in
    let n = node.Differ (term_at mid c.in_ok-left-in-Differ.left) (term_at mid c.in_ok-left-in-Differ.right) in
    let h : PutsSides csig c.as_slice-in-Differ.result.now c.get-in-Differ.result.now c.get-in-Differ-2.result.now old mid (c.in_ok-left-in-Differ.left, c.in_ok-left-in-Differ.right) = c.in_ok-left-in-Differ.ensures in
    let k : PutsSides csig xs c.in-Differ.left c.in-Differ.right old mid (c.in_ok-left-in-Differ.left, c.in_ok-left-in-Differ.right) = rw (← c.as_slice-in-Differ.ensures.value, ← c.get-in-Differ.ensures, ← c.get-in-Differ-2.ensures) h in
    let named : named_form csig xs n ≡ Some f = (λ i. both Differ (k.left i) (k.right i)) ∙ ap Some (sym c.in-Differ.is) in
    IfOk-weaker c.put_differ.result (λ at. AddsNode mid new at n) (Puts (NamesFormula csig xs f) old new) (λ at p. puts_more (NamesFormula csig xs f) old mid new at n h.grows p named) c.put_differ.ensures.put

pub number_formula-returns-in_ok-part-in-Not-clause-put : goal.number_formula-returns-in_ok-part-in-Not-clause-put
number_formula-returns-in_ok-part-in-Not-clause-put t c =
    let csig = c.args.names.now.over.now in
    let xs = c.args.binders.now.items in
    let old = c.args.cells.now in
    let mid = c.number_formula.new.cells in
    let new = c.put_not.new.self in
    let f = c.args.formula.now in
    let n = NodeNot (node_at mid c.in_ok-part-in-Not.part) in
    let h : Puts (NamesFormula csig xs c.get-in-Not.result.now) old mid c.in_ok-part-in-Not.part = c.in_ok-part-in-Not.ensures.put in
    let named : named_form csig xs n ≡ Some f = ap (option_map Not) h.holds ∙ ap (λ g. Some (Not g)) c.get-in-Not.ensures ∙ ap Some (sym c.in-Not.is) in
    IfOk-weaker c.put_not.result (λ at. AddsNode mid new at n) (Puts (NamesFormula csig xs f) old new) (λ at p. puts_more (NamesFormula csig xs f) old mid new at n h.grows p named) c.put_not.ensures.put

pub number_formula-returns-in_ok-parts-in-And-clause-put : goal.number_formula-returns-in_ok-parts-in-And-clause-put
number_formula-returns-in_ok-parts-in-And-clause-put t c =
    let csig = c.args.names.now.over.now in
    let xs = c.args.binders.now.items in
    let old = c.args.cells.now in
    let mid = c.number_formulas.new.cells in
    let new = c.put_and.new.self in
    let f = c.args.formula.now in
    let parts = c.as_slice-in-And-2.result.now in
    let n = node.And (map (node_at mid) parts) in
    let h : PutsAll (NamesFormulas csig xs c.as_slice-in-And.result.now) old mid c.in_ok-parts-in-And.parts = c.in_ok-parts-in-And.ensures.put in
    let holds : named_forms csig xs (map (node_at mid) parts) ≡ Some c.in-And.parts =
    ap (λ l. named_forms csig xs (map (node_at mid) l)) c.as_slice-in-And-2.ensures ∙ h.holds ∙ ap Some c.as_slice-in-And.ensures in
    let named : named_form csig xs n ≡ Some f = named_And csig xs (map (node_at mid) parts) c.in-And.parts holds ∙ ap Some (sym c.in-And.is) in
    IfOk-weaker c.put_and.result (λ at. AddsNode mid new at n) (Puts (NamesFormula csig xs f) old new) (λ at p. puts_more (NamesFormula csig xs f) old mid new at n h.grows p named) c.put_and.ensures.put

pub number_formula-returns-in_ok-parts-in-Or-clause-put : goal.number_formula-returns-in_ok-parts-in-Or-clause-put
number_formula-returns-in_ok-parts-in-Or-clause-put t c =
    let csig = c.args.names.now.over.now in
    let xs = c.args.binders.now.items in
    let old = c.args.cells.now in
    let mid = c.number_formulas-in-Or.new.cells in
    let new = c.put_or.new.self in
    let f = c.args.formula.now in
    let parts = c.as_slice-in-Or-2.result.now in
    let n = node.Or (map (node_at mid) parts) in
    let h : PutsAll (NamesFormulas csig xs c.as_slice-in-Or.result.now) old mid c.in_ok-parts-in-Or.parts = c.in_ok-parts-in-Or.ensures.put in
    let holds : named_forms csig xs (map (node_at mid) parts) ≡ Some c.in-Or.parts =
    ap (λ l. named_forms csig xs (map (node_at mid) l)) c.as_slice-in-Or-2.ensures ∙ h.holds ∙ ap Some c.as_slice-in-Or.ensures in
    let named : named_form csig xs n ≡ Some f = named_Or csig xs (map (node_at mid) parts) c.in-Or.parts holds ∙ ap Some (sym c.in-Or.is) in
    IfOk-weaker c.put_or.result (λ at. AddsNode mid new at n) (Puts (NamesFormula csig xs f) old new) (λ at p. puts_more (NamesFormula csig xs f) old mid new at n h.grows p named) c.put_or.ensures.put

pub number_formula-returns-in_ok-right-in-Pair-clause-put : goal.number_formula-returns-in_ok-right-in-Pair-clause-put
number_formula-returns-in_ok-right-in-Pair-clause-put t c =
    let csig = c.args.names.now.over.now in
    let xs = c.args.binders.now.items in
    let old = c.args.cells.now in
    let one = c.number_formula-in-Pair.new.cells in
    let mid = c.number_formula-in-Pair-2.new.cells in
    let new = c.put_pair.new.self in
    let all = c.args.formula.now in
    let op = c.in-Pair.op in
    let f = c.get-in-Pair.result.now in
    let g = c.get-in-Pair-2.result.now in
    let a = c.in_ok-left-in-Pair.left in
    let b = c.in_ok-right-in-Pair.right in
    let n = NodePair op (node_at mid a) (node_at mid b) in
    let h : Puts (NamesFormula csig xs f) old one a = c.in_ok-left-in-Pair.ensures.put in
    let k : Puts (NamesFormula csig xs g) one mid b = subst (λ ys. Puts (NamesFormula csig ys g) one mid b) c.in_ok-left-in-Pair.ensures.kept c.in_ok-right-in-Pair.ensures.put in
    let left : NamesFormula csig xs f (node_at mid a) = subst (NamesFormula csig xs f) (sym (node_kept one mid k.grows a h.formula)) h.holds in
    let is : all ≡ Pair2 op f g = c.in-Pair.is ∙ Pair_is _ _ _ ∙ (λ i. Pair2 op (sym c.get-in-Pair.ensures i) (sym c.get-in-Pair-2.ensures i)) in
    let named : named_form csig xs n ≡ Some all = named_Pair csig xs op f g (node_at mid a) (node_at mid b) left k.holds ∙ ap Some (sym is) in
    let grown = grows_twice old one mid h.grows k.grows in
    IfOk-weaker c.put_pair.result (λ at. AddsNode mid new at n) (Puts (NamesFormula csig xs all) old new) (λ at p. puts_more (NamesFormula csig xs all) old mid new at n grown p named) c.put_pair.ensures.put

pub number_formula-returns-in-Quant-clause-put : goal.number_formula-returns-in-Quant-clause-put
number_formula-returns-in-Quant-clause-put t c =
    let csig = c.args.names.now.over.now in
    let xs = c.args.binders.now.items in
    let old = c.args.cells.now in
    let new = c.number_quantified.new.cells in
    let q = c.in-Quant in
    let is : c.args.formula.now ≡ Quant1 q.quantifier q.name q.sort c.get-in-Quant.result.now = q.is ∙ Quant_is _ _ _ _ ∙ ap (Quant1 q.quantifier q.name q.sort) (sym c.get-in-Quant.ensures) in
    IfOk-weaker c.number_quantified.result (Puts (NamesFormula csig xs (Quant1 q.quantifier q.name q.sort c.get-in-Quant.result.now)) old new) (Puts (NamesFormula csig xs c.args.formula.now) old new)
    (λ at p. subst (λ f. Puts (NamesFormula csig xs f) old new at) (sym is) p) c.number_quantified.ensures.put

pub number_formulas-loop-formula-preserved : goal.number_formulas-loop-formula-preserved
number_formulas-loop-formula-preserved t c =
    let csig = c.args.names.now.over.now in
    let xs = c.args.binders.now.items in
    let formulas = c.args.formulas.now in
    let i = c.loop-formula.formula-index in
    let f = c.formula-item.result in
    let more : take (i + 1) formulas ≡ take i formulas ++ f ∷ [] = (take_at_read formulas i f c.loop-formula-test.true).1 ∙ ap (λ x. take i formulas ++ x ∷ []) (sym c.formula-item.is) in
    let one : Puts (NamesFormula csig xs f) c.loop-formula.cells c.number_formula.new.cells c.in_ok-part.part =
    subst (λ ys. Puts (NamesFormula csig ys f) c.loop-formula.cells c.number_formula.new.cells c.in_ok-part.part) c.loop-formula.invariant.same c.in_ok-part.ensures.put in
    record {
      same = c.in_ok-part.ensures.kept ∙ c.loop-formula.invariant.same;
      puts =
          subst (PutsAll (NamesFormulas csig xs (take (i + 1) formulas)) c.args.cells.now c.number_formula.new.cells) (sym c.in_ok-push.ensures.pushed)
          (puts_push (NamesFormulas csig xs (take i formulas)) (NamesFormulas csig xs (take (i + 1) formulas)) (NamesFormula csig xs f)
          (λ ns n h k. forms_push csig xs ns (take i formulas) n f h k ∙ ap Some (sym more))
          c.args.cells.now c.loop-formula.cells c.number_formula.new.cells c.loop-formula.parts c.in_ok-part.part c.loop-formula.invariant.puts one);
    }

pub number_quantified-unreachable-requires : goal.number_quantified-unreachable-requires
number_quantified-unreachable-requires t c =
    bound_sort_known c.args.names.now.over.now c.args.binders.now.items c.args.quantifier c.args.name.now c.args.sort.now c.args.body.now c.requires (sym c.sort.ensures.number ∙ c.in_default.is)

pub number_quantified-number_formula-requires : goal.number_quantified-number_formula-requires
number_quantified-number_formula-requires t c =
    let csig = c.args.names.now.over.now in
    let xs = c.args.binders.now.items in
    (omega (arith, c.decreases), subst (λ ys. IsSortedUnder csig ys c.args.body.now) (sym c.in_ok-enter.ensures) (body_sorted csig xs c.args.quantifier c.args.name.now c.args.sort.now c.args.body.now c.requires))

pub number_formulas-number_formula-requires : goal.number_formulas-number_formula-requires
number_formulas-number_formula-requires t c =
    let csig = c.args.names.now.over.now in
    let xs = c.args.binders.now.items in
    let formulas = c.args.formulas.now in
    let i = c.loop-formula.formula-index in
    let one = part_at csig xs formulas i c.formula-item.result c.loop-formula-test.true c.requires in (
      omega (arith, c.decreases, ap formula_depth c.formula-item.is, formula_within formulas i c.formula-item.result c.loop-formula-test.true),
      subst (λ ys. IsSortedUnder csig ys c.formula-item.result) (sym c.loop-formula.invariant.same) (subst (IsSortedUnder csig xs) (sym c.formula-item.is) one),
    )

pub number_quantified-returns-clause-put : goal.number_quantified-returns-clause-put
number_quantified-returns-clause-put t c =
    let csig = c.args.names.now.over.now in
    let xs = c.args.binders.now.items in
    let old = c.args.cells.now in
    let mid = c.number_formula.new.cells in
    let new = c.put_quant.new.self in
    let q = c.args.quantifier in
    let x = c.args.name.now in
    let s = c.args.sort.now in
    let body = c.args.body.now in
    let k = c.in-Some.number in
    let n = NodeQuant q k x (node_at mid c.in_ok-body.body) in
    let h : Puts (NamesFormula csig (xs ++ x ∷ []) body) old mid c.in_ok-body.body =
    subst (λ ys. Puts (NamesFormula csig ys body) old mid c.in_ok-body.body) c.in_ok-enter.ensures c.in_ok-body.ensures.put in
    let named = named_Quant csig xs q x s body k (node_at mid c.in_ok-body.body) (sort_found csig.sorts s k (sym c.sort.ensures.number ∙ c.in-Some.is)) h.holds in
    IfOk-weaker c.put_quant.result (λ at. AddsNode mid new at n) (Puts (NamesFormula csig xs (Quant1 q x s body)) old new)
    (λ at p. puts_more (NamesFormula csig xs (Quant1 q x s body)) old mid new at n h.grows p named) c.put_quant.ensures.put
