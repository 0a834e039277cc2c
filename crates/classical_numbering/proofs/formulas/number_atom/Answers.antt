use Rattle.std.proofs.Common.{◌≡◌, map, Some, sym, ap, ◌∙◌, subst}
use Rattle.std.proofs.lemmas.Result.{IfOk-weaker}
use Rattle.nxf_tree.specs.declared.tree.Formula.{Atom}
use Rattle.numbered_definitions.specs.declared.node.Node as node
use Rattle.formula_cells.specs.Stored.{term_at}
use Rattle.formula_cells.specs.Putting.{AddsNode, Puts, PutsTerms}
use Rattle.formula_cells.proofs.CallerLemmas.{puts_more}
use Rattle.classical_evaluation_definitions.specs.ClassicalForm.{named_terms}
use Rattle.classical_numbering.specs.steps.Numbering.{HaveSorts, NamesTerms, NamesFormula}
use Rattle.classical_numbering.proofs.NameLemmas.{symbol_found}
use Rattle.classical_numbering.proofs.SortLemmas.{predicate_known, predicate_arguments, predicate_apart}
use Rattle.classical_numbering.proofs.FormulaLemmas.{named_Atom}
use Rattle.classical_numbering.proofs.formulas.number_atom.Goals as goal

pub unreachable-requires : goal.unreachable-requires
unreachable-requires c = predicate_known c.args.names.now.over.now c.args.binders.now c.args.name.now c.args.terms.now c.requires (sym c.symbol.ensures ∙ c.in_default.is)

pub number_terms-requires : goal.number_terms-requires
number_terms-requires c =
    let csig = c.args.names.now.over.now in
    let xs = c.args.binders.now in
    subst (HaveSorts csig xs) (sym c.as_slice.ensures) (predicate_arguments csig xs c.args.name.now c.args.terms.now c.requires)

pub returns : goal.returns
returns c =
    let csig = c.args.names.now.over.now in
    let xs = c.args.binders.now in
    let old = c.args.cells.now in
    let mid = c.number_terms.new.cells in
    let new = c.put_atom.new.self in
    let args = c.as_slice-2.result.now in
    let p = c.args.name.now in
    let ts = c.args.terms.now in
    let k = c.in-Some.number in
    let h : PutsTerms (NamesTerms csig xs c.as_slice.result.now) old mid c.in_ok-args.args = c.in_ok-args.ensures in
    let holds : named_terms csig xs (map (term_at mid) args) ≡ Some ts =
    ap (λ l. named_terms csig xs (map (term_at mid) l)) c.as_slice-2.ensures ∙ h.holds ∙ ap Some c.as_slice.ensures in
    let named = named_Atom csig xs k p (map (term_at mid) args) ts (symbol_found csig p k (sym c.symbol.ensures ∙ c.in-Some.is)) (predicate_apart csig xs p ts c.requires) holds in
    IfOk-weaker c.put_atom.result (λ at. AddsNode mid new at (node.Atom k (map (term_at mid) args))) (Puts (NamesFormula csig xs (Atom p ts)) old new)
    (λ at q. puts_more (NamesFormula csig xs (Atom p ts)) old mid new at (node.Atom k (map (term_at mid) args)) h.grows q named) c.put_atom.ensures.put
