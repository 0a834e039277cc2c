use Rattle.std.proofs.Common.{◌≡◌, [], ◌∷◌, ◌++◌, ap, ◌∙◌, sym, subst}
use Rattle.nxf_tree.specs.Sorting.{modal_language}
use Rattle.nxf_tree.specs.SortFaults.{formula_fault}
use Rattle.formula_cells.specs.Stored.{node_at, formulas_in}
use Rattle.formula_cells.specs.Putting.{Puts}
use Rattle.nxf_sorts.specs.steps.Scope.{Scope, bound_in}
use Rattle.nxf_sorts.specs.steps.Numbering.{IsFault, NumbersFormula}
use Rattle.nxf_sorts.specs.steps.Statements.{Adds}
use Rattle.nxf_sorts.proofs.UseLemmas.{refused_with}
use Rattle.nxf_sorts.proofs.StatementLemmas.{adds}
use Rattle.nxf_sorts.proofs.statements.number_whole.Goals as goal

pub returns-in_err-cell : goal.returns-in_err-cell
returns-in_err-cell c =
    let sig = c.args.names.now.signature in
    let us = c.args.names.now.declared in
    let e = c.in_err-cell.field-0.0 in
    refused_with _ _ _ e c.from_residual.ensures.1
    (subst (λ (b : Scope). IsFault (formula_fault (modal_language sig) us (bound_in sig b) c.args.formula.now) e) c.new-binders.ensures c.in_err-cell.ensures.value)

pub returns : goal.returns
returns c =
    let sig = c.args.names.now.signature in
    let us = c.args.names.now.declared in
    let old = formulas_in c.args.cells.now in
    let n = node_at c.number_formula.new.cells c.in_ok-cell.cell in
    let value : Puts (NumbersFormula sig us [] c.args.formula.now) c.args.cells.now c.number_formula.new.cells c.in_ok-cell.cell =
    subst (λ (bs : Scope). Puts (NumbersFormula sig us bs c.args.formula.now) c.args.cells.now c.number_formula.new.cells c.in_ok-cell.cell) c.new-binders.ensures c.in_ok-cell.ensures.value in
    let is : formulas_in c.add.new.self ≡ old ++ record { place = c.args.place; name = c.args.name.now; node = n } ∷ [] =
    c.in_ok-add.ensures.added ∙ ap (λ fs. fs ++ record { place = c.args.place; name = c.in_ok-label.label; node = n } ∷ []) value.grows.formulas
    ∙ ap (λ x. old ++ record { place = c.args.place; name = x; node = n } ∷ []) c.in_ok-label.ensures in
    subst (Adds sig us c.args.place c.args.name.now c.args.formula.now old) (sym is) (adds sig us c.args.place c.args.name.now c.args.formula.now old n value.holds)
