use Rattle.std.proofs.Common.{◌≡◌, [], ◌∷◌, ◌++◌, ap, ◌∙◌, subst}
use Rattle.std.proofs.lemmas.Result.{on_ok_weaker}
use Rattle.formula_cells.specs.Stored.{formulas_in, node_at}
use Rattle.formula_cells.specs.Putting.{Puts}
use Rattle.classical_numbering.specs.steps.Numbering.{NamesFormula}
use Rattle.classical_numbering.proofs.ProblemLemmas.{one_added}
use Rattle.classical_numbering.proofs.problem.add_formula.Goals as goal

pub returns : goal.returns
returns c =
    let csig = c.args.names.now.over.now in
    let old = c.args.cells.now in
    let mid = c.number_formula.new.cells in
    let new = c.add.new.self in
    let f = c.args.formula.now in
    let cell = c.in_ok-cell.cell in
    let h : Puts (NamesFormula csig [] f) old mid cell = subst (λ ys. Puts (NamesFormula csig ys f) old mid cell) c.new-binders.ensures.items c.in_ok-cell.ensures.put in
    let n = node_at mid cell in
    on_ok_weaker c.add.result (λ added.
    let is : formulas_in new ≡ formulas_in old ++ record { place = 0; name = c.args.word.now; node = n } ∷ [] =
    added ∙ ap (λ fs. fs ++ record { place = 0; name = c.in_ok-copy.field-0; node = n } ∷ []) h.grows.formulas
    ∙ ap (λ x. formulas_in old ++ record { place = 0; name = x; node = n } ∷ []) c.in_ok-copy.ensures in
    one_added csig old new 0 c.args.word.now f n is h.holds c.requires) c.add.ensures.added
