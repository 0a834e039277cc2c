use Rattle.formula_cells.specs.Stored.{term_at}
use Rattle.nxf_translate.specs.steps.Place.{term_of}
use Rattle.nxf_translate.proofs.Made.{made}
use Rattle.nxf_translate.proofs.FormCases.{same-left, same-right, same-is}
use Rattle.nxf_translate.proofs.formulas.same.Goals as goal

pub sides-requires-clause-left : goal.sides-requires-clause-left
sides-requires-clause-left c =
    let term = term_at c.args.here.checked.now.stored in
    same-left c.args.here.checked.now.signature c.args.binders.now (term c.args.left) (term c.args.right) c.requires.named

pub sides-requires-clause-right : goal.sides-requires-clause-right
sides-requires-clause-right c =
    let term = term_at c.args.here.checked.now.stored in
    same-right c.args.here.checked.now.signature c.args.binders.now (term c.args.left) (term c.args.right) c.requires.named

pub returns : goal.returns
returns c =
    let checked = c.args.here.checked.now in
    let term = term_at checked.stored in
    made _ _ _ c.equation.ensures
    (λ d. same-is checked.signature c.args.binders.now (term_of c.args.here.place) d (term c.args.left) (term c.args.right) c.in_ok-left.left c.in_ok-left.right c.in_ok-left.ensures.left c.in_ok-left.ensures.right)
