use Rattle.std.proofs.Common.{ℕ, ◌∷◌, List, sym, ap, ◌∙◌, subst}
use Rattle.fin_struct.specs.Places.{InRange}
use Rattle.fin_struct.specs.KripkeTables.{symbol_table, predicate_in}
use Rattle.formula_cells.specs.Stored.{term_at}
use Rattle.kripke_evaluation_definitions.specs.NumberedMeaning.{node_value}
use Rattle.kripke_eval.proofs.TermCases.{each_argument, map-map}
use Rattle.kripke_eval.proofs.formulas.atom.Goals as goal

pub fill-requires-clause-fits : goal.fill-requires-clause-fits
fill-requires-clause-fits g c = each_argument c.args.here.view.now c.args.here.world c.args.stack.now c.args.here.checked.now.stored c.args.terms.now c.requires.fits.0

pub holds-requires-clause-row_in : goal.holds-requires-clause-row_in
holds-requires-clause-row_in g c =
    let row = map-map (term_at c.args.here.checked.now.stored) (node_value c.args.here.view.now c.args.here.world c.args.stack.now) c.args.terms.now ∙ sym c.fill.ensures in
    subst (λ (r : List ℕ). InRange (symbol_table c.args.here.view.now c.args.symbol).sizes (c.args.here.world ∷ r)) row c.requires.fits.1.row_in

pub returns : goal.returns
returns g c =
    let row = map-map (term_at c.args.here.checked.now.stored) (node_value c.args.here.view.now c.args.here.world c.args.stack.now) c.args.terms.now ∙ sym c.fill.ensures in
    c.holds.ensures.cell ∙ ap (predicate_in c.args.here.view.now c.args.symbol c.args.here.world) (sym row)
