use Rattle.std.proofs.Common.{ℕ, ◌-◌, map, sym, ap, ◌∙◌, subst}
use Rattle.std.specs.Prelude.{nat_eq}
use Rattle.nxf_tree.specs.Counting.{all_different}
use Rattle.fin_struct.specs.Cells.{cell, table_at}
use Rattle.fin_struct.specs.Places.{InRange}
use Rattle.formula_cells.specs.Stored.{term_at}
use Rattle.classical_evaluation_definitions.specs.ClassicalMeaning.{node_value, predicate_in}
use Rattle.tf0_eval.proofs.TermCases.{each_argument, map-map, predicate_row, predicate_read}
use Rattle.tf0_eval.proofs.formulas.atom.Goals as goal

pub all_differ-requires-clause-fits : goal.all_differ-requires-clause-fits
all_differ-requires-clause-fits g c = each_argument c.args.here.view.now c.args.stack.now c.args.here.prepared.now.stored c.args.terms.now c.requires.fits.0

pub returns-then-symbol-eq0 : goal.returns-then-symbol-eq0
returns-then-symbol-eq0 g c =
    let view = c.args.here.view.now in
    let s = c.args.here.prepared.now.stored in
    let value = node_value view c.args.stack.now in
    c.all_differ.ensures
    ∙ ap (all_different nat_eq) (sym (map-map (term_at s) value c.args.terms.now))
    ∙ sym (ap (λ (y : ℕ). predicate_in view y (map value (map (term_at s) c.args.terms.now))) c.if-symbol-eq0.true)

pub fill-requires-clause-fits : goal.fill-requires-clause-fits
fill-requires-clause-fits g c = each_argument c.args.here.view.now c.args.stack.now c.args.here.prepared.now.stored c.args.terms.now c.requires.fits.0

pub get-requires-clause-row_in : goal.get-requires-clause-row_in
get-requires-clause-row_in g c =
    let view = c.args.here.view.now in
    let s = c.args.here.prepared.now.stored in
    let value = node_value view c.args.stack.now in
    let row = map-map (term_at s) value c.args.terms.now ∙ sym c.fill.ensures in
    let there = predicate_row view c.args.symbol (map value (map (term_at s) c.args.terms.now)) c.if-symbol-eq0.false c.requires.fits.1 in
    subst (InRange (table_at view.tables (c.args.symbol - 1)).sizes) row there.row_in

pub returns : goal.returns
returns g c =
    let view = c.args.here.view.now in
    let s = c.args.here.prepared.now.stored in
    let value = node_value view c.args.stack.now in
    let row = map-map (term_at s) value c.args.terms.now ∙ sym c.fill.ensures in
    ap (λ (r : ℕ). nat_eq r 1) (c.get.ensures.value ∙ ap (cell (table_at view.tables (c.args.symbol - 1))) (sym row))
    ∙ sym (predicate_read view c.args.symbol (map value (map (term_at s) c.args.terms.now)) c.if-symbol-eq0.false)
