use Rattle.std.proofs.Common.{◌≡◌, ℕ, ◌+◌, ◌-◌, ◌≤◌, List, map, length, get_or, subst, sym, ap, ◌∙◌, arith, rules}
use Rattle.std.specs.List.{All}
use Rattle.std.proofs.lemmas.List.{length-map}
use Rattle.fin_struct.specs.Places.{InRange}
use Rattle.fin_struct.specs.Cells.{cell, table_at}
use Rattle.numbered_definitions.specs.declared.node.NTerm.{NTerm}
use Rattle.numbered_definitions.specs.declared.node.NTerm as term
use Rattle.formula_cells.specs.Expressions.{span_of}
use Rattle.formula_cells.specs.Stored.{IsArgument, AreArguments, term_at}
use Rattle.formula_cells.proofs.CallerLemmas.{good_read, term_read}
use Rattle.classical_evaluation_definitions.specs.ClassicalMeaning.{node_value}
use Rattle.kripke_evaluation_definitions.specs.NumberedDepth.{term_depth, terms_depth}
use Rattle.classical_evaluation_definitions.specs.ClassicalFitting.{TermFits}
use Rattle.tf0_eval.proofs.TermCases.{function_row, function_read, value_of_App, fits_of_App, AppFits, depth_of_App, argument-depth, each_argument, written}
use Rattle.tf0_eval.proofs.terms.+value_at.Goals as goal
use Rattle.tf0_eval.proofs.terms.+value_at.Goals.{value_at-In-App}

pub fill-value_at-requires : goal.fill-value_at-requires
fill-value_at-requires g t c κs within =
    let s = c.args.here.prepared.now.stored in
    let terms = c.args.terms.now in
    let part : IsArgument s.cells c.args.at (get_or terms c.loop-i.i 0) = c.requires.terms c.loop-i.i 0 c.loop-i-test.true in
    let fits : TermFits c.args.here.view.now c.args.stack.now (term_at s (get_or terms c.loop-i.i 0)) = c.requires.fits c.loop-i.i 0 c.loop-i-test.true in
    let deep = argument-depth s terms c.loop-i.i c.loop-i-test.true in
    (omega (arith, c.decreases, part.below), (search rules, (record { below = omega (arith, part.below, c.requires.cell); term = part.term }, (fits, omega (arith, c.requires.room, deep, c.loop-i.auto.room)))))

-- what a cell of an application stands for, and what it asks for
applied : (g : _) (t : _) (c : value_at-In-App g t) → term_at c.args.here.prepared.now.stored c.args.at ≡ term.App c.in-App.symbol (map (term_at c.args.here.prepared.now.stored) (span_of c.args.here.prepared.now.stored.kids c.in-App.span))
applied g t c = term_read c.args.here.prepared.now.stored c.args.at _ _ c.in-App.is c.cell.ensures.stands

app_fits : (g : _) (t : _) (c : value_at-In-App g t) → AppFits c.args.here.view.now c.args.stack.now c.in-App.symbol (map (term_at c.args.here.prepared.now.stored) (span_of c.args.here.prepared.now.stored.kids c.in-App.span))
app_fits g t c = fits_of_App c.args.here.view.now c.args.stack.now c.in-App.symbol _ (subst (TermFits c.args.here.view.now c.args.stack.now) (applied g t c) c.requires.fits)

pub value_at-fill-requires : goal.value_at-fill-requires
value_at-fill-requires g t c κs within =
    let s = c.args.here.prepared.now.stored in
    let view = c.args.here.view.now in
    let e = c.args.stack.now in
    let args = span_of s.kids c.in-App.span in
    let at = (goal.at.value_at-fill-requires g t c).In-App in
    let fits = app_fits g t at in
    let good : AreArguments s.cells s.kids c.args.at c.in-App.span = good_read s c.args.at _ _ c.in-App.is c.cell.ensures.good in
    let row = function_row view c.in-App.symbol (map (node_value view e) (map (term_at s) args)) c.if-symbol-eq0.false fits.row in
    let few : length args ≤ 1001 = omega (arith, row.few, length-map (map (term_at s) args) (node_value view e), length-map args (term_at s)) in
    let deep : term_depth (term_at s c.args.at) ≡ terms_depth (map (term_at s) args) + 1 = ap term_depth (applied g t at) ∙ depth_of_App c.in-App.symbol (map (term_at s) args) in
    let parts : c.parts.result.now ≡ args = c.parts.ensures in (
      omega (arith, c.decreases),
      (
        search rules,
        (
          omega (arith, c.requires.term.below),
          (
            subst (All (IsArgument s.cells c.args.at)) (sym parts) good.all,
            (
              subst (All (λ n. TermFits view e (term_at s n))) (sym parts) (each_argument view e s args fits.terms),
              (
                omega (arith, few, ap length parts, c.split_at_mut-row.ensures.front_len),
                omega (arith, deep, ap (λ (l : List ℕ). terms_depth (map (term_at s) l)) parts, c.requires.room, c.split_at_mut-row.ensures.back_len),
              ),
            ),
          ),
        ),
      ),
    )

pub value_at-get-requires-clause-row_in : goal.value_at-get-requires-clause-row_in
value_at-get-requires-clause-row_in g t c =
    let s = c.args.here.prepared.now.stored in
    let view = c.args.here.view.now in
    let e = c.args.stack.now in
    let good : AreArguments s.cells s.kids c.args.at c.in-App.span = good_read s c.args.at _ _ c.in-App.is c.cell.ensures.good in
    let fits = app_fits g t (goal.at.value_at-get-requires-clause-row_in g t c).In-App in
    let row = written s (node_value view e) c.in-App.span c.parts.result.now c.fill.new.row good.inside c.parts.ensures c.fill.ensures in
    let there = function_row view c.in-App.symbol (map (node_value view e) (map (term_at s) (span_of s.kids c.in-App.span))) c.if-symbol-eq0.false fits.row in
    subst (InRange (table_at view.tables (c.in-App.symbol - 1)).sizes) (sym row) there.row_in

pub value_at-returns-else-symbol-eq0 : goal.value_at-returns-else-symbol-eq0
value_at-returns-else-symbol-eq0 g t c =
    let s = c.args.here.prepared.now.stored in
    let view = c.args.here.view.now in
    let e = c.args.stack.now in
    let terms = map (term_at s) (span_of s.kids c.in-App.span) in
    let good : AreArguments s.cells s.kids c.args.at c.in-App.span = good_read s c.args.at _ _ c.in-App.is c.cell.ensures.good in
    let row = written s (node_value view e) c.in-App.span c.parts.result.now c.fill.new.row good.inside c.parts.ensures c.fill.ensures in
    c.get.ensures.value
    ∙ ap (cell (table_at view.tables (c.in-App.symbol - 1))) row
    ∙ sym (function_read view c.in-App.symbol (map (node_value view e) terms) c.if-symbol-eq0.false)
    ∙ sym (ap (node_value view e) (applied g t (goal.at.value_at-returns-else-symbol-eq0 g t c).In-App) ∙ value_of_App view e c.in-App.symbol terms)
