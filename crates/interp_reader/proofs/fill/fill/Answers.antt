use Rattle.std.proofs.Common.{◌∙◌, Ok, ap, sym, subst}
use Rattle.interpretation_definitions.specs.Context.{symbols_of}
use Rattle.interpretation_definitions.specs.Interpretation.{completed, incomplete_from}
use Rattle.interp_reader.specs.Refusals.{Refuses, RefusesAs, RefusesSymbol}
use Rattle.interp_reader.specs.steps.Filling.{rows_in}
use Rattle.interp_reader.proofs.FinishLemmas.{given_fits}
use Rattle.interp_reader.proofs.LimitLemmas.{limits_kept, limits_refuse, symbol_refuses}
use Rattle.interp_reader.proofs.Passing.{err_passed}
use Rattle.interp_reader.proofs.fill.fill.Goals as goal

pub returns-in_err-structure-clause-refused : goal.returns-in_err-structure-clause-refused
returns-in_err-structure-clause-refused c =
    err_passed c.from_residual.result _ _
    (λ y e. limits_refuse c.args.sizes.now (rows_in c.args.rows.now.entries) c.args.over.now y (subst (RefusesAs c.args.over.now c.args.sizes.now) (sym e) c.in_err-structure.ensures.refused)) c.from_residual.ensures

pub returns-in_err-fill_all-clause-refused : goal.returns-in_err-fill_all-clause-refused
returns-in_err-fill_all-clause-refused c =
    let over = c.args.over.now in
    let sizes = c.args.sizes.now in
    let rows = rows_in c.args.rows.now.entries in
    let made = c.in_ok-structure.structure in
    let found = incomplete_from 0 sizes rows (symbols_of over) in
    err_passed c.from_residual-in_err-fill_all.result _ _
    (λ y e. subst (λ a. Refuses a y) (sym (limits_kept sizes rows over made c.in_ok-structure.ensures.made c.in_ok-structure.ensures.within))
    (symbol_refuses sizes rows over.tables found y (subst (RefusesSymbol found) (sym e) c.in_err-fill_all.ensures.refused)))
    c.from_residual-in_err-fill_all.ensures

pub returns-clause-exact : goal.returns-clause-exact
returns-clause-exact c =
    let over = c.args.over.now in
    let sizes = c.args.sizes.now in
    let rows = rows_in c.args.rows.now.entries in
    limits_kept sizes rows over c.in_ok-structure.structure c.in_ok-structure.ensures.made c.in_ok-structure.ensures.within
    ∙ ap (completed sizes rows over.tables) c.in_ok-fill_all.ensures.complete
    ∙ ap (λ s. Ok s) (sym c.in_ok-fill_all.ensures.filled)

pub returns-clause-over : goal.returns-clause-over
returns-clause-over c =
    given_fits c.args.over.now c.args.sizes.now (rows_in c.args.rows.now.entries) c.fill_all.new.structure c.requires.sizes c.in_ok-fill_all.ensures.filled
