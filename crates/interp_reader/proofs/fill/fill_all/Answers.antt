use Rattle.std.proofs.Common.{◌<◌, ◌∙◌, [], ap, refl, sym, subst}
use Rattle.std.specs.Prelude.{is_some}
use Rattle.nxf_tree.specs.Rows.{size_at}
use Rattle.fin_struct.specs.StructureTables.{StructureTables}
use Rattle.interp_reader.specs.Refusals.{RefusesSymbol}
use Rattle.interp_reader.specs.steps.Filling.{has_place, row_value}
use Rattle.interp_reader.proofs.FinishLemmas.{filled_first, filled_is}
use Rattle.interp_reader.proofs.LimitLemmas.{actual_next, actual_refused, actual_settled}
use Rattle.interp_reader.proofs.Passing.{err_passed}
use Rattle.interp_reader.proofs.fill.fill_all.Goals as goal

pub fill_actual-requires : goal.fill_actual-requires
fill_actual-requires c = record {
  below = λ world is. subst (λ ss. world < size_at ss 0) (sym (ap (λ (s : StructureTables). s.sizes) c.requires.blank)) (c.requires.below.worlds world is);
}

pub returns-then-not-there-clause-refused : goal.returns-then-not-there-clause-refused
returns-then-not-there-clause-refused c =
    actual_refused c.args.rows.now.entries c.args.sizes.now c.args.over.now c.incomplete.result
    (sym (c.in_ok-places.ensures 0) ∙ sym c.contains.ensures ∙ c.if-contains.true) (sym c.in_ok-there.ensures.there ∙ c.if-not-there.true) c.incomplete.ensures

pub fill_tables-requires-clause-blank : goal.fill_tables-requires-clause-blank
fill_tables-requires-clause-blank c =
    filled_first c.args.over.now c.args.sizes.now c.args.rows.now.entries c.args.structure.now c.fill_actual.new.structure c.requires.blank c.requires.within.filled
    (c.in_ok-there.ensures.filled (ap (λ (s : StructureTables). s.actual) c.requires.blank))

pub returns-in_err-fill_tables-clause-refused : goal.returns-in_err-fill_tables-clause-refused
returns-in_err-fill_tables-clause-refused c =
    let entries = c.args.rows.now.entries in
    let next = actual_next entries c.args.sizes.now c.args.over.now
    (actual_settled (has_place entries 0) (is_some (row_value entries 0 [])) c.contains.result c.in_ok-there.there
    (sym (c.in_ok-places.ensures 0) ∙ sym c.contains.ensures) c.in_ok-there.ensures.there c.else-contains.either) in
    err_passed c.from_residual-in_err-fill_tables.result _ _
    (λ y e. subst (λ o. RefusesSymbol o y) (sym next) (subst (RefusesSymbol _) (sym e) c.in_err-fill_tables.ensures.refused)) c.from_residual-in_err-fill_tables.ensures

pub returns-clause-complete : goal.returns-clause-complete
returns-clause-complete c =
    let entries = c.args.rows.now.entries in
    actual_next entries c.args.sizes.now c.args.over.now
    (actual_settled (has_place entries 0) (is_some (row_value entries 0 [])) c.contains.result c.in_ok-there.there
    (sym (c.in_ok-places.ensures 0) ∙ sym c.contains.ensures) c.in_ok-there.ensures.there c.else-contains.either)
    ∙ c.in_ok-fill_tables.ensures.complete

pub returns-clause-filled : goal.returns-clause-filled
returns-clause-filled c = filled_is c.args.over.now c.args.sizes.now c.args.rows.now.entries _ c.fill_tables.new.structure refl c.in_ok-fill_tables.ensures.filled
