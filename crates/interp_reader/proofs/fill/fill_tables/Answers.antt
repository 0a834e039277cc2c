use Rattle.std.proofs.Common.{◌∙◌, ◌+◌, ◌<◌, length, get_or, ap, sym, subst, Some}
use Rattle.nxf_tree.specs.declared.tree.TableEntry.{TableEntry}
use Rattle.interp_reader.specs.Refusals.{RefusesSymbol}
use Rattle.interp_reader.specs.steps.Filling.{is_half_given, rows_at, rows_in}
use Rattle.interp_reader.proofs.FillLemmas.{complete_found, complete_next}
use Rattle.interp_reader.proofs.FinishLemmas.{filled_next, fits_at, half_false, half_is, half_true}
use Rattle.interp_reader.proofs.fill.fill_tables.Goals as goal

pub fill_one-requires-clause-below : goal.fill_one-requires-clause-below
fill_one-requires-clause-below c =
    let lt = subst (λ ts. c.loop-at.at < length ts) c.as_slice-entry-items.ensures c.loop-at-test.true in
    fits_at c.args.over.now c.args.sizes.now c.args.rows.now.entries c.loop-at.at c.loop-at.structure c.entry-item.result c.requires.below c.loop-at.invariant.filled lt

pub returns-then-not-branch-clause-refused : goal.returns-then-not-branch-clause-refused
returns-then-not-branch-clause-refused c =
    let over = c.args.over.now in
    let sizes = c.args.sizes.now in
    let entries = c.args.rows.now.entries in
    let n = c.loop-at.at in
    let d = c.entry-item.result in
    let same = c.as_slice-entry-items.ensures in
    let lt = subst (λ ts. n < length ts) same c.loop-at-test.true in
    let half = half_is over sizes entries n c.loop-at.structure d c.loop-at.invariant.filled lt
    ∙ half_true (is_half_given entries (n + 1) (rows_at c.loop-at.structure n)) c.in_ok-fill_one.field-0 c.in_ok-fill_one.ensures.complete c.if-not-branch.true in
    let found = c.loop-at.invariant.complete ∙ complete_found sizes (rows_in entries) over.tables n d lt half in
    let name = c.bytes.ensures ∙ ap (λ (x : TableEntry). x.name) (c.entry-item.is ∙ ap (λ ts. get_or ts n d) same) in
    subst (λ o. RefusesSymbol o c.incomplete.result) (ap (λ text. Some text) name ∙ sym found) c.incomplete.ensures

pub loop-at-preserved : goal.loop-at-preserved
loop-at-preserved c =
    let over = c.args.over.now in
    let sizes = c.args.sizes.now in
    let entries = c.args.rows.now.entries in
    let n = c.loop-at.at in
    let d = c.entry-item.result in
    let before = c.loop-at.structure in
    let lt = subst (λ ts. n < length ts) c.as_slice-entry-items.ensures c.loop-at-test.true in
    let half = half_is over sizes entries n before d c.loop-at.invariant.filled lt
    ∙ half_false (is_half_given entries (n + 1) (rows_at before n)) c.in_ok-fill_one.field-0 c.in_ok-fill_one.ensures.complete c.if-not-branch.false in
    record {
      complete = c.loop-at.invariant.complete ∙ complete_next sizes (rows_in entries) over.tables n d lt half;
      filled = filled_next over sizes entries n before c.fill_one.new.structure c.loop-at.invariant.filled (c.in_ok-fill_one.ensures.filled c.if-not-branch.false);
    }
