use Rattle.std.proofs.Common.{◌<◌, ◌∙◌, sym, subst, drop, ℕ, Option}
use Rattle.fin_struct.specs.Cells.{bound_of, table_at}
use Rattle.fin_struct.specs.Places.{InRange}
use Rattle.interp_reader.proofs.TableWalks.{at_end, at_next, next_row, same_sizes, same_values}
use Rattle.interp_reader.proofs.table.fill_table.Goals as goal

pub set-requires-clause-row_in : goal.set-requires-clause-row_in
set-requires-clause-row_in c =
    let old = c.args.structure.now in
    let t = c.args.table in
    let row = c.in-Some.row.now in
    let inv = c.loop-row.invariant in
    subst (λ s. InRange s row) (sym (same_sizes c.loop-row.structure.tables old.tables t inv.filled.shapes_stay))
    (next_row (table_at old.tables t).sizes inv.at row (drop 1 c.loop-row.walk) c.loop-row.walk inv.left c.in-Some.ensures).in_range

pub set-requires-clause-below : goal.set-requires-clause-below
set-requires-clause-below c =
    subst (λ (v : Option ℕ). c.in-Some-2.value < bound_of v) (sym (same_values c.loop-row.structure.tables c.args.structure.now.tables c.args.table c.loop-row.invariant.filled.shapes_stay))
    (c.requires.below c.in-Some.row.now c.in-Some-2.value (sym c.in_ok-value_at.ensures ∙ c.in-Some-2.is))

pub loop-row-preserved : goal.loop-row-preserved
loop-row-preserved c =
    at_next c.args.rows.now.entries c.args.table c.loop-row.walk c.advance.new.self c.args.structure.now c.loop-row.structure c.set.new.self c.in-Some.row.now c.in-Some-2.value c.loop-row.invariant c.in-Some.ensures c.advance.ensures
    c.requires.table_in (c.requires.below c.in-Some.row.now c.in-Some-2.value (sym c.in_ok-value_at.ensures ∙ c.in-Some-2.is))
    (sym c.in_ok-value_at.ensures ∙ c.in-Some-2.is) c.set.ensures.written c.set.ensures.shapes c.set.ensures.there c.set.ensures.alone

pub returns-clause-filled : goal.returns-clause-filled
returns-clause-filled c = λ _. at_end c.args.rows.now.entries c.args.table c.loop-row.walk c.args.structure.now c.loop-row.structure c.loop-row.invariant c.in_default.ensures
