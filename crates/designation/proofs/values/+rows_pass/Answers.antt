use Rattle.std.proofs.Common.{ℕ, ◌+◌, ◌∷◌, ◌++◌, get_or, take, drop, sym, ap, ◌∙◌, arith}
use Rattle.std.proofs.Math.ListN.{length-set}
use Rattle.std.proofs.lemmas.Bool.{both_ways}
use Rattle.nxf_tree.specs.Counting.{implies}
use Rattle.nxf_tree.specs.Rows.{size_at}
use Rattle.fin_struct.specs.KripkeTables.{exists_in}
use Rattle.structure_laws.proofs.Counted.{all_fails, all_more, implies_false, implies_true}
use Rattle.designation.specs.steps.RowTests.{rows_pass, value_exists_at}
use Rattle.designation.proofs.RowLemmas.{begun-more, kept-set, rows-next, rows-by}
use Rattle.designation.proofs.values.+rows_pass.Goals as goal
use Rattle.designation.proofs.values.+rows_pass.Goals.{then-exists+else-not-rows_pass, else-exists}

pub rows_pass-requires : goal.rows_pass-requires
rows_pass-requires t c =
    let begun = begun-more (size_at c.args.kripke.now.sizes) c.args.sorts.now c.loop-element.row c.args.row.now c.args.place c.loop-element.element (omega arith) (omega arith) c.loop-element.invariant.kept c.requires.begun (omega arith) in
    (omega arith, (c.requires.function, (c.requires.world_in, (omega arith, (omega (arith, length-set {A = ℕ}), begun)))))

pub returns-then-not-rows_pass-clause-passes : goal.returns-then-not-rows_pass-clause-passes
returns-then-not-rows_pass-clause-passes t c =
    let k = c.args.kripke.now in
    let sort = get_or c.args.sorts.now c.args.place 0 in
    let front = take c.args.place c.args.row.now in
    let test = λ (a : ℕ). implies (exists_in k sort c.args.world a) (rows_pass k c.args.world (drop (c.args.place + 1) c.args.sorts.now) (λ rest. value_exists_at k c.args.symbol c.args.gives c.args.world (front ++ a ∷ rest))) in
    let next = rows-next k c.args.symbol c.args.gives c.args.world (drop (c.args.place + 1) c.args.sorts.now) c.loop-element.row c.args.row.now c.args.place c.loop-element.element (omega arith) c.loop-element.invariant.kept in
    sym (rows-by k c.args.symbol c.args.gives c.args.world c.args.sorts.now c.args.row.now c.args.place (omega arith) ∙ all_fails (size_at k.sizes sort) c.loop-element.element test (omega arith) (implies_false _ _ (sym c.if-exists.ensures.cell) (sym next ∙ sym c.if-not-rows_pass.ensures.passes)))

pub returns-then-not-rows_pass-clause-kept : goal.returns-then-not-rows_pass-clause-kept
returns-then-not-rows_pass-clause-kept t c = kept-set c.loop-element.row c.rows_pass.new.row c.args.row.now c.args.place c.loop-element.element c.rows_pass.ensures.kept c.loop-element.invariant.kept

pub loop-element-preserved : goal.loop-element-preserved
loop-element-preserved t c =
    let k = c.args.kripke.now in
    let sort = get_or c.args.sorts.now c.args.place 0 in
    let front = take c.args.place c.args.row.now in
    let test = λ (a : ℕ). implies (exists_in k sort c.args.world a) (rows_pass k c.args.world (drop (c.args.place + 1) c.args.sorts.now) (λ rest. value_exists_at k c.args.symbol c.args.gives c.args.world (front ++ a ∷ rest))) in
    let next = rows-next k c.args.symbol c.args.gives c.args.world (drop (c.args.place + 1) c.args.sorts.now) c.loop-element.row c.args.row.now c.args.place c.loop-element.element (omega arith) c.loop-element.invariant.kept in
    elim c.if-exists.branch [
      | then-exists+else-not-rows_pass w ↦ record {
        kept = ap (take c.args.place) w.row-is ∙ kept-set c.loop-element.row w.rows_pass.new.row c.args.row.now c.args.place c.loop-element.element w.rows_pass.ensures.kept c.loop-element.invariant.kept;
        passed = all_more c.loop-element.element test c.loop-element.invariant.passed (implies_true _ _ (λ e. sym next ∙ sym w.if-not-rows_pass.ensures.passes));
      }
      | else-exists w ↦ record {
        kept = ap (take c.args.place) w.row-is ∙ c.loop-element.invariant.kept;
        passed = all_more c.loop-element.element test c.loop-element.invariant.passed (implies_true _ _ (λ e. absurd (both_ways _ (sym w.if-exists.ensures.cell) e)));
      }
    ]
