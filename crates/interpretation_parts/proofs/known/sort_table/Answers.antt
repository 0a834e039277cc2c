use Rattle.std.proofs.Common.{ap, ◌∙◌, sym, take, arith}
use Rattle.std.specs.Option.{option_or}
use Rattle.std.proofs.lemmas.List.{length-take-le}
use Rattle.std.proofs.lemmas.Grind.{take_at_read}
use Rattle.nxf_tree.specs.declared.tree.SortName.TheVariants.{User}
use Rattle.interpretation_parts.specs.steps.Tables.{own_number}
use Rattle.interpretation_parts.proofs.TableLemmas.{sort_number-next}
use Rattle.interpretation_parts.proofs.known.sort_table.Goals as goal

pub loop-number-preserved : goal.loop-number-preserved
loop-number-preserved c q =
    let n = c.loop-number.number in
    let more = (take_at_read c.args.sorts.now n c.index-sorts-number.result c.loop-number-test.true).1 in
    let count = length-take-le n c.args.sorts.now (omega (arith, c.loop-number-test.true)) in
    rw (more, ← c.index-sorts-number.is) (c.in_ok-note_sort.ensures q ∙ ap (λ o. option_or o (own_number q c.index-sorts-number.result n)) (c.loop-number.invariant q) ∙ sym (sort_number-next n (take n c.args.sorts.now) c.index-sorts-number.result (User q) count))
