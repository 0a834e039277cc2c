use Rattle.std.proofs.Common.{◌+◌, ◌∷◌, ap, ◌∙◌, sym, take, arith}
use Rattle.std.specs.Option.{option_or}
use Rattle.std.specs.Map.{lookup}
use Rattle.nxf_tree.specs.Names.{same_text}
use Rattle.std.proofs.lemmas.List.{length-take-le}
use Rattle.std.proofs.lemmas.Grind.{take_at_read}
use Rattle.interpretation_definitions.specs.Context.{actual_entry}
use Rattle.interpretation_parts.specs.steps.Tables.{own_symbol}
use Rattle.interpretation_parts.proofs.TableLemmas.{symbol_number-next, symbol_first}
use Rattle.interpretation_parts.proofs.known.symbol_table.Goals as goal

pub loop-number-init : goal.loop-number-init
loop-number-init c q =
    c.in_ok-note_symbol.ensures q
    ∙ ap (λ es. option_or (lookup (same_text q) es) (own_symbol q c.in_ok-actual.actual 0)) c.new-map.ensures.empty
    ∙ symbol_first c.in_ok-actual.actual q c.in_ok-actual.ensures

pub loop-number-preserved : goal.loop-number-preserved
loop-number-preserved c q =
    let n = c.loop-number.number in
    let more = (take_at_read c.args.tables.now n c.index-tables-number.result c.loop-number-test.true).1 in
    let count = length-take-le n c.args.tables.now (omega (arith, c.loop-number-test.true)) in
    rw (more, ← c.index-tables-number.is) (c.in_ok-note_symbol-2.ensures q ∙ ap (λ o. option_or o (own_symbol q c.index-tables-number.result.name (n + 1))) (c.loop-number.invariant q) ∙ sym (symbol_number-next (n + 1) (actual_entry ∷ take n c.args.tables.now) c.index-tables-number.result q (omega (arith, count))))
