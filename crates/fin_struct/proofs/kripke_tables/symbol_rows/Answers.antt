use Rattle.std.proofs.Common.{◌≡◌, true, sym, ◌∙◌}
use Rattle.nxf_tree.specs.Signature as meant
use Rattle.fin_struct.proofs.KripkeTableLemmas.{world_rows}
use Rattle.fin_struct.proofs.kripke_tables.symbol_rows.Goals as goal

pub returns-then-takes_world : goal.returns-then-takes_world
returns-then-takes_world c =
    let front : meant.takes_world c.args.symbol.now ≡ true = sym c.takes_world.ensures ∙ c.if-takes_world.true in
    let some = rw c.as_slice.ensures at c.table_rows-rows.ensures in
    let all = rw c.from.ensures at c.saturating_mul.ensures in
    (rw front (world_rows c.args.worlds _ c.table_rows-rows.result c.saturating_mul.result 18446744073709551615 some all))
