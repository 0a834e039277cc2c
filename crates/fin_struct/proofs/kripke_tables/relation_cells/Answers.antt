use Rattle.std.proofs.Common.{◌∙◌}
use Rattle.fin_struct.proofs.KripkeTableLemmas.{relation-cells}
use Rattle.fin_struct.proofs.kripke_tables.relation_cells.Goals as goal

pub returns : goal.returns
returns c = let product = rw c.pair_cells.ensures at c.saturating_mul.ensures in product ∙ (rw (relation-cells c.args.worlds c.args.indexes.now))
