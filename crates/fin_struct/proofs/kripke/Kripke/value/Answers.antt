use Rattle.fin_struct.proofs.KripkeLemmas.{symbol_read, function-listed}
use Rattle.fin_struct.proofs.kripke.Kripke.value.Goals as goal

pub returns-clause-listed : goal.returns-clause-listed
returns-clause-listed c =
    let now = c.args.self.now in
    let read = symbol_read _ now c.args.symbol c.table_of_symbol.result c.get.result _ _ c.self.view_is c.table_of_symbol.ensures.number (c.world_of.ensures c.args.args.now) c.get.ensures.value in
    function-listed _ now c.args.symbol c.get.result _ c.self.invariant c.self.view_is c.requires.symbol_in c.requires.function c.requires.row_in read
