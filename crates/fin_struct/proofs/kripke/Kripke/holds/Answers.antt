use Rattle.std.proofs.Common.{refl}
use Rattle.fin_struct.proofs.KripkeLemmas.{symbol_read, predicate-listed}
use Rattle.fin_struct.proofs.kripke.Kripke.holds.Goals as goal

pub returns-clause-listed : goal.returns-clause-listed
returns-clause-listed c =
    let now = c.args.self.now in
    let read = symbol_read _ now c.args.symbol c.table_of_symbol.result c.get.result _ _ c.self.view_is c.table_of_symbol.ensures.number refl c.get.ensures.value in
    predicate-listed _ now c.args.symbol c.get.result _ c.self.invariant c.self.view_is c.requires.symbol_in c.requires.predicate c.requires.row_in read
