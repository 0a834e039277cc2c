use Rattle.fin_struct.proofs.KripkeLemmas.{seen_kripke, symbol_in, written_now, same_shapes}
use Rattle.fin_struct.proofs.kripke.Kripke.set_value.Goals as goal

pub invariant_of-self : goal.invariant_of-self
invariant_of-self c =
    let now = c.args.self.now in
    let at = c.table_of_symbol-table.ensures.number in
    let below = symbol_in now c.args.symbol (seen_kripke _ now c.self.invariant c.self.view_is) c.requires.symbol_in in
    written_now _ now c.set.new.self c.table_of_symbol-table.result _ c.args.element c.self.invariant c.self.view_is (rw at below) (rw at c.requires.below) c.set.ensures.written

pub returns-clause-shapes : goal.returns-clause-shapes
returns-clause-shapes c = same_shapes _ c.args.self.now c.set.new.self c.table_of_symbol-table.result _ c.args.element c.self.view_is c.set.ensures.written
