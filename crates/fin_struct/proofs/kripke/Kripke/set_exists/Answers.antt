use Rattle.std.proofs.Common.{◌∷◌, []}
use Rattle.fin_struct.proofs.KripkeLemmas.{PairIn, seen_kripke, seen_in, existence_read, existence_in, bit_below, written_now, same_shapes}
use Rattle.fin_struct.proofs.kripke.Kripke.set_exists.Goals as goal
use Rattle.fin_struct.proofs.kripke.Kripke.set_exists.Goals.{After-bit}

pair : (c : After-bit) → PairIn c.args.self.now.tables c.in-Some.table (c.args.world ∷ c.args.element ∷ [])
pair c =
    let now = c.args.self.now in
    let number = existence_read _ now c.args.sort c.in-Some.table _ c.self.view_is c.requires.sort_in c.index.ensures c.in-Some.is in
    existence_in now c.args.sort c.in-Some.table c.args.world c.args.element (seen_kripke _ now c.self.invariant c.self.view_is) number c.requires.world_in c.requires.element_in

pub set-requires-clause-table_in : goal.set-requires-clause-table_in
set-requires-clause-table_in c = seen_in _ c.args.self.now c.in-Some.table c.self.view_is (pair c).table_in

pub invariant_of-self : goal.invariant_of-self
invariant_of-self c =
    let p = pair (goal.at.invariant_of-self c).After-bit in
    written_now _ c.args.self.now c.set.new.self c.in-Some.table _ c.bit.result c.self.invariant c.self.view_is p.table_in (bit_below _ c.bit.result c.args.yes p.predicate c.bit.ensures) c.set.ensures.written

pub returns-in-Some-clause-shapes : goal.returns-in-Some-clause-shapes
returns-in-Some-clause-shapes c = same_shapes _ c.args.self.now c.set.new.self c.in-Some.table _ c.bit.result c.self.view_is c.set.ensures.written
