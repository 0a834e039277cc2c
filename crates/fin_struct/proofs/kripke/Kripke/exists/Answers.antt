use Rattle.fin_struct.proofs.KripkeLemmas.{seen_kripke, seen_in, existence_read, existence_in}
use Rattle.fin_struct.proofs.ExistenceLemmas.{someone-listed}
use Rattle.fin_struct.proofs.kripke.Kripke.exists.Goals as goal

pub get-requires-clause-table_in : goal.get-requires-clause-table_in
get-requires-clause-table_in c =
    let now = c.args.self.now in
    let number = existence_read _ now c.args.sort c.in-Some.table _ c.self.view_is c.requires.sort_in c.index.ensures c.in-Some.is in
    seen_in _ now c.in-Some.table c.self.view_is (existence_in now c.args.sort c.in-Some.table c.args.world c.args.element (seen_kripke _ now c.self.invariant c.self.view_is) number c.requires.world_in c.requires.element_in).table_in

pub returns-in-Some-clause-listed : goal.returns-in-Some-clause-listed
returns-in-Some-clause-listed c =
    someone-listed _ c.args.self.now c.args.sort c.in-Some.table c.args.world c.args.element c.get.result _ c.self.invariant c.self.view_is c.requires.sort_in c.index.ensures c.in-Some.is c.requires.world_in c.requires.element_in c.get.ensures.value
