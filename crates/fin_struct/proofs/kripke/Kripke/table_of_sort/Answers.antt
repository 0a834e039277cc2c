use Rattle.std.proofs.Common.{sym, ◌∙◌, arith}
use Rattle.fin_struct.proofs.KripkeLemmas.{seen_kripke, existence_is, existence_read, numbers_in}
use Rattle.fin_struct.proofs.kripke.Kripke.table_of_sort.Goals as goal

pub returns-in-Some-clause-number : goal.returns-in-Some-clause-number
returns-in-Some-clause-number c = sym (existence_read _ c.args.self.now c.args.sort c.in-Some.table _ c.self.view_is c.requires c.index.ensures c.in-Some.is)

pub returns-in-Some-clause-there : goal.returns-in-Some-clause-there
returns-in-Some-clause-there c =
    let now = c.args.self.now in
    let is = seen_kripke _ now c.self.invariant c.self.view_is in
    let number = existence_read _ now c.args.sort c.in-Some.table _ c.self.view_is c.requires c.index.ensures c.in-Some.is in
    omega (arith, is.symbols, (numbers_in now.existence now.indexes now.first_symbol c.args.sort c.in-Some.table is.numbered number).1)

pub returns-in-None-clause-number : goal.returns-in-None-clause-number
returns-in-None-clause-number c = sym c.in-None.is ∙ existence_is _ c.args.self.now c.args.sort _ c.self.view_is c.requires c.index.ensures
