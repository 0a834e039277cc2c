use Rattle.std.proofs.Common.{◌≡◌, ◌+◌, ap}
use Rattle.fin_struct.specs.KripkeTables.{KripkeTables, symbol_number}
use Rattle.fin_struct.proofs.KripkeLemmas.{seen_kripke, symbol_in}
use Rattle.fin_struct.proofs.kripke.Kripke.table_of_symbol.Goals as goal

pub returns-clause-there : goal.returns-clause-there
returns-clause-there c =
    let now = c.args.self.now in
    let number : c.self.inside.first_symbol + c.args.symbol ≡ symbol_number now c.args.symbol = ap (λ (k : KripkeTables). k.first_symbol + c.args.symbol) c.self.view_is in
    rw number (symbol_in now c.args.symbol (seen_kripke _ now c.self.invariant c.self.view_is) c.requires)
