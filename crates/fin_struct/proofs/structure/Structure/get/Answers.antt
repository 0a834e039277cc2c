use Rattle.std.proofs.Common.{ap}
use Rattle.fin_struct.specs.StructureTables.{StructureTables}
use Rattle.fin_struct.proofs.StructureLemmas.{read_listed}
use Rattle.fin_struct.proofs.structure.Structure.get.Goals as goal

pub returns-clause-listed : goal.returns-clause-listed
returns-clause-listed c =
    read_listed c.self.inside.grid c.args.self.now.tables c.args.table c.args.args.now c.get.result (ap (λ (view : StructureTables). view.tables) c.self.view_is) c.self.invariant.filled c.requires.table_in c.requires.row_in c.get.ensures.value
