use Rattle.formula_cells.proofs.ReadingLemmas.{is_number}
use Rattle.formula_cells.proofs.cells.number_in.Goals as goal

pub returns-clause-number : goal.returns-clause-number
returns-clause-number c =
    let stored = rw (c.in-Ok.number-is, c.in_ok-copy.ensures) at c.in-Ok.ensures.stored in
    is_number c.insert_full.new.self.keys c.in-Ok.number c.args.name.now stored.0 stored.1 stored.2
