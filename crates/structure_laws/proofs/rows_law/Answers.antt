use Rattle.structure_laws.proofs.RowLaws.{rows-stand, cells-below}
use Rattle.structure_laws.proofs.rows_law.Goals as goal

pub returns : goal.returns
returns c = record { stand = rows-stand; below = cells-below }
