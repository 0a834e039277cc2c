use Rattle.std.proofs.Common.{◌≡◌, ◌∙◌, sym}
use Rattle.nxf_tree.specs.ClassicalSignature.{classical_signature_of}
use Rattle.fin_struct.specs.Limits.{cells_of}
use Rattle.fin_struct.proofs.BlankKripke.{classical-cells}
use Rattle.fin_struct.proofs.kripke.check_sizes.Goals as goal
use Rattle.fin_struct.proofs.kripke.check_sizes.Goals.{After-check_limits}

-- the cells are those of the classical signature
counted : (c : After-check_limits) → c.kripke_cells-cells.result ≡ cells_of (classical_signature_of c.args.over.now) c.args.sizes.now
counted c =
    let cells = rw (c.size_at-worlds.ensures, c.other_sizes.ensures) at c.kripke_cells-cells.ensures in
    cells ∙ sym (classical-cells c.args.over.now c.args.sizes.now c.requires.sizes)

pub returns-clause-counted : goal.returns-clause-counted
returns-clause-counted c = rw (c.size_at-worlds.ensures, counted c) at c.check_limits.ensures.within

pub returns-clause-refused : goal.returns-clause-refused
returns-clause-refused c = rw (c.size_at-worlds.ensures, counted c) at c.check_limits.ensures.refused
