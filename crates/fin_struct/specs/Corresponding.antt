-- The structures of the two kinds that correspond, as contracts see them.
use Rattle.std.specs.Prelude.{◌∷◌}
use Rattle.nxf_tree.specs.declared.tree.Signature.{Signature}
use Rattle.nxf_tree.specs.Rows.{size_at}
use Rattle.nxf_tree.specs.Structures.{Corresponds}
use Rattle.fin_struct.specs.StructureTables.{StructureTables, classical_structure}
use Rattle.fin_struct.specs.KripkeTables.{KripkeTables, with_tables, others_of, kripke_structure}

-- the lists of rows of the two correspond
abbrev pub Agree : KripkeTables → StructureTables → Type 0
Agree kripke structure = Corresponds (kripke_structure kripke) (classical_structure structure)

-- the worlds become the first sort, and the tables stay
abbrev pub lowered : KripkeTables → StructureTables
lowered kripke = record { actual = kripke.actual; sizes = kripke.worlds ∷ kripke.sizes; tables = kripke.tables }

-- the first sort becomes the worlds, and the tables stay
abbrev pub lifted : Signature → StructureTables → KripkeTables
lifted sig structure = with_tables sig (size_at structure.sizes 0) structure.actual (others_of structure.sizes) structure.tables
