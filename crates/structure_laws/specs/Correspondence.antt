-- Structures of the two kinds, as contracts see them, correspond one for one.
use Rattle.std.specs.Prelude.{◌≡◌}
use Rattle.nxf_tree.specs.declared.tree.Signature.{Signature}
use Rattle.nxf_tree.specs.ClassicalSignature.{classical_signature_of}
use Rattle.fin_struct.specs.StructureTables.{StructureTables, IsStructure, IsFor}
use Rattle.fin_struct.specs.KripkeTables.{KripkeTables, IsKripke, IsKripkeFor}
use Rattle.fin_struct.specs.Corresponding.{Agree, lowered, lifted}

-- a Kripke structure for a signature, within the limits
abbrev pub IsKripkeOver : Signature → KripkeTables → Type 0
IsKripkeOver sig view = IsKripke view × IsKripkeFor sig view

-- a structure for the classical signature of a signature, within the limits
abbrev pub IsStructureOver : Signature → StructureTables → Type 0
IsStructureOver sig view = IsStructure view × IsFor (classical_signature_of sig) view

-- for each structure of one kind there is exactly one of the other that corresponds
pub record CorrespondOneForOne (sig : Signature) : Type 0 where
  pub lower : (kripke : KripkeTables) → IsKripkeOver sig kripke → IsStructureOver sig (lowered kripke) × Agree kripke (lowered kripke)
  pub lift : (structure : StructureTables) → IsStructureOver sig structure → IsKripkeOver sig (lifted sig structure) × Agree (lifted sig structure) structure
  pub one_structure : (kripke : KripkeTables) (s t : StructureTables) → IsStructureOver sig s → IsStructureOver sig t → Agree kripke s → Agree kripke t → s ≡ t
  pub one_kripke : (structure : StructureTables) (k l : KripkeTables) → IsKripkeOver sig k → IsKripkeOver sig l → Agree k structure → Agree l structure → k ≡ l

abbrev pub CorrespondenceLaw : Type 0
CorrespondenceLaw = (sig : Signature) → CorrespondOneForOne sig
