-- The first condition of a file that a structure doesn't meet.
use Rattle.std.specs.Prelude.{◌≡◌, ◌↔◌, Option, None}
use Rattle.nxf_tree.specs.declared.tree.Signature.{Signature}
use Rattle.nxf_tree.specs.declared.tree.File.{File}
use Rattle.nxf_tree.specs.Countermodels.{IsKripkeCountermodel}
use Rattle.fin_struct.specs.declared.condition.Condition.{Condition}
use Rattle.fin_struct.specs.FirstFault.{IsFirstFailing}
use Rattle.fin_struct.specs.KripkeTables.{KripkeTables, kripke_structure}
use Rattle.kripke_evaluation_definitions.specs.FileConditions.{meets_by_file, all_conditions}

-- it is the first that fails of all that the file asks
abbrev pub IsFirstFault : KripkeTables → Option Condition → Signature → File → Type 0
IsFirstFault view result sig file = IsFirstFailing (meets_by_file sig file view) (all_conditions sig file) result

-- there is none exactly where the structure is a countermodel of the file
abbrev pub TellsCountermodel : KripkeTables → Option Condition → Signature → File → Type 0
TellsCountermodel view result sig file = (result ≡ None) ↔ IsKripkeCountermodel sig file (kripke_structure view)
