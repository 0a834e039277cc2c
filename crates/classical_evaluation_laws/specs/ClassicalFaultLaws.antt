-- What is proved of the first formula of a classical file that fails.
use Rattle.std.specs.Prelude.{◌≡◌, ◌↔◌, ℕ, true, [], Option, None, Some}
use Rattle.nxf_tree.specs.declared.tree.ClassicalSignature.{ClassicalSignature}
use Rattle.nxf_tree.specs.declared.tree.File.{File}
use Rattle.nxf_tree.specs.Sorting.{classical_language}
use Rattle.nxf_tree.specs.Countermodels.{IsClassicalCountermodel}
use Rattle.fin_struct.specs.StructureTables.{StructureTables, IsStructure, IsFor, classical_structure}
use Rattle.numbered_definitions.specs.declared.node.Node.{Node}
use Rattle.classical_evaluation_definitions.specs.ClassicalForm.{named_form}
use Rattle.classical_evaluation_definitions.specs.ClassicalSorting.{is_classical, IsWellFormedClassical}
use Rattle.classical_evaluation_definitions.specs.ClassicalFaults.{model_of, RoleFormula, role_formulas, meets_role, node_meets, IsFirstPlace}

-- none fails exactly where the structure is a countermodel of the file
abbrev pub ClassicalCountermodelLaw : Type 0
ClassicalCountermodelLaw =
    (csig : ClassicalSignature) (file : File) (view : StructureTables) (found : Option ℕ) → IsStructure view → IsFor csig view
    → IsFirstPlace (meets_role (model_of csig view)) (role_formulas file.statements) found
    → (found ≡ None) ↔ IsClassicalCountermodel csig file (classical_structure view)

-- what a formula's role asks is what its numbered formula says
abbrev pub RolesLaw : Type 0
RolesLaw =
    (csig : ClassicalSignature) (view : StructureTables) → IsWellFormedClassical csig → IsStructure view → IsFor csig view
    → (n : Node) (entry : RoleFormula) → named_form csig [] n ≡ Some entry.formula → is_classical (classical_language csig) [] entry.formula ≡ true
    → node_meets view entry.word n ≡ meets_role (model_of csig view) entry
