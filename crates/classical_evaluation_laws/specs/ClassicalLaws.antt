-- What is proved of the evaluation of numbered classical formulas: it says what the formulas say that they stand for.
use Rattle.std.specs.Prelude.{◌≡◌, ℕ, true, List, [], length, Some}
use Rattle.nxf_tree.specs.declared.tree.Signature.{Signature}
use Rattle.nxf_tree.specs.declared.tree.ClassicalSignature.{ClassicalSignature}
use Rattle.nxf_tree.specs.declared.tree.Formula.{Formula}
use Rattle.nxf_tree.specs.declared.tree.File.{File}
use Rattle.nxf_tree.specs.Classical.{csat}
use Rattle.nxf_tree.specs.ClassicalSignature.{classical_signature_of}
use Rattle.nxf_tree.specs.Depth.{formula_depth}
use Rattle.nxf_tree.specs.Sorting.{Bound, is_sorted, classical_language, FileIsOver}
use Rattle.nxf_tree.specs.WellFormed.{IsWellFormed}
use Rattle.name_laws.specs.NameLaws.{HasDifferentClassicalNames}
use Rattle.fin_struct.specs.StructureTables.{StructureTables, IsStructure, IsFor}
use Rattle.numbered_definitions.specs.declared.node.Node.{Node}
use Rattle.kripke_evaluation_definitions.specs.NumberedDepth.{node_depth}
use Rattle.evaluation_laws.specs.EvaluationLaws.{inside_out}
use Rattle.classical_evaluation_definitions.specs.ClassicalForm.{named_form}
use Rattle.classical_evaluation_definitions.specs.ClassicalMeaning.{node_sat}
use Rattle.classical_evaluation_definitions.specs.ClassicalFitting.{Fits}
use Rattle.classical_evaluation_definitions.specs.ClassicalSorting.{is_classical, HasClassicalFormulas, IsWellFormedClassical}
use Rattle.classical_evaluation_definitions.specs.ClassicalFaults.{model_of}

-- a numbered formula that fits says what the formula says that it stands for, in the environment of the names beside the values
abbrev pub ClassicalNodeLaw : Type 0
ClassicalNodeLaw =
    (csig : ClassicalSignature) (view : StructureTables) → HasDifferentClassicalNames csig → IsStructure view → IsFor csig view
    → (n : Node) (xs : List (List ℕ)) (e : List ℕ) (f : Formula) → named_form csig xs n ≡ Some f → length xs ≡ length e → Fits view e n
    → node_sat view e n ≡ csat (model_of csig view) (inside_out xs e) f

-- a numbered formula that stands for a closed and well-sorted one fits, and says what that one says
pub record Evaluates (csig : ClassicalSignature) (view : StructureTables) (n : Node) (f : Formula) : Type 0 where
  pub fits : Fits view [] n
  pub same : node_sat view [] n ≡ csat (model_of csig view) [] f

abbrev pub ClassicalEvaluationLaw : Type 0
ClassicalEvaluationLaw =
    (csig : ClassicalSignature) (view : StructureTables) → IsWellFormedClassical csig → IsStructure view → IsFor csig view
    → (n : Node) (f : Formula) → named_form csig [] n ≡ Some f → is_classical (classical_language csig) [] f ≡ true → Evaluates csig view n f

-- a numbered formula is as deep as what it stands for
abbrev pub ClassicalDepthLaw : Type 0
ClassicalDepthLaw = (csig : ClassicalSignature) (n : Node) (xs : List (List ℕ)) (f : Formula) → named_form csig xs n ≡ Some f → node_depth n ≡ formula_depth f

-- the classical signature of a well-formed signature is well formed
abbrev pub WellFormedLaw : Type 0
WellFormedLaw = (sig : Signature) → IsWellFormed sig → IsWellFormedClassical (classical_signature_of sig)

-- a formula that is well sorted as in a printed problem is so here, and so are those of a file over the classical signature
abbrev pub SortedLaw : Type 0
SortedLaw = (csig : ClassicalSignature) (b : Bound) (f : Formula) → is_sorted (classical_language csig) b f ≡ true → is_classical (classical_language csig) b f ≡ true

abbrev pub SortedFileLaw : Type 0
SortedFileLaw = (csig : ClassicalSignature) (file : File) → FileIsOver csig file → HasClassicalFormulas csig file
