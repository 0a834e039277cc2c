-- What is proved of the evaluation of numbered formulas: it says what the formulas say that they stand for.
use Rattle.std.specs.Prelude.{◌≡◌, ℕ, ◌<◌, true, List, [], ◌∷◌, ◌++◌, length, Some}
use Rattle.nxf_tree.specs.declared.tree.Signature.{Signature}
use Rattle.nxf_tree.specs.declared.tree.Scope.{Scope}
use Rattle.nxf_tree.specs.declared.tree.Formula.{Formula}
use Rattle.nxf_tree.specs.Kripke.{sat}
use Rattle.nxf_tree.specs.Countermodels.{holds_in}
use Rattle.nxf_tree.specs.Sorting.{is_sorted, modal_language}
use Rattle.nxf_tree.specs.WellFormed.{HasDifferentNames, IsWellFormed}
use Rattle.fin_struct.specs.KripkeTables.{KripkeTables, IsKripke, IsKripkeFor}
use Rattle.numbered_definitions.specs.declared.node.Node.{Node}
use Rattle.numbered_definitions.specs.NamedForm.{named_form}
use Rattle.kripke_evaluation_definitions.specs.NumberedMeaning.{node_sat, node_holds_in}
use Rattle.kripke_evaluation_definitions.specs.Fitting.{Fits}
use Rattle.kripke_evaluation_definitions.specs.FileConditions.{model_of}

-- names that stand from the outside in, beside what stands at their levels, the innermost first
abbrev pub inside_out : {A B : Type 0} → List A → List B → List (A × B)
inside_out [] ys = []
inside_out (x ∷ xs) [] = []
inside_out (x ∷ xs) (y ∷ ys) = inside_out xs ys ++ (x, y) ∷ []

-- a numbered formula that fits says at a world what the formula says that it stands for, in the environment of the names beside the values
abbrev pub NodeLaw : Type 0
NodeLaw =
    (sig : Signature) (view : KripkeTables) → HasDifferentNames sig → IsKripke view → IsKripkeFor sig view
    → (n : Node) (xs : List (List ℕ)) (e : List ℕ) (w : ℕ) (f : Formula) → named_form sig xs n ≡ Some f → length xs ≡ length e → w < view.worlds → Fits view w e n
    → node_sat view w e n ≡ sat (model_of sig view) w (inside_out xs e) f

-- a numbered formula that stands for a closed and well-sorted one fits at each world, and says there what that one says
pub record Evaluates (sig : Signature) (view : KripkeTables) (n : Node) (f : Formula) : Type 0 where
  pub fits : (w : ℕ) → w < view.worlds → Fits view w [] n
  pub same : (w : ℕ) → w < view.worlds → node_sat view w [] n ≡ sat (model_of sig view) w [] f
  pub counts : (scope : Scope) → node_holds_in view scope n ≡ holds_in (model_of sig view) scope f

abbrev pub EvaluationLaw : Type 0
EvaluationLaw =
    (sig : Signature) (view : KripkeTables) → IsWellFormed sig → IsKripke view → IsKripkeFor sig view
    → (n : Node) (f : Formula) → named_form sig [] n ≡ Some f → is_sorted (modal_language sig) [] f ≡ true → Evaluates sig view n f
