-- A numbered formula that stands for a closed and well-sorted one says what that one says.
use Rattle.std.proofs.Common.{◌≡◌, ℕ, ◌<◌, true, [], refl, sym, ◌∙◌, subst}
use Rattle.std.specs.Prelude.{Some}
use Rattle.nxf_tree.specs.declared.tree.Signature.{Signature}
use Rattle.nxf_tree.specs.declared.tree.Scope.{Scope}
use Rattle.nxf_tree.specs.declared.tree.Scope.TheVariants.{Local, Global}
use Rattle.nxf_tree.specs.declared.tree.Formula.{Formula}
use Rattle.nxf_tree.specs.Countermodels.{holds_in}
use Rattle.nxf_tree.specs.Kripke.{sat}
use Rattle.nxf_tree.specs.Sorting.{is_sorted, modal_language}
use Rattle.nxf_tree.specs.WellFormed.{IsWellFormed}
use Rattle.fin_struct.specs.KripkeTables.{KripkeTables, IsKripke, IsKripkeFor}
use Rattle.structure_laws.proofs.KripkeNames.{names-law, places-law}
use Rattle.numbered_definitions.specs.declared.node.Node.{Node}
use Rattle.numbered_definitions.specs.NamedForm.{named_form, IsSortedFormula}
use Rattle.kripke_evaluation_definitions.specs.NumberedMeaning.{node_sat, node_holds_in}
use Rattle.kripke_evaluation_definitions.specs.Fitting.{Fits}
use Rattle.kripke_evaluation_definitions.specs.FileConditions.{model_of}
use Rattle.evaluation_laws.specs.EvaluationLaws.{Evaluates}
use Rattle.evaluation_laws.proofs.Bounds.{all_within}
use Rattle.evaluation_laws.proofs.NodeLemmas.{node-law}
use Rattle.evaluation_laws.proofs.FitsLemmas.{formula-fits}

module _ (sig : Signature) (view : KripkeTables) (wf : IsWellFormed sig) (is : IsKripke view) (over : IsKripkeFor sig view) (n : Node) (f : Formula) (named : named_form sig [] n ≡ Some f) (sorted : is_sorted (modal_language sig) [] f ≡ true) where
  fits : (w : ℕ) → w < view.worlds → Fits view w [] n
  fits w here = formula-fits sig view wf is over n [] [] [] w f named sorted refl tt here

  same : (w : ℕ) → w < view.worlds → node_sat view w [] n ≡ sat (model_of sig view) w [] f
  same w here = node-law sig view (model_of sig view) (names-law sig view wf.different is over) (places-law sig view is over) refl n [] [] w f named refl here (fits w here)

  counts : (scope : Scope) → node_holds_in view scope n ≡ holds_in (model_of sig view) scope f
  counts Local = same view.actual is.actual_in
  counts Global = all_within view.worlds _ _ same

  pub evaluates-sorted : Evaluates sig view n f
  evaluates-sorted = record { fits = fits; same = same; counts = counts }

-- the same for a formula that a checked file has
pub evaluates : (sig : Signature) (view : KripkeTables) → IsWellFormed sig → IsKripke view → IsKripkeFor sig view → (n : Node) (f : Formula) → named_form sig [] n ≡ Some f → IsSortedFormula sig n → Evaluates sig view n f
evaluates sig view wf is over n f named s =
    evaluates-sorted sig view wf is over n f named (subst (λ (g : Formula). is_sorted (modal_language sig) [] g ≡ true) (same-formula s.formula f (sym s.named ∙ named)) s.sorted)
  where
    same-formula : (g h : Formula) → Some g ≡ Some h → g ≡ h
    same-formula g h e = cc
