-- What a classical formula with a list of parts, and a term with a list of arguments, say by their lists.
use Rattle.std.proofs.Common.{◌≡◌, ℕ, List, ◌∷◌, refl, ap, ◌∙◌}
use Rattle.std.specs.Prelude.{◌&&◌, ◌||◌, map}
use Rattle.std.specs.List.{list_all, list_any}
use Rattle.nxf_tree.specs.declared.tree.Term.{Term, App, Row_of-Term, end_of-Term, more_of-Term}
use Rattle.nxf_tree.specs.declared.tree.Term.TheBlock.{hidden-the_row-Term-0, items-the_row-Term, items_hidden-the_row-Term-0}
use Rattle.nxf_tree.specs.declared.tree.Formula.{Formula, And, Or, Row_of-Formula, end_of-Formula, more_of-Formula}
use Rattle.nxf_tree.specs.declared.tree.Formula.TheBlock.{hidden-the_row-Formula-1, items-the_row-Formula, items_hidden-the_row-Formula-1}
use Rattle.nxf_tree.specs.Kripke.{Env}
use Rattle.nxf_tree.specs.Classical.{ClassicalModel, cvalue, cvalues, csat, all_csat, some_csat}
use Rattle.nxf_tree.specs.Sorting.{Language, Bound}
use Rattle.classical_evaluation_definitions.specs.ClassicalSorting.{is_classical, are_classical}

module _ (S : ClassicalModel) (e : Env) where
  values_of_row : {m : _} (ts : Row_of-Term m) → cvalues S e ts ≡ map (cvalue S e) (items-the_row-Term _ ts)
  values_of_row end_of-Term = refl
  values_of_row (more_of-Term t ts) = ap (λ vs. cvalue S e t ∷ vs) (values_of_row ts)

  pub value_of_App : (f : List ℕ) (ts : List Term) → cvalue S e (App f ts) ≡ S.value f (map (cvalue S e) ts)
  value_of_App f ts = ap (S.value f) (values_of_row (hidden-the_row-Term-0 ts) ∙ ap (map (cvalue S e)) (items_hidden-the_row-Term-0 ts))

  all_of_row : {m : _} (fs : Row_of-Formula m) → all_csat S e fs ≡ list_all (csat S e) (items-the_row-Formula _ fs)
  all_of_row end_of-Formula = refl
  all_of_row (more_of-Formula f fs) = ap (λ b. csat S e f && b) (all_of_row fs)

  pub sat_of_And : (fs : List Formula) → csat S e (And fs) ≡ list_all (csat S e) fs
  sat_of_And fs = all_of_row (hidden-the_row-Formula-1 fs) ∙ ap (list_all (csat S e)) (items_hidden-the_row-Formula-1 fs)

  some_of_row : {m : _} (fs : Row_of-Formula m) → some_csat S e fs ≡ list_any (csat S e) (items-the_row-Formula _ fs)
  some_of_row end_of-Formula = refl
  some_of_row (more_of-Formula f fs) = ap (λ b. csat S e f || b) (some_of_row fs)

  pub sat_of_Or : (fs : List Formula) → csat S e (Or fs) ≡ list_any (csat S e) fs
  sat_of_Or fs = some_of_row (hidden-the_row-Formula-1 fs) ∙ ap (list_any (csat S e)) (items_hidden-the_row-Formula-1 fs)

module _ (L : Language) (b : Bound) where
  sorted_of_row : {m : _} (fs : Row_of-Formula m) → are_classical L b fs ≡ list_all (is_classical L b) (items-the_row-Formula _ fs)
  sorted_of_row end_of-Formula = refl
  sorted_of_row (more_of-Formula f fs) = ap (λ c. is_classical L b f && c) (sorted_of_row fs)

  pub sorted_of_And : (fs : List Formula) → is_classical L b (And fs) ≡ list_all (is_classical L b) fs
  sorted_of_And fs = sorted_of_row (hidden-the_row-Formula-1 fs) ∙ ap (list_all (is_classical L b)) (items_hidden-the_row-Formula-1 fs)

  pub sorted_of_Or : (fs : List Formula) → is_classical L b (Or fs) ≡ list_all (is_classical L b) fs
  sorted_of_Or fs = sorted_of_row (hidden-the_row-Formula-1 fs) ∙ ap (list_all (is_classical L b)) (items_hidden-the_row-Formula-1 fs)
