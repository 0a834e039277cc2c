-- How deep a term with a list of arguments, and a formula with a list of parts, are by their lists.
use Rattle.std.proofs.Common.{◌≡◌, ℕ, ◌+◌, List, refl, ap, ◌∙◌}
use Rattle.std.specs.Prelude.{max}
use Rattle.nxf_tree.specs.declared.tree.Term.{Term, App, Row_of-Term, end_of-Term, more_of-Term}
use Rattle.nxf_tree.specs.declared.tree.Term.TheBlock.{hidden-the_row-Term-0, items-the_row-Term, items_hidden-the_row-Term-0}
use Rattle.nxf_tree.specs.declared.tree.Formula.{Formula, And, Or, Row_of-Formula, end_of-Formula, more_of-Formula}
use Rattle.nxf_tree.specs.declared.tree.Formula.TheBlock.{hidden-the_row-Formula-1, items-the_row-Formula, items_hidden-the_row-Formula-1}
use Rattle.nxf_tree.specs.Depth.{term_depth, terms_depth, list_depth, formula_depth, formulas_depth, formula_list_depth}

row-list : {m : _} (ts : Row_of-Term m) → terms_depth ts ≡ list_depth (items-the_row-Term _ ts)
row-list end_of-Term = refl
row-list (more_of-Term t ts) = ap (max (term_depth t)) (row-list ts)

pub tree_App : (f : List ℕ) (ts : List Term) → term_depth (App f ts) ≡ list_depth ts + 1
tree_App f ts = ap (λ n. n + 1) (row-list (hidden-the_row-Term-0 ts) ∙ ap list_depth (items_hidden-the_row-Term-0 ts))

formulas-list : {m : _} (fs : Row_of-Formula m) → formulas_depth fs ≡ formula_list_depth (items-the_row-Formula _ fs)
formulas-list end_of-Formula = refl
formulas-list (more_of-Formula f fs) = ap (max (formula_depth f)) (formulas-list fs)

pub tree_And : (fs : List Formula) → formula_depth (And fs) ≡ formula_list_depth fs + 1
tree_And fs = ap (λ n. n + 1) (formulas-list (hidden-the_row-Formula-1 fs) ∙ ap formula_list_depth (items_hidden-the_row-Formula-1 fs))

pub tree_Or : (fs : List Formula) → formula_depth (Or fs) ≡ formula_list_depth fs + 1
tree_Or fs = ap (λ n. n + 1) (formulas-list (hidden-the_row-Formula-1 fs) ∙ ap formula_list_depth (items_hidden-the_row-Formula-1 fs))
