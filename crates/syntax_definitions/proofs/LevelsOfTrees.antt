-- The levels of a row are those of its list.
use Rattle.std.proofs.Common.{◌≡◌, ℕ, ◌+◌, max, List, refl, ap, ◌∙◌}
use Rattle.nxf_tree.specs.declared.tree.Term.{Term, App, Row_of-Term, end_of-Term, more_of-Term}
use Rattle.nxf_tree.specs.declared.tree.Term.TheBlock.{hidden-the_row-Term-0, items-the_row-Term, items_hidden-the_row-Term-0}
use Rattle.nxf_tree.specs.declared.tree.Formula.{Formula, Not, And, Or, Pair, Quant, Modal, Row_of-Formula, end_of-Formula, more_of-Formula}
use Rattle.nxf_tree.specs.declared.tree.Formula.TheBlock.{hidden-the_row-Formula-1, items-the_row-Formula, items_hidden-the_row-Formula-1}
use Rattle.nxf_tree.specs.declared.tree.IndexName.{IndexName}
use Rattle.nxf_tree.specs.declared.tree.SortName.{SortName}
use Rattle.nxf_tree.specs.declared.tree.Quantifier.{Quantifier}
use Rattle.nxf_tree.specs.declared.tree.Mode.{Mode}
use Rattle.nxf_tree.specs.declared.tree.Op.{Op}
use Rattle.nxf_tree.specs.Shapes.{Not_is, Pair_is, Quant_is, Modal_is}
use Rattle.syntax_definitions.specs.Levels.{term_levels, arguments_levels, list_levels, formula_levels, members_levels, unit_levels, unit_list_levels}

pub row_levels : {m : _} (ts : Row_of-Term m) → arguments_levels ts ≡ list_levels (items-the_row-Term _ ts)
row_levels end_of-Term = refl
row_levels (more_of-Term t ts) = ap (max (term_levels t + 1)) (row_levels ts)

pub levels_of_App : (f : List ℕ) (ts : List Term) → term_levels (App f ts) ≡ list_levels ts
levels_of_App f ts = row_levels (hidden-the_row-Term-0 ts) ∙ ap list_levels (items_hidden-the_row-Term-0 ts)

formula_row_levels : {m : _} (fs : Row_of-Formula m) → members_levels fs ≡ unit_list_levels (items-the_row-Formula _ fs)
formula_row_levels end_of-Formula = refl
formula_row_levels (more_of-Formula f fs) = ap (max (unit_levels f)) (formula_row_levels fs)

pub levels_of_And : (fs : List Formula) → formula_levels (And fs) ≡ unit_list_levels fs
levels_of_And fs = formula_row_levels (hidden-the_row-Formula-1 fs) ∙ ap unit_list_levels (items_hidden-the_row-Formula-1 fs)

pub levels_of_Or : (fs : List Formula) → formula_levels (Or fs) ≡ unit_list_levels fs
levels_of_Or fs = formula_row_levels (hidden-the_row-Formula-1 fs) ∙ ap unit_list_levels (items_hidden-the_row-Formula-1 fs)

pub levels_of_Not : (f : Formula) → unit_levels (Not f) ≡ unit_levels f + 1
levels_of_Not f = ap unit_levels (Not_is f)

pub levels_of_Pair : (op : Op) (f g : Formula) → formula_levels (Pair op f g) ≡ max (unit_levels f) (unit_levels g)
levels_of_Pair op f g = ap formula_levels (Pair_is op f g)

pub levels_of_Quant : (q : Quantifier) (x : List ℕ) (s : SortName) (f : Formula) → unit_levels (Quant q x s f) ≡ unit_levels f + 1
levels_of_Quant q x s f = ap unit_levels (Quant_is q x s f)

pub levels_of_Modal : (m : Mode) (i : IndexName) (f : Formula) → unit_levels (Modal m i f) ≡ formula_levels f + 1
levels_of_Modal m i f = ap unit_levels (Modal_is m i f)
