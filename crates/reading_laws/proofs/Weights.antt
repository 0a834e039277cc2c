-- The weight of a row is that of its list.
use Rattle.std.proofs.Common.{◌≡◌, ℕ, ◌+◌, List, refl, ap, ◌∙◌}
use Rattle.nxf_tree.specs.declared.tree.Term.{Term, App, Row_of-Term, end_of-Term, more_of-Term}
use Rattle.nxf_tree.specs.declared.tree.Term.TheBlock.{hidden-the_row-Term-0, items-the_row-Term, items_hidden-the_row-Term-0}
use Rattle.nxf_tree.specs.declared.tree.Formula.{Formula, Not, And, Or, Pair, Quant, Modal, Row_of-Formula, end_of-Formula, more_of-Formula}
use Rattle.nxf_tree.specs.declared.tree.Formula.TheBlock.{hidden-the_row-Formula-1, items-the_row-Formula, items_hidden-the_row-Formula-1}
use Rattle.nxf_tree.specs.declared.tree.SpecValue.{Items}
use Rattle.nxf_tree.specs.declared.tree.SpecItem.{SpecItem, Entry}
use Rattle.nxf_tree.specs.declared.tree.SpecItem.TheBlock.{Row_of-SpecItem, end_of-SpecItem, more_of-SpecItem, hidden-the_row-SpecItem-0, items-the_row-SpecItem, items_hidden-the_row-SpecItem-0}
use Rattle.nxf_tree.specs.declared.tree.SpecEntry.{SpecEntry}
use Rattle.nxf_tree.specs.declared.tree.IndexName.{IndexName}
use Rattle.nxf_tree.specs.declared.tree.SortName.{SortName}
use Rattle.nxf_tree.specs.declared.tree.Quantifier.{Quantifier}
use Rattle.nxf_tree.specs.declared.tree.Mode.{Mode}
use Rattle.nxf_tree.specs.declared.tree.Op.{Op}
use Rattle.nxf_tree.specs.Shapes.{Not_is, Pair_is, Quant_is, Modal_is}
use Rattle.nxf_tree.specs.Weight.{term_weight, terms_weight, list_weight, formula_weight, formulas_weight, formula_list_weight, value_weight, item_weight, row_weight, item_list_weight, entry_weight}

row_weight_is : {m : _} (ts : Row_of-Term m) → terms_weight ts ≡ list_weight (items-the_row-Term _ ts)
row_weight_is end_of-Term = refl
row_weight_is (more_of-Term t ts) = ap (λ n. term_weight t + n) (row_weight_is ts)

pub term_weight_of_App : (f : List ℕ) (ts : List Term) → term_weight (App f ts) ≡ list_weight ts + 1
term_weight_of_App f ts = ap (λ n. n + 1) (row_weight_is (hidden-the_row-Term-0 ts) ∙ ap list_weight (items_hidden-the_row-Term-0 ts))

formula_row_weight : {m : _} (fs : Row_of-Formula m) → formulas_weight fs ≡ formula_list_weight (items-the_row-Formula _ fs)
formula_row_weight end_of-Formula = refl
formula_row_weight (more_of-Formula f fs) = ap (λ n. formula_weight f + n) (formula_row_weight fs)

pub formula_weight_of_And : (fs : List Formula) → formula_weight (And fs) ≡ formula_list_weight fs + 1
formula_weight_of_And fs = ap (λ n. n + 1) (formula_row_weight (hidden-the_row-Formula-1 fs) ∙ ap formula_list_weight (items_hidden-the_row-Formula-1 fs))

pub formula_weight_of_Or : (fs : List Formula) → formula_weight (Or fs) ≡ formula_list_weight fs + 1
formula_weight_of_Or fs = ap (λ n. n + 1) (formula_row_weight (hidden-the_row-Formula-1 fs) ∙ ap formula_list_weight (items_hidden-the_row-Formula-1 fs))

pub formula_weight_of_Not : (f : Formula) → formula_weight (Not f) ≡ formula_weight f + 1
formula_weight_of_Not f = ap formula_weight (Not_is f)

pub formula_weight_of_Pair : (op : Op) (f g : Formula) → formula_weight (Pair op f g) ≡ formula_weight f + formula_weight g + 1
formula_weight_of_Pair op f g = ap formula_weight (Pair_is op f g)

pub formula_weight_of_Quant : (q : Quantifier) (x : List ℕ) (s : SortName) (f : Formula) → formula_weight (Quant q x s f) ≡ formula_weight f + 1
formula_weight_of_Quant q x s f = ap formula_weight (Quant_is q x s f)

pub formula_weight_of_Modal : (m : Mode) (i : IndexName) (f : Formula) → formula_weight (Modal m i f) ≡ formula_weight f + 1
formula_weight_of_Modal m i f = ap formula_weight (Modal_is m i f)

item_row_weight : {m : _} (is : Row_of-SpecItem m) → row_weight is ≡ item_list_weight (items-the_row-SpecItem _ is)
item_row_weight end_of-SpecItem = refl
item_row_weight (more_of-SpecItem i is) = ap (λ n. item_weight i + n) (item_row_weight is)

pub value_weight_of_Items : (is : List SpecItem) → value_weight (Items is) ≡ item_list_weight is
value_weight_of_Items is = item_row_weight (hidden-the_row-SpecItem-0 is) ∙ ap item_list_weight (items_hidden-the_row-SpecItem-0 is)

pub item_weight_of_Entry : (e : SpecEntry) → item_weight (Entry e) ≡ entry_weight e
item_weight_of_Entry e = refl
