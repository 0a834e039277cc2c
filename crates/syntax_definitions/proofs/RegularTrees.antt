-- A regular row is a regular list.
use Rattle.std.proofs.Common.{◌≡◌, ℕ, suc, Bool, ◌&&◌, List, length, refl, ap, ◌∙◌}
use Rattle.std.specs.Prelude.{nat_le}
use Rattle.nxf_tree.specs.Profiles.{Allowed}
use Rattle.nxf_base.specs.Bytes.{is_printable_text, is_variable_text}
use Rattle.nxf_tree.specs.declared.tree.Term.{Term, App, Row_of-Term, end_of-Term, more_of-Term}
use Rattle.nxf_tree.specs.declared.tree.Term.TheBlock.{hidden-the_row-Term-0, items-the_row-Term, items_hidden-the_row-Term-0}
use Rattle.nxf_tree.specs.declared.tree.Formula.{Formula, Not, And, Or, Pair, Quant, Modal, Row_of-Formula, end_of-Formula, more_of-Formula}
use Rattle.nxf_tree.specs.declared.tree.Formula.TheBlock.{hidden-the_row-Formula-1, items-the_row-Formula, items_hidden-the_row-Formula-1}
use Rattle.nxf_tree.specs.declared.tree.IndexName.{IndexName}
use Rattle.nxf_tree.specs.declared.tree.SortName.{SortName}
use Rattle.nxf_tree.specs.declared.tree.Quantifier.{Quantifier}
use Rattle.nxf_tree.specs.declared.tree.Mode.{Mode}
use Rattle.nxf_tree.specs.declared.tree.Op.{Op}
use Rattle.nxf_tree.specs.Shapes.{Not_is, Pair_is, Quant_is, Modal_is}
use Rattle.nxf_tree.specs.RegularFormulas.{is_regular_sort, is_regular_index, terms_count, is_regular_term, are_regular_terms, is_regular_list, formulas_count, is_regular_formula, are_regular_formulas, is_regular_formula_list}

module _ (l : Allowed) where
  term_row_count : {m : _} (ts : Row_of-Term m) → terms_count ts ≡ length (items-the_row-Term _ ts)
  term_row_count end_of-Term = refl
  term_row_count (more_of-Term t ts) = ap suc (term_row_count ts)

  term_row : {m : _} (ts : Row_of-Term m) → are_regular_terms l ts ≡ is_regular_list l (items-the_row-Term _ ts)
  term_row end_of-Term = refl
  term_row (more_of-Term t ts) = ap (λ b. is_regular_term l t && b) (term_row ts)

  pub regular_App : (f : List ℕ) (ts : List Term) → is_regular_term l (App f ts) ≡ (is_printable_text f && (nat_le (length ts) l.arguments && is_regular_list l ts))
  regular_App f ts =
      ap (λ (n : ℕ). is_printable_text f && (nat_le n l.arguments && are_regular_terms l (hidden-the_row-Term-0 ts))) (term_row_count (hidden-the_row-Term-0 ts) ∙ ap length (items_hidden-the_row-Term-0 ts))
      ∙ ap (λ (b : Bool). is_printable_text f && (nat_le (length ts) l.arguments && b)) (term_row (hidden-the_row-Term-0 ts) ∙ ap (is_regular_list l) (items_hidden-the_row-Term-0 ts))

  formula_row_count : {m : _} (fs : Row_of-Formula m) → formulas_count fs ≡ length (items-the_row-Formula _ fs)
  formula_row_count end_of-Formula = refl
  formula_row_count (more_of-Formula f fs) = ap suc (formula_row_count fs)

  formula_row : {m : _} (fs : Row_of-Formula m) → are_regular_formulas l fs ≡ is_regular_formula_list l (items-the_row-Formula _ fs)
  formula_row end_of-Formula = refl
  formula_row (more_of-Formula f fs) = ap (λ b. is_regular_formula l f && b) (formula_row fs)

  members : (fs : List Formula) → (nat_le 2 (formulas_count (hidden-the_row-Formula-1 fs)) && are_regular_formulas l (hidden-the_row-Formula-1 fs)) ≡ (nat_le 2 (length fs) && is_regular_formula_list l fs)
  members fs =
      ap (λ (n : ℕ). nat_le 2 n && are_regular_formulas l (hidden-the_row-Formula-1 fs)) (formula_row_count (hidden-the_row-Formula-1 fs) ∙ ap length (items_hidden-the_row-Formula-1 fs))
      ∙ ap (λ (b : Bool). nat_le 2 (length fs) && b) (formula_row (hidden-the_row-Formula-1 fs) ∙ ap (is_regular_formula_list l) (items_hidden-the_row-Formula-1 fs))

  pub regular_And : (fs : List Formula) → is_regular_formula l (And fs) ≡ (nat_le 2 (length fs) && is_regular_formula_list l fs)
  regular_And fs = members fs

  pub regular_Or : (fs : List Formula) → is_regular_formula l (Or fs) ≡ (nat_le 2 (length fs) && is_regular_formula_list l fs)
  regular_Or fs = members fs

  pub regular_Not : (f : Formula) → is_regular_formula l (Not f) ≡ is_regular_formula l f
  regular_Not f = ap (is_regular_formula l) (Not_is f)

  pub regular_Pair : (op : Op) (f g : Formula) → is_regular_formula l (Pair op f g) ≡ (is_regular_formula l f && is_regular_formula l g)
  regular_Pair op f g = ap (is_regular_formula l) (Pair_is op f g)

  pub regular_Quant : (q : Quantifier) (x : List ℕ) (s : SortName) (f : Formula) → is_regular_formula l (Quant q x s f) ≡ (is_variable_text x && (is_regular_sort s && is_regular_formula l f))
  regular_Quant q x s f = ap (is_regular_formula l) (Quant_is q x s f)

  pub regular_Modal : (m : Mode) (i : IndexName) (f : Formula) → is_regular_formula l (Modal m i f) ≡ (l.modal && (is_regular_index i && is_regular_formula l f))
  regular_Modal m i f = ap (is_regular_formula l) (Modal_is m i f)
