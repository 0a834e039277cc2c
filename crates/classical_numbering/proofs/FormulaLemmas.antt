-- Numbered formulas by the formulas that they stand for.
use Rattle.std.proofs.Common.{◌≡◌, ℕ, zero, suc, ◌<◌, ◌≤◌, false, List, [], ◌∷◌, ◌++◌, length, get_or, Some, refl, sym, ap, ◌∙◌, arith}
use Rattle.std.specs.Prelude.{slice_get}
use Rattle.std.specs.Option.{option_map}
use Rattle.nxf_tree.specs.declared.tree.ClassicalSignature.{ClassicalSignature}
use Rattle.nxf_tree.specs.declared.tree.SortName.{SortName}
use Rattle.nxf_tree.specs.declared.tree.Quantifier.{Quantifier}
use Rattle.nxf_tree.specs.declared.tree.Op.{Op}
use Rattle.nxf_tree.specs.declared.tree.Term.{Term}
use Rattle.nxf_tree.specs.declared.tree.Formula.{Formula, Atom, And, Or, Pair, Quant}
use Rattle.nxf_tree.specs.Names.{same_text, actual_name}
use Rattle.nxf_tree.specs.Depth.{formula_depth, formula_list_depth}
use Rattle.nxf_tree.specs.Shapes.{Pair2, Quant1, Pair_is, Quant_is}
use Rattle.name_laws.proofs.Spelling.{same_text-refl, true-false}
use Rattle.numbered_definitions.specs.declared.node.NTerm.{NTerm}
use Rattle.numbered_definitions.specs.declared.node.Node.{Node, Row_of-Node, end_of-Node, more_of-Node}
use Rattle.numbered_definitions.specs.declared.node.Node as node
use Rattle.numbered_definitions.specs.declared.node.Node.TheBlock.{hidden-the_row-Node-1, items-the_row-Node, items_hidden-the_row-Node-1}
use Rattle.numbered_definitions.specs.NamedForm.{NodePair, NodeQuant, both}
use Rattle.classical_evaluation_definitions.specs.ClassicalForm.{function_name, named_terms, named_form, named_nodes, named_forms}
use Rattle.classical_numbering.proofs.TermLemmas.{none_push, both_push}

-- a formula of a list is no deeper than the deepest
pub formula_within : (fs : List Formula) (i : ℕ) (d : Formula) → i < length fs → formula_depth (get_or fs i d) ≤ formula_list_depth fs
formula_within [] i d l = absurd (omega (arith, l))
formula_within (f ∷ fs) zero d l = omega arith
formula_within (f ∷ fs) (suc i) d l = omega (arith, formula_within fs i d (omega (arith, l)))

module _ (csig : ClassicalSignature) (xs : List (List ℕ)) where
  nodes_named : {m : _} (ns : Row_of-Node m) → named_nodes csig xs ns ≡ named_forms csig xs (items-the_row-Node _ ns)
  nodes_named end_of-Node = refl
  nodes_named (more_of-Node n ns) = ap (both (λ f fs. f ∷ fs) (named_form csig xs n)) (nodes_named ns)

  pub named_And : (ns : List Node) (fs : List Formula) → named_forms csig xs ns ≡ Some fs → named_form csig xs (node.And ns) ≡ Some (And fs)
  named_And ns fs h = ap (option_map And) (nodes_named (hidden-the_row-Node-1 ns) ∙ ap (named_forms csig xs) (items_hidden-the_row-Node-1 ns) ∙ h)

  pub named_Or : (ns : List Node) (fs : List Formula) → named_forms csig xs ns ≡ Some fs → named_form csig xs (node.Or ns) ≡ Some (Or fs)
  named_Or ns fs h = ap (option_map Or) (nodes_named (hidden-the_row-Node-1 ns) ∙ ap (named_forms csig xs) (items_hidden-the_row-Node-1 ns) ∙ h)

  -- a predicate that isn't named as `mk_actual` is
  pub named_Atom : (k : ℕ) (p : List ℕ) (ns : List NTerm) (ts : List Term) → function_name csig k ≡ Some p → same_text actual_name p ≡ false → named_terms csig xs ns ≡ Some ts → named_form csig xs (node.Atom k ns) ≡ Some (Atom p ts)
  named_Atom zero p ns ts h apart args =
      let is : actual_name ≡ p = cc in
      absurd (true-false (sym (same_text-refl actual_name) ∙ ap (same_text actual_name) is ∙ apart))
  named_Atom (suc t) p ns ts h apart args = λ i. both Atom (h i) (args i)

  pub named_Pair : (op : Op) (f g : Formula) (a b : Node) → named_form csig xs a ≡ Some f → named_form csig xs b ≡ Some g → named_form csig xs (NodePair op a b) ≡ Some (Pair2 op f g)
  named_Pair op f g a b h k = (λ i. both (Pair op) (h i) (k i)) ∙ ap Some (Pair_is op f g)

  pub named_Quant : (q : Quantifier) (x : List ℕ) (s : SortName) (f : Formula) (k : ℕ) (n : Node) → slice_get csig.sorts k ≡ Some s → named_form csig (xs ++ x ∷ []) n ≡ Some f → named_form csig xs (NodeQuant q k x n) ≡ Some (Quant1 q x s f)
  named_Quant q x s f k n h body = (λ i. both (Quant q x) (h i) (body i)) ∙ ap Some (Quant_is q x s f)

  pub forms_push : (ns : List Node) (fs : List Formula) (n : Node) (f : Formula) → named_forms csig xs ns ≡ Some fs → named_form csig xs n ≡ Some f → named_forms csig xs (ns ++ n ∷ []) ≡ Some (fs ++ f ∷ [])
  forms_push [] fs n f h k = none_push f fs (named_form csig xs n) h k
  forms_push (m ∷ ns) fs n f h k = both_push f fs (named_form csig xs m) (named_forms csig xs ns) (named_forms csig xs (ns ++ n ∷ [])) (λ us e. forms_push ns us n f e k) h
