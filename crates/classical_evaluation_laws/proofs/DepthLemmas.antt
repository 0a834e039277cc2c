-- A numbered classical term or formula is as deep as what it stands for.
use Rattle.std.proofs.Common.{◌≡◌, ℕ, zero, suc, ◌+◌, List, [], ◌∷◌, ◌++◌, sym, ap, ◌∙◌}
use Rattle.std.specs.Prelude.{max, slice_get, Some}
use Rattle.nxf_tree.specs.declared.tree.ClassicalSignature.{ClassicalSignature}
use Rattle.nxf_tree.specs.declared.tree.Term.{Term, Var, App}
use Rattle.nxf_tree.specs.declared.tree.Formula.{Formula, True, False, Atom, Same, Differ, Not, And, Or, Pair, Quant, Distinct}
use Rattle.nxf_tree.specs.Shapes.{Not_is, Pair_is, Quant_is}
use Rattle.nxf_tree.specs.Depth.{list_depth, formula_depth, formula_list_depth}
use Rattle.nxf_tree.specs.Depth.{term_depth as tree_depth}
use Rattle.numbered_definitions.specs.declared.node.NTerm.{NTerm, Bound, Row_of-NTerm, end_of-NTerm, more_of-NTerm}
use Rattle.numbered_definitions.specs.declared.node.NTerm as numbered
use Rattle.numbered_definitions.specs.declared.node.Node.{Node, Row_of-Node, end_of-Node, more_of-Node}
use Rattle.numbered_definitions.specs.declared.node.Node as node
use Rattle.numbered_definitions.specs.NamedForm.{NodeNot, NodePair, NodeQuant, NodeModal, variable}
use Rattle.classical_evaluation_definitions.specs.ClassicalForm.{table_name, function_name, named_term, named_row, named_terms, named_form, named_nodes}
use Rattle.numbered_definitions.proofs.CallerLemmas.{mapped, joined}
use Rattle.evaluation_laws.proofs.TreeDepths.{tree_App, tree_And, tree_Or}
use Rattle.kripke_evaluation_definitions.specs.NumberedDepth.{term_depth, row_depth, terms_depth, node_depth, node_row_depth}

module _ (csig : ClassicalSignature) where
  mutual
    term-same : (n : NTerm) (xs : List (List ℕ)) (t : Term) → named_term csig xs n ≡ Some t → term_depth n ≡ tree_depth t
    term-same (Bound k) xs t h = mapped Var (variable xs k) t h (λ x at is. ap tree_depth is)
    term-same (numbered.App' y shape ns) xs t h =
        joined App (function_name csig y) (named_row csig xs ns) t h (λ f ts at rest is.
        ap (λ n. n + 1) (row-same ns xs ts rest) ∙ sym (tree_App f ts) ∙ ap tree_depth is)

    row-same : {m : _} (ns : Row_of-NTerm m) (xs : List (List ℕ)) (ts : List Term) → named_row csig xs ns ≡ Some ts → row_depth ns ≡ list_depth ts
    row-same end_of-NTerm xs ts h = let is : ◌≡◌ {A = List Term} [] ts = cc in ap list_depth is
    row-same (more_of-NTerm n ns) xs ts h =
        joined (λ t us. t ∷ us) (named_term csig xs n) (named_row csig xs ns) ts h (λ t us at rest is.
        (λ i. max (term-same n xs t at i) (row-same ns xs us rest i)) ∙ ap list_depth is)

  list-same : (ns : List NTerm) (xs : List (List ℕ)) (ts : List Term) → named_terms csig xs ns ≡ Some ts → terms_depth ns ≡ list_depth ts
  list-same [] xs ts h = let is : ◌≡◌ {A = List Term} [] ts = cc in ap list_depth is
  list-same (n ∷ ns) xs ts h =
      joined (λ t us. t ∷ us) (named_term csig xs n) (named_terms csig xs ns) ts h (λ t us at rest is.
      (λ i. max (term-same n xs t at i) (list-same ns xs us rest i)) ∙ ap list_depth is)

  mutual
    pub depth-same : (n : Node) (xs : List (List ℕ)) (f : Formula) → named_form csig xs n ≡ Some f → node_depth n ≡ formula_depth f
    depth-same node.True xs f h = let is : True ≡ f = cc in ap formula_depth is
    depth-same node.False xs f h = let is : False ≡ f = cc in ap formula_depth is
    depth-same (node.Atom zero ns) xs f h =
        mapped Distinct (named_terms csig xs ns) f h (λ ts at is. ap (λ n. n + 1) (list-same ns xs ts at) ∙ ap formula_depth is)
    depth-same (node.Atom (suc t) ns) xs f h =
        joined Atom (table_name csig t) (named_terms csig xs ns) f h (λ p ts at rest is. ap (λ n. n + 1) (list-same ns xs ts rest) ∙ ap formula_depth is)
    depth-same (node.Same a b) xs f h =
        joined Same (named_term csig xs a) (named_term csig xs b) f h (λ t u at rest is. (λ i. max (term-same a xs t at i) (term-same b xs u rest i) + 1) ∙ ap formula_depth is)
    depth-same (node.Differ a b) xs f h =
        joined Differ (named_term csig xs a) (named_term csig xs b) f h (λ t u at rest is. (λ i. max (term-same a xs t at i) (term-same b xs u rest i) + 1) ∙ ap formula_depth is)
    depth-same (NodeNot n) xs f h =
        mapped Not (named_form csig xs n) f h (λ g at is. ap (λ k. k + 1) (depth-same n xs g at) ∙ ap formula_depth (sym (Not_is g) ∙ is))
    depth-same (node.And' shape ns) xs f h =
        mapped And (named_nodes csig xs ns) f h (λ gs at is. ap (λ k. k + 1) (nodes-same ns xs gs at) ∙ sym (tree_And gs) ∙ ap formula_depth is)
    depth-same (node.Or' shape ns) xs f h =
        mapped Or (named_nodes csig xs ns) f h (λ gs at is. ap (λ k. k + 1) (nodes-same ns xs gs at) ∙ sym (tree_Or gs) ∙ ap formula_depth is)
    depth-same (NodePair op a b) xs f h =
        joined (Pair op) (named_form csig xs a) (named_form csig xs b) f h (λ g k at rest is.
        (λ i. max (depth-same a xs g at i) (depth-same b xs k rest i) + 1) ∙ ap formula_depth (sym (Pair_is op g k) ∙ is))
    depth-same (NodeQuant q k x n) xs f h =
        joined (Quant q x) (slice_get csig.sorts k) (named_form csig (xs ++ x ∷ []) n) f h (λ s g at rest is.
        ap (λ k. k + 1) (depth-same n (xs ++ x ∷ []) g rest) ∙ ap formula_depth (sym (Quant_is q x s g) ∙ is))
    depth-same (NodeModal m k n) xs f h = absurd cc

    nodes-same : {m : _} (ns : Row_of-Node m) (xs : List (List ℕ)) (fs : List Formula) → named_nodes csig xs ns ≡ Some fs → node_row_depth ns ≡ formula_list_depth fs
    nodes-same end_of-Node xs fs h = let is : ◌≡◌ {A = List Formula} [] fs = cc in ap formula_list_depth is
    nodes-same (more_of-Node n ns) xs fs h =
        joined (λ t us. t ∷ us) (named_form csig xs n) (named_nodes csig xs ns) fs h (λ g gs at rest is.
        (λ i. max (depth-same n xs g at i) (nodes-same ns xs gs rest i)) ∙ ap formula_list_depth is)
