-- A numbered classical formula that fits says what the formula says that it stands for.
use Rattle.std.proofs.Common.{◌≡◌, ℕ, zero, suc, List, [], ◌∷◌, ◌++◌, length, sym, ap, ◌∙◌, arith}
use Rattle.std.specs.Prelude.{◌&&◌, ◌||◌, not, nat_eq, map, slice_get, Some}
use Rattle.std.specs.Option.{option_map}
use Rattle.std.specs.List.{list_all, list_any, All as Each}
use Rattle.nxf_tree.specs.declared.tree.ClassicalSignature.{ClassicalSignature}
use Rattle.nxf_tree.specs.declared.tree.TableEntry.{TableEntry}
use Rattle.nxf_tree.specs.declared.tree.Quantifier.TheVariants.{All, Exists}
use Rattle.nxf_tree.specs.declared.tree.Term.{Term, Var, App}
use Rattle.nxf_tree.specs.declared.tree.Formula.{Formula, True, False, Atom, Same, Differ, Not, And, Or, Pair, Quant, Distinct}
use Rattle.nxf_tree.specs.Shapes.{Not_is, Pair_is, Quant_is}
use Rattle.nxf_tree.specs.Names.{actual_name}
use Rattle.nxf_tree.specs.Counting.{all_below, any_below, all_different}
use Rattle.nxf_tree.specs.Rows.{Shape, size_at}
use Rattle.nxf_tree.specs.Kripke.{connect}
use Rattle.nxf_tree.specs.Classical.{ClassicalModel, cvalue, csat}
use Rattle.fin_struct.specs.Cells.{table_at}
use Rattle.fin_struct.specs.StructureTables.{StructureTables, IsFor}
use Rattle.structure_laws.specs.ClassicalNamed.{ReadsByPrintedName}
use Rattle.numbered_definitions.specs.declared.node.NTerm.{NTerm, Bound, Row_of-NTerm, end_of-NTerm, more_of-NTerm}
use Rattle.numbered_definitions.specs.declared.node.NTerm as numbered
use Rattle.numbered_definitions.specs.declared.node.Node.{Node, Row_of-Node, end_of-Node, more_of-Node}
use Rattle.numbered_definitions.specs.declared.node.Node as node
use Rattle.numbered_definitions.specs.NamedForm.{NodeNot, NodePair, NodeQuant, NodeModal, variable}
use Rattle.classical_evaluation_definitions.specs.ClassicalForm.{table_name, function_name, named_term, named_row, named_terms, named_form, named_nodes}
use Rattle.classical_evaluation_definitions.specs.ClassicalMeaning.{function_in, predicate_in, node_value, node_values, node_sat, all_nodes, some_node}
use Rattle.classical_evaluation_definitions.specs.ClassicalFitting.{IsFunctionRow, IsPredicateRow, TermFits, TermsFit, Fits, AllFit}
use Rattle.classical_evaluation_laws.proofs.TableNames.{shape-at}
use Rattle.evaluation_laws.specs.EvaluationLaws.{inside_out}
use Rattle.numbered_definitions.proofs.CallerLemmas.{mapped, joined}
use Rattle.evaluation_laws.proofs.Sizes.{some-size, no-size}
use Rattle.evaluation_laws.proofs.Bounds.{all_within, any_within}
use Rattle.evaluation_laws.proofs.Levels.{level-value, inside_out-push, both-longer}
use Rattle.classical_evaluation_laws.proofs.SatCases.{value_of_App, sat_of_And, sat_of_Or}

module _ (csig : ClassicalSignature) (view : StructureTables) (S : ClassicalModel) (reads : ReadsByPrintedName csig view S) (over : IsFor csig view) where
  values-at : (t : ℕ) (entry : TableEntry) → slice_get csig.tables t ≡ Some entry → (table_at view.tables t).values ≡ option_map (size_at view.sizes) entry.gives
  values-at t entry at = ap (λ (s : Shape). s.values) (shape-at csig view over t entry at)

  -- a function and a predicate by their names
  value-named : (y : ℕ) (f : List ℕ) (row : List ℕ) → function_name csig y ≡ Some f → IsFunctionRow view y row → function_in view y row ≡ S.value f row
  value-named zero f row named fits =
      let is : actual_name ≡ f = cc in
      sym (reads.actual row) ∙ ap (λ g. S.value g row) is
  value-named (suc t) f row named fits =
      mapped (λ (entry : TableEntry). entry.name) (slice_get csig.tables t) f named (λ entry at is.
      sym (reads.value t entry row at (some-size (size_at view.sizes) entry.gives _ (values-at t entry at) fits.0) fits.1.row_in)
      ∙ ap (λ g. S.value g row) is)

  holds-named : (t : ℕ) (p : List ℕ) (row : List ℕ) → table_name csig t ≡ Some p → IsPredicateRow view (suc t) row → predicate_in view (suc t) row ≡ S.holds p row
  holds-named t p row named fits =
      mapped (λ (entry : TableEntry). entry.name) (slice_get csig.tables t) p named (λ entry at is.
      sym (reads.holds t entry row at (no-size (size_at view.sizes) entry.gives _ (values-at t entry at) fits.0) fits.1.row_in)
      ∙ ap (λ g. S.holds g row) is)

  module _ (xs : List (List ℕ)) (e : List ℕ) (long : length xs ≡ length e) where
    mutual
      pub value-law : (n : NTerm) (t : Term) → named_term csig xs n ≡ Some t → TermFits view e n → node_value view e n ≡ cvalue S (inside_out xs e) t
      value-law (Bound k) t h fits =
          mapped Var (variable xs k) t h (λ x at is. level-value xs e k x at long ∙ ap (cvalue S (inside_out xs e)) is)
      value-law (numbered.App' y shape ns) t h fits =
          joined App (function_name csig y) (named_row csig xs ns) t h (λ f ts at rest is.
          value-named y f (node_values view e ns) at fits.1
          ∙ ap (S.value f) (values-law ns ts rest fits.0)
          ∙ sym (value_of_App S (inside_out xs e) f ts)
          ∙ ap (cvalue S (inside_out xs e)) is)

      pub values-law : {m : _} (ns : Row_of-NTerm m) (ts : List Term) → named_row csig xs ns ≡ Some ts → TermsFit view e ns → node_values view e ns ≡ map (cvalue S (inside_out xs e)) ts
      values-law end_of-NTerm ts h fits = let is : ◌≡◌ {A = List Term} [] ts = cc in ap (map (cvalue S (inside_out xs e))) is
      values-law (more_of-NTerm n ns) ts h fits =
          joined (λ t us. t ∷ us) (named_term csig xs n) (named_row csig xs ns) ts h (λ t us at rest is.
          (λ i. value-law n t at fits.0 i ∷ values-law ns us rest fits.1 i) ∙ ap (map (cvalue S (inside_out xs e))) is)

    pub list-law : (ns : List NTerm) (ts : List Term) → named_terms csig xs ns ≡ Some ts → Each (TermFits view e) ns → map (node_value view e) ns ≡ map (cvalue S (inside_out xs e)) ts
    list-law [] ts h fits = let is : ◌≡◌ {A = List Term} [] ts = cc in ap (map (cvalue S (inside_out xs e))) is
    list-law (n ∷ ns) ts h fits =
        joined (λ t us. t ∷ us) (named_term csig xs n) (named_terms csig xs ns) ts h (λ t us at rest is.
        (λ i. value-law n t at (fits 0 n (omega arith)) i ∷ list-law ns us rest (λ k d l. fits (suc k) d (omega arith)) i) ∙ ap (map (cvalue S (inside_out xs e))) is)

  mutual
    pub node-law : (n : Node) (xs : List (List ℕ)) (e : List ℕ) (f : Formula) → named_form csig xs n ≡ Some f → length xs ≡ length e → Fits view e n → node_sat view e n ≡ csat S (inside_out xs e) f
    node-law node.True xs e f h long fits = let is : True ≡ f = cc in ap (csat S (inside_out xs e)) is
    node-law node.False xs e f h long fits = let is : False ≡ f = cc in ap (csat S (inside_out xs e)) is
    node-law (node.Atom zero ns) xs e f h long fits =
        mapped Distinct (named_terms csig xs ns) f h (λ ts at is.
        ap (all_different nat_eq) (list-law xs e long ns ts at fits.0) ∙ ap (csat S (inside_out xs e)) is)
    node-law (node.Atom (suc t) ns) xs e f h long fits =
        joined Atom (table_name csig t) (named_terms csig xs ns) f h (λ p ts at rest is.
        holds-named t p (map (node_value view e) ns) at fits.1
        ∙ ap (S.holds p) (list-law xs e long ns ts rest fits.0)
        ∙ ap (csat S (inside_out xs e)) is)
    node-law (node.Same a b) xs e f h long fits =
        joined Same (named_term csig xs a) (named_term csig xs b) f h (λ t u at rest is.
        (λ i. nat_eq (value-law xs e long a t at fits.0 i) (value-law xs e long b u rest fits.1 i)) ∙ ap (csat S (inside_out xs e)) is)
    node-law (node.Differ a b) xs e f h long fits =
        joined Differ (named_term csig xs a) (named_term csig xs b) f h (λ t u at rest is.
        (λ i. not (nat_eq (value-law xs e long a t at fits.0 i) (value-law xs e long b u rest fits.1 i))) ∙ ap (csat S (inside_out xs e)) is)
    node-law (NodeNot n) xs e f h long fits =
        mapped Not (named_form csig xs n) f h (λ g at is.
        ap not (node-law n xs e g at long fits) ∙ ap (csat S (inside_out xs e)) (sym (Not_is g) ∙ is))
    node-law (node.And' shape ns) xs e f h long fits =
        mapped And (named_nodes csig xs ns) f h (λ gs at is.
        all-law ns xs e gs at long fits ∙ sym (sat_of_And S (inside_out xs e) gs) ∙ ap (csat S (inside_out xs e)) is)
    node-law (node.Or' shape ns) xs e f h long fits =
        mapped Or (named_nodes csig xs ns) f h (λ gs at is.
        some-law ns xs e gs at long fits ∙ sym (sat_of_Or S (inside_out xs e) gs) ∙ ap (csat S (inside_out xs e)) is)
    node-law (NodePair op a b) xs e f h long fits =
        joined (Pair op) (named_form csig xs a) (named_form csig xs b) f h (λ g k at rest is.
        (λ i. connect op (node-law a xs e g at long fits.0 i) (node-law b xs e k rest long fits.1 i))
        ∙ ap (csat S (inside_out xs e)) (sym (Pair_is op g k) ∙ is))
    node-law (NodeQuant All k x n) xs e f h long fits =
        joined (Quant All x) (slice_get csig.sorts k) (named_form csig (xs ++ x ∷ []) n) f h (λ s g at rest is.
        all_within (size_at view.sizes k) _ (λ a. csat S ((x, a) ∷ inside_out xs e) g) (λ a l.
        node-law n (xs ++ x ∷ []) (e ++ a ∷ []) g rest (both-longer xs e x a long) (fits.1 a l) ∙ ap (λ d. csat S d g) (inside_out-push xs e x a long))
        ∙ ap (λ m. all_below m (λ a. csat S ((x, a) ∷ inside_out xs e) g)) (sym (reads.size k s at))
        ∙ ap (csat S (inside_out xs e)) (sym (Quant_is All x s g) ∙ is))
    node-law (NodeQuant Exists k x n) xs e f h long fits =
        joined (Quant Exists x) (slice_get csig.sorts k) (named_form csig (xs ++ x ∷ []) n) f h (λ s g at rest is.
        any_within (size_at view.sizes k) _ (λ a. csat S ((x, a) ∷ inside_out xs e) g) (λ a l.
        node-law n (xs ++ x ∷ []) (e ++ a ∷ []) g rest (both-longer xs e x a long) (fits.1 a l) ∙ ap (λ d. csat S d g) (inside_out-push xs e x a long))
        ∙ ap (λ m. any_below m (λ a. csat S ((x, a) ∷ inside_out xs e) g)) (sym (reads.size k s at))
        ∙ ap (csat S (inside_out xs e)) (sym (Quant_is Exists x s g) ∙ is))
    node-law (NodeModal m i n) xs e f h long fits = absurd fits

    pub all-law : {m : _} (ns : Row_of-Node m) (xs : List (List ℕ)) (e : List ℕ) (fs : List Formula) → named_nodes csig xs ns ≡ Some fs → length xs ≡ length e → AllFit view e ns → all_nodes view e ns ≡ list_all (csat S (inside_out xs e)) fs
    all-law end_of-Node xs e fs h long fits = let is : ◌≡◌ {A = List Formula} [] fs = cc in ap (list_all (csat S (inside_out xs e))) is
    all-law (more_of-Node n ns) xs e fs h long fits =
        joined (λ t us. t ∷ us) (named_form csig xs n) (named_nodes csig xs ns) fs h (λ g gs at rest is.
        (λ i. node-law n xs e g at long fits.0 i && all-law ns xs e gs rest long fits.1 i) ∙ ap (list_all (csat S (inside_out xs e))) is)

    pub some-law : {m : _} (ns : Row_of-Node m) (xs : List (List ℕ)) (e : List ℕ) (fs : List Formula) → named_nodes csig xs ns ≡ Some fs → length xs ≡ length e → AllFit view e ns → some_node view e ns ≡ list_any (csat S (inside_out xs e)) fs
    some-law end_of-Node xs e fs h long fits = let is : ◌≡◌ {A = List Formula} [] fs = cc in ap (list_any (csat S (inside_out xs e))) is
    some-law (more_of-Node n ns) xs e fs h long fits =
        joined (λ t us. t ∷ us) (named_form csig xs n) (named_nodes csig xs ns) fs h (λ g gs at rest is.
        (λ i. node-law n xs e g at long fits.0 i || some-law ns xs e gs rest long fits.1 i) ∙ ap (list_any (csat S (inside_out xs e))) is)
