-- A numbered formula that fits says what the formula says that it stands for.
use Rattle.std.proofs.Common.{◌≡◌, ℕ, suc, ◌<◌, List, [], ◌∷◌, ◌++◌, length, sym, ap, ◌∙◌, arith}
use Rattle.std.specs.Prelude.{◌&&◌, ◌||◌, not, nat_eq, map, slice_get, Some}
use Rattle.std.specs.Option.{option_map}
use Rattle.std.specs.List.{list_all, list_any, All as Each}
use Rattle.nxf_tree.specs.declared.tree.Signature.{Signature}
use Rattle.nxf_tree.specs.declared.tree.SortEntry.{SortEntry}
use Rattle.nxf_tree.specs.declared.tree.SymbolEntry.{SymbolEntry}
use Rattle.nxf_tree.specs.declared.tree.IndexEntry.{IndexEntry}
use Rattle.nxf_tree.specs.declared.tree.Quantifier.TheVariants.{All, Exists}
use Rattle.nxf_tree.specs.declared.tree.Mode.TheVariants.{Box, Dia}
use Rattle.nxf_tree.specs.declared.tree.Term.{Term, Var, App}
use Rattle.nxf_tree.specs.declared.tree.Formula.{Formula, True, False, Atom, Same, Differ, Not, And, Or, Pair, Quant, Modal}
use Rattle.nxf_tree.specs.Shapes.{Not_is, Pair_is, Quant_is, Modal_is}
use Rattle.nxf_tree.specs.Counting.{all_below, any_below, implies}
use Rattle.nxf_tree.specs.Rows.{Shape, size_at}
use Rattle.nxf_tree.specs.Kripke.{KripkeModel, connect, value_at, sat}
use Rattle.fin_struct.specs.KripkeTables.{KripkeTables, value_in, predicate_in, symbol_table}
use Rattle.structure_laws.specs.KripkeLaws.{HasPlaces, ReadsByName}
use Rattle.numbered_definitions.specs.declared.node.NTerm.{NTerm, Bound, Row_of-NTerm, end_of-NTerm, more_of-NTerm}
use Rattle.numbered_definitions.specs.declared.node.NTerm as numbered
use Rattle.numbered_definitions.specs.declared.node.Node.{Node, Row_of-Node, end_of-Node, more_of-Node}
use Rattle.numbered_definitions.specs.declared.node.Node as node
use Rattle.numbered_definitions.specs.NamedForm.{NodeNot, NodePair, NodeQuant, NodeModal, variable, symbol_name, sort_name, index_name, named_term, named_row, named_terms, named_form, named_nodes}
use Rattle.kripke_evaluation_definitions.specs.NumberedMeaning.{node_value, node_values, node_sat, all_nodes, some_node}
use Rattle.kripke_evaluation_definitions.specs.Fitting.{IsFunctionRow, IsPredicateRow, TermFits, TermsFit, Fits, AllFit}
use Rattle.evaluation_laws.specs.EvaluationLaws.{inside_out}
use Rattle.numbered_definitions.proofs.CallerLemmas.{mapped, joined}
use Rattle.evaluation_laws.proofs.Sizes.{some-size, no-size}
use Rattle.evaluation_laws.proofs.Bounds.{all_within, any_within}
use Rattle.evaluation_laws.proofs.Levels.{level-value, inside_out-push, both-longer}
use Rattle.evaluation_laws.proofs.SatCases.{value_of_App, sat_of_And, sat_of_Or}

module _ (sig : Signature) (view : KripkeTables) (K : KripkeModel) (reads : ReadsByName sig view K) (places : HasPlaces sig view) (worlds : K.worlds ≡ view.worlds) where
  -- a symbol by its name
  value-named : (y w : ℕ) (f : List ℕ) (args : List ℕ) → symbol_name sig y ≡ Some f → IsFunctionRow view y w args → value_in view y w args ≡ K.value f w args
  value-named y w f args named row =
      mapped (λ (entry : SymbolEntry). entry.name) (slice_get sig.symbols y) f named (λ entry at is.
      let values : (symbol_table view y).values ≡ option_map (size_at view.sizes) entry.gives = ap (λ (s : Shape). s.values) (places.shapes y entry at) in
      sym (reads.value y entry w args at (some-size (size_at view.sizes) entry.gives _ values row.function) row.row_in)
      ∙ ap (λ g. K.value g w args) is)

  holds-named : (y w : ℕ) (p : List ℕ) (args : List ℕ) → symbol_name sig y ≡ Some p → IsPredicateRow view y w args → predicate_in view y w args ≡ K.holds p w args
  holds-named y w p args named row =
      mapped (λ (entry : SymbolEntry). entry.name) (slice_get sig.symbols y) p named (λ entry at is.
      let values : (symbol_table view y).values ≡ option_map (size_at view.sizes) entry.gives = ap (λ (s : Shape). s.values) (places.shapes y entry at) in
      sym (reads.holds y entry w args at (no-size (size_at view.sizes) entry.gives _ values row.predicate) row.row_in)
      ∙ ap (λ g. K.holds g w args) is)

  module _ (xs : List (List ℕ)) (e : List ℕ) (long : length xs ≡ length e) (w : ℕ) where
    mutual
      pub value-law : (n : NTerm) (t : Term) → named_term sig xs n ≡ Some t → TermFits view w e n → node_value view w e n ≡ value_at K w (inside_out xs e) t
      value-law (Bound k) t h fits =
          mapped Var (variable xs k) t h (λ x at is. level-value xs e k x at long ∙ ap (value_at K w (inside_out xs e)) is)
      value-law (numbered.App' y shape ns) t h fits =
          joined App (symbol_name sig y) (named_row sig xs ns) t h (λ f ts at rest is.
          value-named y w f (node_values view w e ns) at fits.1
          ∙ ap (K.value f w) (values-law ns ts rest fits.0)
          ∙ sym (value_of_App K w (inside_out xs e) f ts)
          ∙ ap (value_at K w (inside_out xs e)) is)

      pub values-law : {m : _} (ns : Row_of-NTerm m) (ts : List Term) → named_row sig xs ns ≡ Some ts → TermsFit view w e ns → node_values view w e ns ≡ map (value_at K w (inside_out xs e)) ts
      values-law end_of-NTerm ts h fits = let is : ◌≡◌ {A = List Term} [] ts = cc in ap (map (value_at K w (inside_out xs e))) is
      values-law (more_of-NTerm n ns) ts h fits =
          joined (λ t us. t ∷ us) (named_term sig xs n) (named_row sig xs ns) ts h (λ t us at rest is.
          (λ i. value-law n t at fits.0 i ∷ values-law ns us rest fits.1 i) ∙ ap (map (value_at K w (inside_out xs e))) is)

    pub list-law : (ns : List NTerm) (ts : List Term) → named_terms sig xs ns ≡ Some ts → Each (TermFits view w e) ns → map (node_value view w e) ns ≡ map (value_at K w (inside_out xs e)) ts
    list-law [] ts h fits = let is : ◌≡◌ {A = List Term} [] ts = cc in ap (map (value_at K w (inside_out xs e))) is
    list-law (n ∷ ns) ts h fits =
        joined (λ t us. t ∷ us) (named_term sig xs n) (named_terms sig xs ns) ts h (λ t us at rest is.
        (λ i. value-law n t at (fits 0 n (omega arith)) i ∷ list-law ns us rest (λ k d l. fits (suc k) d (omega arith)) i) ∙ ap (map (value_at K w (inside_out xs e))) is)

  mutual
    pub node-law : (n : Node) (xs : List (List ℕ)) (e : List ℕ) (w : ℕ) (f : Formula) → named_form sig xs n ≡ Some f → length xs ≡ length e → w < view.worlds → Fits view w e n → node_sat view w e n ≡ sat K w (inside_out xs e) f
    node-law node.True xs e w f h long here fits = let is : True ≡ f = cc in ap (sat K w (inside_out xs e)) is
    node-law node.False xs e w f h long here fits = let is : False ≡ f = cc in ap (sat K w (inside_out xs e)) is
    node-law (node.Atom y ns) xs e w f h long here fits =
        joined Atom (symbol_name sig y) (named_terms sig xs ns) f h (λ p ts at rest is.
        holds-named y w p (map (node_value view w e) ns) at fits.1
        ∙ ap (K.holds p w) (list-law xs e long w ns ts rest fits.0)
        ∙ ap (sat K w (inside_out xs e)) is)
    node-law (node.Same a b) xs e w f h long here fits =
        joined Same (named_term sig xs a) (named_term sig xs b) f h (λ t u at rest is.
        (λ i. nat_eq (value-law xs e long w a t at fits.0 i) (value-law xs e long w b u rest fits.1 i)) ∙ ap (sat K w (inside_out xs e)) is)
    node-law (node.Differ a b) xs e w f h long here fits =
        joined Differ (named_term sig xs a) (named_term sig xs b) f h (λ t u at rest is.
        (λ i. not (nat_eq (value-law xs e long w a t at fits.0 i) (value-law xs e long w b u rest fits.1 i))) ∙ ap (sat K w (inside_out xs e)) is)
    node-law (NodeNot n) xs e w f h long here fits =
        mapped Not (named_form sig xs n) f h (λ g at is.
        ap not (node-law n xs e w g at long here fits) ∙ ap (sat K w (inside_out xs e)) (sym (Not_is g) ∙ is))
    node-law (node.And' shape ns) xs e w f h long here fits =
        mapped And (named_nodes sig xs ns) f h (λ gs at is.
        all-law ns xs e w gs at long here fits ∙ sym (sat_of_And K w (inside_out xs e) gs) ∙ ap (sat K w (inside_out xs e)) is)
    node-law (node.Or' shape ns) xs e w f h long here fits =
        mapped Or (named_nodes sig xs ns) f h (λ gs at is.
        some-law ns xs e w gs at long here fits ∙ sym (sat_of_Or K w (inside_out xs e) gs) ∙ ap (sat K w (inside_out xs e)) is)
    node-law (NodePair op a b) xs e w f h long here fits =
        joined (Pair op) (named_form sig xs a) (named_form sig xs b) f h (λ g k at rest is.
        (λ i. connect op (node-law a xs e w g at long here fits.0 i) (node-law b xs e w k rest long here fits.1 i))
        ∙ ap (sat K w (inside_out xs e)) (sym (Pair_is op g k) ∙ is))
    node-law (NodeQuant All k x n) xs e w f h long here fits =
        joined (Quant All x) (sort_name sig k) (named_form sig (xs ++ x ∷ []) n) f h (λ s g at rest is.
        mapped (λ (entry : SortEntry). entry.name) (slice_get sig.sorts k) s at (λ entry place name.
        all_within (size_at view.sizes k) _ (λ a. implies (K.present entry.name w a) (sat K w ((x, a) ∷ inside_out xs e) g)) (λ a l i.
        implies (sym (reads.present k entry w a place here l) i)
        ((node-law n (xs ++ x ∷ []) (e ++ a ∷ []) w g rest (both-longer xs e x a long) here (fits.1 a l) ∙ ap (λ d. sat K w d g) (inside_out-push xs e x a long)) i))
        ∙ ap (λ m. all_below m (λ a. implies (K.present entry.name w a) (sat K w ((x, a) ∷ inside_out xs e) g))) (sym (reads.size k entry place))
        ∙ ap (λ r. all_below (K.size r) (λ a. implies (K.present r w a) (sat K w ((x, a) ∷ inside_out xs e) g))) name
        ∙ ap (sat K w (inside_out xs e)) (sym (Quant_is All x s g) ∙ is)))
    node-law (NodeQuant Exists k x n) xs e w f h long here fits =
        joined (Quant Exists x) (sort_name sig k) (named_form sig (xs ++ x ∷ []) n) f h (λ s g at rest is.
        mapped (λ (entry : SortEntry). entry.name) (slice_get sig.sorts k) s at (λ entry place name.
        any_within (size_at view.sizes k) _ (λ a. K.present entry.name w a && sat K w ((x, a) ∷ inside_out xs e) g) (λ a l i.
        sym (reads.present k entry w a place here l) i
        && (node-law n (xs ++ x ∷ []) (e ++ a ∷ []) w g rest (both-longer xs e x a long) here (fits.1 a l) ∙ ap (λ d. sat K w d g) (inside_out-push xs e x a long)) i)
        ∙ ap (λ m. any_below m (λ a. K.present entry.name w a && sat K w ((x, a) ∷ inside_out xs e) g)) (sym (reads.size k entry place))
        ∙ ap (λ r. any_below (K.size r) (λ a. K.present r w a && sat K w ((x, a) ∷ inside_out xs e) g)) name
        ∙ ap (sat K w (inside_out xs e)) (sym (Quant_is Exists x s g) ∙ is)))
    node-law (NodeModal Box k n) xs e w f h long here fits =
        joined (Modal Box) (index_name sig k) (named_form sig xs n) f h (λ j g at rest is.
        mapped (λ (entry : IndexEntry). entry.name) (slice_get sig.indexes k) j at (λ entry place name.
        all_within view.worlds _ (λ v. implies (K.related entry.name w v) (sat K v (inside_out xs e) g)) (λ v l i.
        implies (sym (reads.related k entry w v place here l) i) (node-law n xs e v g rest long l (fits.1 v l) i))
        ∙ ap (λ m. all_below m (λ v. implies (K.related entry.name w v) (sat K v (inside_out xs e) g))) (sym worlds)
        ∙ ap (λ r. all_below K.worlds (λ v. implies (K.related r w v) (sat K v (inside_out xs e) g))) name
        ∙ ap (sat K w (inside_out xs e)) (sym (Modal_is Box j g) ∙ is)))
    node-law (NodeModal Dia k n) xs e w f h long here fits =
        joined (Modal Dia) (index_name sig k) (named_form sig xs n) f h (λ j g at rest is.
        mapped (λ (entry : IndexEntry). entry.name) (slice_get sig.indexes k) j at (λ entry place name.
        any_within view.worlds _ (λ v. K.related entry.name w v && sat K v (inside_out xs e) g) (λ v l i.
        sym (reads.related k entry w v place here l) i && node-law n xs e v g rest long l (fits.1 v l) i)
        ∙ ap (λ m. any_below m (λ v. K.related entry.name w v && sat K v (inside_out xs e) g)) (sym worlds)
        ∙ ap (λ r. any_below K.worlds (λ v. K.related r w v && sat K v (inside_out xs e) g)) name
        ∙ ap (sat K w (inside_out xs e)) (sym (Modal_is Dia j g) ∙ is)))

    pub all-law : {m : _} (ns : Row_of-Node m) (xs : List (List ℕ)) (e : List ℕ) (w : ℕ) (fs : List Formula) → named_nodes sig xs ns ≡ Some fs → length xs ≡ length e → w < view.worlds → AllFit view w e ns → all_nodes view w e ns ≡ list_all (sat K w (inside_out xs e)) fs
    all-law end_of-Node xs e w fs h long here fits = let is : ◌≡◌ {A = List Formula} [] fs = cc in ap (list_all (sat K w (inside_out xs e))) is
    all-law (more_of-Node n ns) xs e w fs h long here fits =
        joined (λ t us. t ∷ us) (named_form sig xs n) (named_nodes sig xs ns) fs h (λ g gs at rest is.
        (λ i. node-law n xs e w g at long here fits.0 i && all-law ns xs e w gs rest long here fits.1 i) ∙ ap (list_all (sat K w (inside_out xs e))) is)

    pub some-law : {m : _} (ns : Row_of-Node m) (xs : List (List ℕ)) (e : List ℕ) (w : ℕ) (fs : List Formula) → named_nodes sig xs ns ≡ Some fs → length xs ≡ length e → w < view.worlds → AllFit view w e ns → some_node view w e ns ≡ list_any (sat K w (inside_out xs e)) fs
    some-law end_of-Node xs e w fs h long here fits = let is : ◌≡◌ {A = List Formula} [] fs = cc in ap (list_any (sat K w (inside_out xs e))) is
    some-law (more_of-Node n ns) xs e w fs h long here fits =
        joined (λ t us. t ∷ us) (named_form sig xs n) (named_nodes sig xs ns) fs h (λ g gs at rest is.
        (λ i. node-law n xs e w g at long here fits.0 i || some-law ns xs e w gs rest long here fits.1 i) ∙ ap (list_any (sat K w (inside_out xs e))) is)
