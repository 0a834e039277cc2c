-- A numbered formula by its cases.
use Rattle.std.proofs.Common.{◌≡◌, ℕ, zero, suc, ◌<◌, List, [], ◌∷◌, ◌++◌, length, get_or, refl, sym, ap, ◌∙◌, arith}
use Rattle.std.specs.Prelude.{map, slice_get, Some}
use Rattle.std.proofs.lemmas.List.{map-append}
use Rattle.nxf_tree.specs.declared.tree.Signature.{Signature}
use Rattle.nxf_tree.specs.declared.tree.SortEntry.{SortEntry}
use Rattle.nxf_tree.specs.declared.tree.SymbolEntry.{SymbolEntry}
use Rattle.nxf_tree.specs.declared.tree.IndexEntry.{IndexEntry}
use Rattle.nxf_tree.specs.declared.tree.Op.{Op}
use Rattle.nxf_tree.specs.declared.tree.Quantifier.{Quantifier}
use Rattle.nxf_tree.specs.declared.tree.Mode.{Mode}
use Rattle.nxf_tree.specs.declared.tree.Term.{Term, Var}
use Rattle.nxf_tree.specs.declared.tree.Formula.{Formula, Atom, Same, Differ, Not, And, And', Or, Or', Pair, Quant, Modal, more_of-Formula}
use Rattle.nxf_tree.specs.declared.tree.Formula.TheBlock.{shape-the_row-Formula-1, hidden-the_row-Formula-1}
use Rattle.nxf_tree.specs.Shapes.{Not1, Pair2, Quant1, Not_is, Pair_is, Quant_is, Modal_is}
use Rattle.nxf_tree.specs.Names.{user_name, user_variable, user_sort, world_variable, existence_name, relation_name}
use Rattle.nxf_tree.specs.Signature.{is_constant, constant_regime}
use Rattle.nxf_tree.specs.Embedding.{st_term, st, guarded, over_worlds}
use Rattle.nxf_tree.specs.WellFormed.{HasDifferentNames}
use Rattle.numbered_definitions.specs.declared.node.NTerm.{NTerm}
use Rattle.numbered_definitions.specs.declared.node.Node.{Node}
use Rattle.numbered_definitions.specs.declared.node.Node as node
use Rattle.numbered_definitions.specs.NamedForm.{NodeNot, NodePair, NodeQuant, NodeModal, both, symbol_name, sort_name, index_name, named_term, named_terms, named_form, named_forms}
use Rattle.classical_syntax.proofs.CallerLemmas.{is_constant-place}
use Rattle.nxf_translate.specs.steps.Forms.{HasTerm, HasTerms, HasForm, HasForms, IsTerm, IsForm, AreForms}
use Rattle.numbered_definitions.proofs.CallerLemmas.{mapped, joined}
use Rattle.nxf_translate.proofs.Rows.{of_And, of_Or}
use Rattle.nxf_translate.proofs.TermCases.{named-place, named-at}
use denote.Hole.Carrier.{hidden}

-- one more member
put : Formula → Formula → Formula
put f (And' s r) = And' (tt ∷ s) (more_of-Formula f r)
put f (Or' s r) = Or' (tt ∷ s) (more_of-Formula f r)
put f g = g

st_of_And : (sig : Signature) (w : Term) (d : ℕ) (fs : List Formula) → st sig w d (And fs) ≡ And (map (st sig w d) fs)
unfolding put hidden-the_row-Formula-1 shape-the_row-Formula-1 hidden
st_of_And sig w d [] = refl
st_of_And sig w d (f ∷ fs) = ap (put (st sig w d f)) (st_of_And sig w d fs)

st_of_Or : (sig : Signature) (w : Term) (d : ℕ) (fs : List Formula) → st sig w d (Or fs) ≡ Or (map (st sig w d) fs)
unfolding put hidden-the_row-Formula-1 shape-the_row-Formula-1 hidden
st_of_Or sig w d [] = refl
st_of_Or sig w d (f ∷ fs) = ap (put (st sig w d f)) (st_of_Or sig w d fs)

module _ (sig : Signature) (xs : List (List ℕ)) where
  pub atom-terms : (k : ℕ) (ns : List NTerm) → HasForm sig xs (node.Atom k ns) → HasTerms sig xs ns
  atom-terms k ns h = joined Atom (symbol_name sig k) (named_terms sig xs ns) h.formula h.named (λ p ts e i j. record { terms = ts; named = i })

  pub same-left : (a b : NTerm) → HasForm sig xs (node.Same a b) → HasTerm sig xs a
  same-left a b h = joined Same (named_term sig xs a) (named_term sig xs b) h.formula h.named (λ t u e i j. record { term = t; named = e })

  pub same-right : (a b : NTerm) → HasForm sig xs (node.Same a b) → HasTerm sig xs b
  same-right a b h = joined Same (named_term sig xs a) (named_term sig xs b) h.formula h.named (λ t u e i j. record { term = u; named = i })

  pub differ-left : (a b : NTerm) → HasForm sig xs (node.Differ a b) → HasTerm sig xs a
  differ-left a b h = joined Differ (named_term sig xs a) (named_term sig xs b) h.formula h.named (λ t u e i j. record { term = t; named = e })

  pub differ-right : (a b : NTerm) → HasForm sig xs (node.Differ a b) → HasTerm sig xs b
  differ-right a b h = joined Differ (named_term sig xs a) (named_term sig xs b) h.formula h.named (λ t u e i j. record { term = u; named = i })

  pub not-part : (n : Node) → HasForm sig xs (NodeNot n) → HasForm sig xs n
  not-part n h = mapped Not (named_form sig xs n) h.formula h.named (λ g e i. record { formula = g; named = e })

  pub and-parts : (ns : List Node) → HasForm sig xs (node.And ns) → HasForms sig xs ns
  and-parts ns h = mapped And (named_forms sig xs ns) h.formula (sym (of_And sig xs ns) ∙ h.named) (λ gs e i. record { formulas = gs; named = e })

  pub or-parts : (ns : List Node) → HasForm sig xs (node.Or ns) → HasForms sig xs ns
  or-parts ns h = mapped Or (named_forms sig xs ns) h.formula (sym (of_Or sig xs ns) ∙ h.named) (λ gs e i. record { formulas = gs; named = e })

  pub pair-left : (op : Op) (a b : Node) → HasForm sig xs (NodePair op a b) → HasForm sig xs a
  pair-left op a b h =
      joined (Pair op) (named_form sig xs a) (named_form sig xs b) h.formula h.named (λ f g e i j. record { formula = f; named = e })

  pub pair-right : (op : Op) (a b : Node) → HasForm sig xs (NodePair op a b) → HasForm sig xs b
  pair-right op a b h =
      joined (Pair op) (named_form sig xs a) (named_form sig xs b) h.formula h.named (λ f g e i j. record { formula = g; named = i })

  pub quant-sort : (q : Quantifier) (k : ℕ) (x : List ℕ) (n : Node) → HasForm sig xs (NodeQuant q k x n) → k < length sig.sorts
  quant-sort q k x n h =
      joined (Quant q x) (sort_name sig k) (named_form sig (xs ++ x ∷ []) n) h.formula h.named (λ s g e i j. named-place (λ (e : SortEntry). e.name) sig.sorts k s e)

  pub quant-body : (q : Quantifier) (k : ℕ) (x : List ℕ) (n : Node) → HasForm sig xs (NodeQuant q k x n) → HasForm sig (xs ++ x ∷ []) n
  quant-body q k x n h =
      joined (Quant q x) (sort_name sig k) (named_form sig (xs ++ x ∷ []) n) h.formula h.named (λ s g e i j. record { formula = g; named = i })

  pub modal-index : (m : Mode) (k : ℕ) (n : Node) → HasForm sig xs (NodeModal m k n) → k < length sig.indexes
  modal-index m k n h =
      joined (Modal m) (index_name sig k) (named_form sig xs n) h.formula h.named (λ s g e i j. named-place (λ (e : IndexEntry). e.name) sig.indexes k s e)

  pub modal-body : (m : Mode) (k : ℕ) (n : Node) → HasForm sig xs (NodeModal m k n) → HasForm sig xs n
  modal-body m k n h =
      joined (Modal m) (index_name sig k) (named_form sig xs n) h.formula h.named (λ s g e i j. record { formula = g; named = i })

  module _ (w : Term) (d : ℕ) where
    pub atom-is : (k : ℕ) (ns : List NTerm) (entry : SymbolEntry) (ts : List Term) → slice_get sig.symbols k ≡ Some entry
        → ((us : List Term) → named_terms sig xs ns ≡ Some us → ts ≡ w ∷ map (st_term sig w) us)
        → IsForm sig xs w d (node.Atom k ns) (Atom (user_name entry.name) ts)
    atom-is k ns entry ts at h g named =
        joined Atom (symbol_name sig k) (named_terms sig xs ns) g named (λ p us e i j.
        (λ l. Atom (user_name (named-at (λ (e : SymbolEntry). e.name) sig.symbols k entry p at e l)) (h us i l)) ∙ ap (st sig w d) j)

    pub same-is : (a b : NTerm) (t u : Term) → IsTerm sig xs w a t → IsTerm sig xs w b u → IsForm sig xs w d (node.Same a b) (Same t u)
    same-is a b t u h k g named =
        joined Same (named_term sig xs a) (named_term sig xs b) g named (λ x y e i j. (λ l. Same (h x e l) (k y i l)) ∙ ap (st sig w d) j)

    pub differ-is : (a b : NTerm) (t u : Term) → IsTerm sig xs w a t → IsTerm sig xs w b u → IsForm sig xs w d (node.Differ a b) (Differ t u)
    differ-is a b t u h k g named =
        joined Differ (named_term sig xs a) (named_term sig xs b) g named (λ x y e i j. (λ l. Differ (h x e l) (k y i l)) ∙ ap (st sig w d) j)

    pub not-is : (n : Node) (f : Formula) → IsForm sig xs w d n f → IsForm sig xs w d (NodeNot n) (Not1 f)
    not-is n f h g named =
        mapped Not (named_form sig xs n) g named (λ p e i.
        (λ l. Not1 (h p e l)) ∙ ap (st sig w d) (sym (Not_is p) ∙ i))

    pub and-is : (ns : List Node) (fs : List Formula) → AreForms sig xs w d ns fs → IsForm sig xs w d (node.And ns) (And fs)
    and-is ns fs h g named =
        mapped And (named_forms sig xs ns) g (sym (of_And sig xs ns) ∙ named) (λ ps e i.
        ap And (h ps e) ∙ sym (st_of_And sig w d ps) ∙ ap (st sig w d) i)

    pub or-is : (ns : List Node) (fs : List Formula) → AreForms sig xs w d ns fs → IsForm sig xs w d (node.Or ns) (Or fs)
    or-is ns fs h g named =
        mapped Or (named_forms sig xs ns) g (sym (of_Or sig xs ns) ∙ named) (λ ps e i.
        ap Or (h ps e) ∙ sym (st_of_Or sig w d ps) ∙ ap (st sig w d) i)

    pub pair-is : (op : Op) (a b : Node) (f g : Formula) → IsForm sig xs w d a f → IsForm sig xs w d b g → IsForm sig xs w d (NodePair op a b) (Pair2 op f g)
    pair-is op a b f g h k z named =
        joined (Pair op) (named_form sig xs a) (named_form sig xs b) z named (λ p r e i j.
        (λ l. Pair2 op (h p e l) (k r i l)) ∙ ap (st sig w d) (sym (Pair_is op p r) ∙ j))

    pub quant-is : (q : Quantifier) (k : ℕ) (x : List ℕ) (n : Node) (entry : SortEntry) (f : Formula) → HasDifferentNames sig → slice_get sig.sorts k ≡ Some entry → IsForm sig (xs ++ x ∷ []) w d n f
        → IsForm sig xs w d (NodeQuant q k x n) (Quant1 q (user_variable x) (user_sort entry.name) (guarded (constant_regime entry.regime) q (Atom (existence_name entry.name) (w ∷ Var (user_variable x) ∷ [])) f))
    quant-is q k x n entry f different at h z named =
        joined (Quant q x) (sort_name sig k) (named_form sig (xs ++ x ∷ []) n) z named (λ s p e i j.
        (λ l. Quant1 q (user_variable x) (user_sort entry.name) (guarded (sym (is_constant-place sig different k entry at) l) q (Atom (existence_name entry.name) (w ∷ Var (user_variable x) ∷ [])) (h p i l)))
        ∙ ap (λ r. Quant1 q (user_variable x) (user_sort r) (guarded (is_constant sig r) q (Atom (existence_name r) (w ∷ Var (user_variable x) ∷ [])) (st sig w d p))) (named-at (λ (e : SortEntry). e.name) sig.sorts k entry s at e)
        ∙ ap (st sig w d) (sym (Quant_is q x s p) ∙ j))

    pub modal-is : (m : Mode) (k : ℕ) (n : Node) (entry : IndexEntry) (f : Formula) → slice_get sig.indexes k ≡ Some entry → IsForm sig xs (Var (world_variable d)) (suc d) n f
        → IsForm sig xs w d (NodeModal m k n) (over_worlds m d (Atom (relation_name entry.name) (w ∷ Var (world_variable d) ∷ [])) f)
    modal-is m k n entry f at h z named =
        joined (Modal m) (index_name sig k) (named_form sig xs n) z named (λ r p e i j.
        (λ l. over_worlds m d (Atom (relation_name (named-at (λ (e : IndexEntry). e.name) sig.indexes k entry r at e l)) (w ∷ Var (world_variable d) ∷ [])) (h p i l))
        ∙ ap (st sig w d) (sym (Modal_is m r p) ∙ j))

  -- one formula more
  pub forms-more : (ns : List Node) (n : Node) (us : List Formula) {P : Type 0} → named_forms sig xs (ns ++ n ∷ []) ≡ Some us
      → ((vs : List Formula) (v : Formula) → named_forms sig xs ns ≡ Some vs → named_form sig xs n ≡ Some v → vs ++ v ∷ [] ≡ us → P) → P
  forms-more [] n us h k =
      joined (λ t ts. t ∷ ts) (named_form sig xs n) (Some []) us h (λ v vs e i j. k [] v refl e (ap (λ l. v ∷ l) (nothing vs i) ∙ j))
    where
      nothing : (vs : List Formula) → Some [] ≡ Some vs → [] ≡ vs
      nothing vs i = cc
  forms-more (m ∷ ns) n us h k =
      joined (λ t ts. t ∷ ts) (named_form sig xs m) (named_forms sig xs (ns ++ n ∷ [])) us h (λ u rest e i j.
      forms-more ns n rest i (λ vs v named last is.
      k (u ∷ vs) v (λ l. both (λ t ts. t ∷ ts) (e l) (named l)) last (ap (λ l. u ∷ l) is ∙ j)))

  pub form-at : (ns : List Node) (i : ℕ) (d : Node) → i < length ns → HasForms sig xs ns → HasForm sig xs (get_or ns i d)
  form-at [] i d l h = absurd (omega arith)
  form-at (n ∷ ns) zero d l h =
      joined (λ t ts. t ∷ ts) (named_form sig xs n) (named_forms sig xs ns) h.formulas h.named (λ u us e i j. record { formula = u; named = e })
  form-at (n ∷ ns) (suc i) d l h =
      joined (λ t ts. t ∷ ts) (named_form sig xs n) (named_forms sig xs ns) h.formulas h.named (λ u us e j q. form-at ns i d (omega arith) (record { formulas = us; named = j }))

  -- the translation of one formula more
  pub forms-step : (w : Term) (d : ℕ) (ns : List Node) (n : Node) (fs : List Formula) (f : Formula) → AreForms sig xs w d ns fs → IsForm sig xs w d n f → AreForms sig xs w d (ns ++ n ∷ []) (fs ++ f ∷ [])
  forms-step w d ns n fs f h k gs named =
      forms-more ns n gs named (λ vs v front last is.
      (λ l. h vs front l ++ k v last l ∷ []) ∙ sym (map-append (st sig w d) vs (v ∷ [])) ∙ ap (map (st sig w d)) is)
