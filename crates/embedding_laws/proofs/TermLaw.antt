-- The term axioms are true exactly where the conditions on terms hold.
use Rattle.std.proofs.Common.{◌≡◌, ℕ, suc, ◌≤◌, Bool, true, false, List, [], ◌∷◌, refl, sym, ap, ◌∙◌, arith}
use Rattle.std.specs.Prelude.{◌&&◌, if◌then◌else◌, map, Option, None, Some}
use Rattle.nxf_tree.specs.declared.tree.SymbolEntry.{SymbolEntry}
use Rattle.nxf_tree.specs.declared.tree.SortName.{SortName}
use Rattle.nxf_tree.specs.declared.tree.Locality.{Locality}
use Rattle.nxf_tree.specs.declared.tree.Locality.TheVariants.{Local, Global}
use Rattle.nxf_tree.specs.declared.tree.Signature.{Signature}
use Rattle.nxf_tree.specs.declared.tree.Term.{Term}
use Rattle.nxf_tree.specs.declared.tree.Formula.{Formula, And, Row_of-Formula, end_of-Formula, more_of-Formula}
use Rattle.nxf_tree.specs.declared.tree.Formula.TheBlock.{hidden-the_row-Formula-1, items-the_row-Formula, items_hidden-the_row-Formula-1}
use Rattle.nxf_tree.specs.Counting.{implies}
use Rattle.std.specs.List.{list_all}
use Rattle.nxf_tree.specs.Names.{same_text, world_variable, element_variable, existence_name, user_name}
use Rattle.nxf_tree.specs.Signature.{is_constant, is_flexible, sort_at}
use Rattle.nxf_tree.specs.Kripke.{KripkeModel, Env, look}
use Rattle.nxf_tree.specs.Classical.{ClassicalModel, cvalue, csat, all_csat}
use Rattle.nxf_tree.specs.Embedding.{at_world}
use Rattle.nxf_tree.specs.Conditions.{local_result, argument_sorts, each_row, all_present, values_exist, meets_result, meets_terms}
use Rattle.nxf_tree.specs.Axioms.{world, exists_at, elements_from, for_each_row, row_guards, under_guards, value_is_there, term_axiom, result_axioms, term_axioms_of, term_axioms}
use Rattle.name_laws.specs.Agreement.{Agrees}
use Rattle.name_laws.proofs.Bounds.{and-true, all_below-same}
use Rattle.std.proofs.lemmas.List.Folds.{list_all-append}
use Rattle.name_laws.proofs.Spelling.{same_text-refl, element_variables-differ, element_variable-world}
use Rattle.embedding_laws.proofs.Terms.{cvalue-App}
use Rattle.name_laws.proofs.Tables.{SameLength}

row-list_all : (S : ClassicalModel) (e : Env) {m : _} (fs : Row_of-Formula m) → all_csat S e fs ≡ list_all (csat S e) (items-the_row-Formula _ fs)
row-list_all S e end_of-Formula = refl
row-list_all S e (more_of-Formula f fs) = ap (λ b. csat S e f && b) (row-list_all S e fs)

pub csat-And : (S : ClassicalModel) (e : Env) (fs : List Formula) → csat S e (And fs) ≡ list_all (csat S e) fs
csat-And S e fs = row-list_all S e (hidden-the_row-Formula-1 fs) ∙ ap (list_all (csat S e)) (items_hidden-the_row-Formula-1 fs)

guarded-law : (S : ClassicalModel) (e : Env) (gs : List Formula) (f : Formula) → csat S e (under_guards gs f) ≡ implies (list_all (csat S e) gs) (csat S e f)
guarded-law S e [] f = refl
guarded-law S e (g ∷ []) f = λ i. implies (sym (and-true (csat S e g)) i) (csat S e f)
guarded-law S e (g ∷ h ∷ gs) f = λ i. implies (csat-And S e (g ∷ h ∷ gs) i) (csat S e f)

-- the elements of a row, under the numbers from k on
abbrev bind_row : ℕ → List ℕ → Env → Env
bind_row k [] e = e
bind_row k (a ∷ row) e = bind_row (suc k) row ((element_variable k, a) ∷ e)

unbound : (x : List ℕ) (row : List ℕ) (k : ℕ) (e : Env) → ((j : ℕ) → k ≤ j → same_text (element_variable j) x ≡ false) → look (bind_row k row e) x ≡ look e x
unbound x [] k e h = refl
unbound x (a ∷ row) k e h =
    unbound x row (suc k) ((element_variable k, a) ∷ e) (λ j l. h j (omega arith)) ∙ ap (λ b. if b then a else look e x) (h k (omega arith))

element-value : (row : List ℕ) (k a : ℕ) (e : Env) → look (bind_row (suc k) row ((element_variable k, a) ∷ e)) (element_variable k) ≡ a
element-value row k a e =
    unbound (element_variable k) row (suc k) ((element_variable k, a) ∷ e) (λ j l. element_variables-differ k j (omega arith))
    ∙ ap (λ b. if b then a else look e (element_variable k)) (same_text-refl (element_variable k))

world-value : (row : List ℕ) (w : ℕ) → look (bind_row 0 row ((world_variable 0, w) ∷ [])) (world_variable 0) ≡ w
world-value row w =
    unbound (world_variable 0) row 0 ((world_variable 0, w) ∷ []) (λ j l. element_variable-world j 0)
    ∙ ap (λ b. if b then w else 0) (same_text-refl (world_variable 0))

elements-value : (S : ClassicalModel) (ss : List SortName) (row : List ℕ) (k : ℕ) (e : Env) → SameLength ss row → map (cvalue S (bind_row k row e)) (elements_from k ss) ≡ row
elements-value S [] [] k e l = refl
elements-value S [] (a ∷ row) k e l = absurd l
elements-value S (s ∷ ss) [] k e l = absurd l
elements-value S (s ∷ ss) (a ∷ row) k e l = λ i. element-value row k a e i ∷ elements-value S ss row (suc k) ((element_variable k, a) ∷ e) l i

each_row-same : (K : KripkeModel) (ss : List SortName) (p q : List ℕ → Bool) → ((row : List ℕ) → SameLength ss row → p row ≡ q row) → each_row K ss p ≡ each_row K ss q
each_row-same K [] p q h = h [] tt
each_row-same K (s ∷ ss) p q h = all_below-same (K.size s) (K.size s) _ _ refl (λ a. each_row-same K ss (λ row. p (a ∷ row)) (λ row. q (a ∷ row)) (λ row l. h (a ∷ row) l))

module _ (sig : Signature) (K : KripkeModel) (S : ClassicalModel) (c : Agrees sig K S) where
  row-binds : (ss : List SortName) (k : ℕ) (e : Env) (f : Formula) → csat S e (for_each_row k ss f) ≡ each_row K ss (λ row. csat S (bind_row k row e) f)
  row-binds [] k e f = refl
  row-binds (s ∷ ss) k e f = all_below-same _ _ _ _ (c.sizes s) (λ a. row-binds ss (suc k) ((element_variable k, a) ∷ e) f)

  guard-law : (e : Env) (w a k : ℕ) (s : SortName) (b : Bool) (gs : List Formula) (r : Bool) → is_constant sig s ≡ b → look e (world_variable 0) ≡ w → look e (element_variable k) ≡ a → list_all (csat S e) gs ≡ r → list_all (csat S e) (if b then gs else exists_at s 0 k ∷ gs) ≡ K.present s w a && r
  guard-law e w a k s true gs r q at value h = h ∙ ap (λ p. p && r) (sym (c.everywhere s w a q))
  guard-law e w a k s false gs r q at value h =
      λ i. ((λ j. S.holds (existence_name s) (at j ∷ value j ∷ [])) ∙ c.present s w a q) i && h i

  guards-law : (w : ℕ) (ss : List SortName) (row : List ℕ) (k : ℕ) (e : Env) → SameLength ss row → look (bind_row k row e) (world_variable 0) ≡ w → list_all (csat S (bind_row k row e)) (row_guards sig k ss) ≡ all_present K w ss row
  guards-law w [] [] k e l at = refl
  guards-law w [] (a ∷ row) k e l at = absurd l
  guards-law w (s ∷ ss) [] k e l at = absurd l
  guards-law w (s ∷ ss) (a ∷ row) k e l at =
      guard-law (bind_row k (a ∷ row) e) w a k s _ _ _ refl at (element-value row k a e) (guards-law w ss row (suc k) ((element_variable k, a) ∷ e) l at)

  applied : (b : Bool) (f : List ℕ) (e : Env) (w : ℕ) (ts : List Term) (row : List ℕ) → is_flexible sig f ≡ b → look e (world_variable 0) ≡ w → map (cvalue S e) ts ≡ row → S.value (user_name f) (map (cvalue S e) (at_world b (world 0) ts)) ≡ K.value f w row
  applied true f e w ts row q at h = ap (S.value (user_name f)) (λ i. at i ∷ h i) ∙ c.flexible f w row q
  applied false f e w ts row q at h = ap (S.value (user_name f)) h ∙ c.rigid f w row q

  value-law : (f : List ℕ) (ss : List SortName) (r : SortName) (w : ℕ) (row : List ℕ) (e : Env) → is_constant sig r ≡ false → look e (world_variable 0) ≡ w → map (cvalue S e) (elements_from 0 ss) ≡ row → csat S e (value_is_there sig f ss r) ≡ K.present r w (K.value f w row)
  value-law f ss r w row e q at h =
      (λ i. S.holds (existence_name r) (at i ∷ (cvalue-App S e (user_name f) (at_world (is_flexible sig f) (world 0) (elements_from 0 ss)) ∙ applied _ f e w (elements_from 0 ss) row refl at h) i ∷ []))
      ∙ c.present r w (K.value f w row) q

  row-law : (f : List ℕ) (ss : List SortName) (r : SortName) (w : ℕ) (row : List ℕ) → is_constant sig r ≡ false → SameLength ss row → csat S (bind_row 0 row ((world_variable 0, w) ∷ [])) (under_guards (row_guards sig 0 ss) (value_is_there sig f ss r)) ≡ implies (all_present K w ss row) (K.present r w (K.value f w row))
  row-law f ss r w row q l =
      guarded-law S (bind_row 0 row ((world_variable 0, w) ∷ [])) (row_guards sig 0 ss) (value_is_there sig f ss r)
      ∙ (λ i. implies (guards-law w ss row 0 ((world_variable 0, w) ∷ []) l (world-value row w) i)
      (value-law f ss r w row (bind_row 0 row ((world_variable 0, w) ∷ [])) q (world-value row w) (elements-value S ss row 0 ((world_variable 0, w) ∷ []) l) i))

  term-law : (f : List ℕ) (ss : List SortName) (r : SortName) → is_constant sig r ≡ false → csat S [] (term_axiom sig f ss r) ≡ values_exist K f ss r
  term-law f ss r q =
      all_below-same _ _ _ _ c.worlds (λ w. row-binds ss 0 ((world_variable 0, w) ∷ []) (under_guards (row_guards sig 0 ss) (value_is_there sig f ss r)) ∙ each_row-same K ss _ _ (λ row l. row-law f ss r w row q l))

  result-chosen : (f : List ℕ) (ss : List SortName) (r : SortName) (b : Bool) → is_constant sig r ≡ b → list_all (csat S []) (result_axioms sig f ss (if b then None else Some r)) ≡ meets_result K f ss (if b then None else Some r)
  result-chosen f ss r true q = refl
  result-chosen f ss r false q = and-true _ ∙ term-law f ss r q

  result-law : (f : List ℕ) (ss : List SortName) (gives : Option ℕ) (locality : Locality) → list_all (csat S []) (result_axioms sig f ss (local_result sig gives locality)) ≡ meets_result K f ss (local_result sig gives locality)
  result-law f ss gives Global = refl
  result-law f ss None Local = refl
  result-law f ss (Some k) Local = result-chosen f ss (sort_at sig.sorts k) _ refl

  terms-of : (entries : List SymbolEntry) → list_all (csat S []) (term_axioms_of sig entries) ≡ list_all (λ entry. meets_result K entry.name (argument_sorts sig entry) (local_result sig entry.gives entry.locality)) entries
  terms-of [] = refl
  terms-of (entry ∷ entries) =
      list_all-append (csat S []) (result_axioms sig entry.name (argument_sorts sig entry) (local_result sig entry.gives entry.locality)) (term_axioms_of sig entries)
      ∙ (λ k. result-law entry.name (argument_sorts sig entry) entry.gives entry.locality k && terms-of entries k)

  pub terms-law : list_all (csat S []) (term_axioms sig) ≡ meets_terms sig K
  terms-law = terms-of sig.symbols
