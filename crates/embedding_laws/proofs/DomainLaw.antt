-- The domain axioms are true exactly where the conditions on domains hold.
use Rattle.std.proofs.Common.{◌≡◌, ℕ, Bool, true, false, List, [], ◌∷◌, refl, ◌∙◌}
use Rattle.std.specs.Prelude.{◌&&◌, if◌then◌else◌}
use Rattle.nxf_tree.specs.declared.tree.IndexName.{IndexName}
use Rattle.nxf_tree.specs.declared.tree.IndexEntry.{IndexEntry}
use Rattle.nxf_tree.specs.declared.tree.SortEntry.{SortEntry}
use Rattle.nxf_tree.specs.declared.tree.SortName.{SortName}
use Rattle.nxf_tree.specs.declared.tree.SortName.TheVariants.{User}
use Rattle.nxf_tree.specs.declared.tree.Regime.{Regime}
use Rattle.nxf_tree.specs.declared.tree.Regime.TheVariants.{Constant, Cumulative, Decreasing, Varying}
use Rattle.nxf_tree.specs.declared.tree.Signature.{Signature}
use Rattle.nxf_tree.specs.Counting.{all_below, implies}
use Rattle.std.specs.List.{list_all}
use Rattle.nxf_tree.specs.Names.{world_name, world_variable, element_variable, relation_name, existence_name, user_sort}
use Rattle.nxf_tree.specs.Signature.{is_constant}
use Rattle.nxf_tree.specs.Kripke.{KripkeModel}
use Rattle.nxf_tree.specs.Classical.{ClassicalModel, csat}
use Rattle.nxf_tree.specs.Conditions.{someone_exists, everyone_exists, stay, were_there, is_monotone, meets_domain, meets_domains}
use Rattle.nxf_tree.specs.Axioms.{someone_axiom, everyone_axiom, stay_axiom, were_there_axiom, monotone_axioms, sort_axioms, domain_axioms_of, domain_axioms}
use Rattle.name_laws.specs.Agreement.{Agrees}
use Rattle.name_laws.proofs.Bounds.{and-true}
use Rattle.std.proofs.lemmas.List.Folds.{list_all-append, list_all-map}
use Rattle.name_laws.proofs.Lists.{list_all-same}

abbrev W : ClassicalModel → ℕ
W S = S.size (User world_name)

abbrev R : ClassicalModel → IndexName → ℕ → ℕ → Bool
R S i w v = S.holds (relation_name i) (w ∷ v ∷ [])

abbrev P : ClassicalModel → SortName → ℕ → ℕ → Bool
P S s w a = S.holds (existence_name s) (w ∷ a ∷ [])

someone-says : (S : ClassicalModel) (s : SortName) → csat S [] (someone_axiom s) ≡ someone_exists (W S) (S.size (user_sort s)) (P S s)
unfolding world_variable element_variable
someone-says S s = refl

everyone-says : (S : ClassicalModel) (s : SortName) → csat S [] (everyone_axiom s) ≡ everyone_exists (W S) (S.size (user_sort s)) (P S s)
unfolding world_variable element_variable
everyone-says S s = refl

stay-says : (S : ClassicalModel) (s : SortName) (i : IndexName) → csat S [] (stay_axiom s i) ≡ stay (W S) (S.size (user_sort s)) (R S i) (P S s)
unfolding world_variable element_variable
stay-says S s i = λ k. all_below (W S) (λ w. all_below (W S) (λ v. all_below (S.size (user_sort s)) (λ a. implies (R S i w v && and-true (P S s w a) k) (P S s v a))))

were_there-says : (S : ClassicalModel) (s : SortName) (i : IndexName) → csat S [] (were_there_axiom s i) ≡ were_there (W S) (S.size (user_sort s)) (R S i) (P S s)
unfolding world_variable element_variable
were_there-says S s i = λ k. all_below (W S) (λ w. all_below (W S) (λ v. all_below (S.size (user_sort s)) (λ a. implies (R S i w v && and-true (P S s v a) k) (P S s w a))))

module _ (sig : Signature) (K : KripkeModel) (S : ClassicalModel) (c : Agrees sig K S) where
  monotone-law : (s : SortName) → is_constant sig s ≡ false → (regime : Regime) (indexes : List IndexEntry) → list_all (csat S []) (monotone_axioms indexes s regime) ≡ is_monotone K indexes s regime
  monotone-law s q Constant indexes = refl
  monotone-law s q Cumulative indexes =
      list_all-map (csat S []) (λ index. stay_axiom s index.name) indexes
      ∙ list_all-same _ _ (λ index. stay-says S s index.name ∙ (λ k. stay (c.worlds k) (c.sizes s k) (λ w v. c.related index.name w v k) (λ w a. c.present s w a q k))) indexes
  monotone-law s q Decreasing indexes =
      list_all-map (csat S []) (λ index. were_there_axiom s index.name) indexes
      ∙ list_all-same _ _ (λ index. were_there-says S s index.name ∙ (λ k. were_there (c.worlds k) (c.sizes s k) (λ w v. c.related index.name w v k) (λ w a. c.present s w a q k))) indexes
  monotone-law s q Varying indexes = refl

  domain-law : (entry : SortEntry) (b : Bool) → is_constant sig entry.name ≡ b → list_all (csat S []) (if b then [] else someone_axiom entry.name ∷ everyone_axiom entry.name ∷ monotone_axioms sig.indexes entry.name entry.regime) ≡ (if b then true else someone_exists K.worlds (K.size entry.name) (K.present entry.name) && (everyone_exists K.worlds (K.size entry.name) (K.present entry.name) && is_monotone K sig.indexes entry.name entry.regime))
  domain-law entry true q = refl
  domain-law entry false q = λ k.
      (someone-says S entry.name ∙ (λ j. someone_exists (c.worlds j) (c.sizes entry.name j) (λ w a. c.present entry.name w a q j))) k
      && ((everyone-says S entry.name ∙ (λ j. everyone_exists (c.worlds j) (c.sizes entry.name j) (λ w a. c.present entry.name w a q j))) k
      && monotone-law entry.name q entry.regime sig.indexes k)

  domains-of : (entries : List SortEntry) → list_all (csat S []) (domain_axioms_of sig entries) ≡ list_all (meets_domain sig K) entries
  domains-of [] = refl
  domains-of (entry ∷ entries) =
      list_all-append (csat S []) (sort_axioms sig entry) (domain_axioms_of sig entries)
      ∙ (λ k. domain-law entry _ refl k && domains-of entries k)

  pub domains-law : list_all (csat S []) (domain_axioms sig) ≡ meets_domains sig K
  domains-law = domains-of sig.sorts
