-- What a formula says at a world is what its translation says.
use Rattle.std.proofs.Common.{◌≡◌, ℕ, suc, Bool, true, false, List, [], ◌∷◌, refl, ap, ◌∙◌, arith}
use Rattle.std.specs.Prelude.{◌&&◌, ◌||◌, not, nat_eq}
use Rattle.nxf_tree.specs.declared.tree.SortName.{SortName}
use Rattle.nxf_tree.specs.declared.tree.IndexName.{IndexName}
use Rattle.nxf_tree.specs.declared.tree.Quantifier.TheVariants.{All, Exists}
use Rattle.nxf_tree.specs.declared.tree.Mode.TheVariants.{Box, Dia}
use Rattle.nxf_tree.specs.declared.tree.Term.{Term, Var}
use Rattle.nxf_tree.specs.declared.tree.Formula.{Formula, True, False, Atom, Same, Differ, And', Or', Distinct, Row_of-Formula, end_of-Formula, more_of-Formula}
use Rattle.nxf_tree.specs.declared.tree.Signature.{Signature}
use Rattle.nxf_tree.specs.Shapes.{Not1, Pair2, Quant1, Modal1}
use Rattle.nxf_tree.specs.Counting.{implies}
use Rattle.nxf_tree.specs.Names.{user_name, user_variable, world_variable, relation_name, existence_name}
use Rattle.nxf_tree.specs.Kripke.{KripkeModel, Env, look, connect, sat, all_sat, some_sat}
use Rattle.nxf_tree.specs.Classical.{ClassicalModel, cvalue, csat, all_csat, some_csat}
use Rattle.nxf_tree.specs.Signature.{is_constant}
use Rattle.nxf_tree.specs.Embedding.{guarded, st, sts}
use Rattle.name_laws.specs.Agreement.{Agrees}
use Rattle.name_laws.specs.Standing.{WorldTerm, actual, reached, Stands}
use Rattle.name_laws.proofs.Bounds.{all_below-same, any_below-same, and-true}
use Rattle.name_laws.proofs.Spelling.{same_text-refl, user_variable-world, world_variables-differ}
use Rattle.embedding_laws.proofs.Terms.{Renamed-bind, Renamed-world, term-same, list-same}

world-bind : (S : ClassicalModel) (e2 : Env) (x : List ℕ) (a d : ℕ) (t : Term) → WorldTerm d t → cvalue S ((user_variable x, a) ∷ e2) t ≡ cvalue S e2 t
world-bind S e2 x a d t actual = refl
world-bind S e2 x a d t (reached j h) = rw (user_variable-world j x)

pub world-next : (S : ClassicalModel) (e2 : Env) (v d : ℕ) (t : Term) → WorldTerm d t → cvalue S ((world_variable d, v) ∷ e2) t ≡ cvalue S e2 t
world-next S e2 v d t actual = refl
world-next S e2 v d t (reached j h) = rw (world_variables-differ j d h)

under_binder : (S : ClassicalModel) (e e2 : Env) (t : Term) (w d : ℕ) (x : List ℕ) (a : ℕ) → Stands S e e2 t w d → Stands S ((x, a) ∷ e) ((user_variable x, a) ∷ e2) t w d
under_binder S e e2 t w d x a s = record {
  renamed = Renamed-bind e e2 x a s.renamed;
  term = s.term;
  at = world-bind S e2 x a d t s.term ∙ s.at;
}

pub under_box : (S : ClassicalModel) (e e2 : Env) (t : Term) (w d v : ℕ) → Stands S e e2 t w d → Stands S e ((world_variable d, v) ∷ e2) (Var (world_variable d)) v (suc d)
under_box S e e2 t w d v s = record {
  renamed = Renamed-world e e2 d v s.renamed;
  term = reached d (omega arith);
  at = rw (same_text-refl (world_variable d));
}

module _ (sig : Signature) (K : KripkeModel) (S : ClassicalModel) (c : Agrees sig K S) where
  -- the condition of a box and of a diamond
  reaches : (i : IndexName) (e e2 : Env) (t : Term) (w d v : ℕ) → Stands S e e2 t w d → S.holds (relation_name i) (cvalue S ((world_variable d, v) ∷ e2) t ∷ look ((world_variable d, v) ∷ e2) (world_variable d) ∷ []) ≡ K.related i w v
  reaches i e e2 t w d v s =
      ap (λ a. S.holds (relation_name i) (a ∷ look ((world_variable d, v) ∷ e2) (world_variable d) ∷ [])) (world-next S e2 v d t s.term ∙ s.at)
      ∙ ap (λ b. S.holds (relation_name i) (w ∷ b ∷ [])) (rw (same_text-refl (world_variable d)))
      ∙ c.related i w v

  -- the guard of a quantifier
  exists : (s : SortName) (x : List ℕ) (e e2 : Env) (t : Term) (w d a : ℕ) → is_constant sig s ≡ false → Stands S e e2 t w d → S.holds (existence_name s) (cvalue S ((user_variable x, a) ∷ e2) t ∷ look ((user_variable x, a) ∷ e2) (user_variable x) ∷ []) ≡ K.present s w a
  exists s x e e2 t w d a q st =
      ap (λ b. S.holds (existence_name s) (b ∷ look ((user_variable x, a) ∷ e2) (user_variable x) ∷ [])) (world-bind S e2 x a d t st.term ∙ st.at)
      ∙ ap (λ b. S.holds (existence_name s) (w ∷ b ∷ [])) (rw (same_text-refl (user_variable x)))
      ∙ c.present s w a q

  for_all : (s : SortName) (x : List ℕ) (e e2 : Env) (t : Term) (w d a : ℕ) (g : Formula) (b : Bool) → is_constant sig s ≡ b → Stands S e e2 t w d → (r : Bool) → csat S ((user_variable x, a) ∷ e2) g ≡ r → csat S ((user_variable x, a) ∷ e2) (guarded b All (Atom (existence_name s) (t ∷ Var (user_variable x) ∷ [])) g) ≡ implies (K.present s w a) r
  for_all s x e e2 t w d a g true q st r h = rw (c.everywhere s w a q) h
  for_all s x e e2 t w d a g false q st r h = λ i. implies (exists s x e e2 t w d a q st i) (h i)

  for_some : (s : SortName) (x : List ℕ) (e e2 : Env) (t : Term) (w d a : ℕ) (g : Formula) (b : Bool) → is_constant sig s ≡ b → Stands S e e2 t w d → (r : Bool) → csat S ((user_variable x, a) ∷ e2) g ≡ r → csat S ((user_variable x, a) ∷ e2) (guarded b Exists (Atom (existence_name s) (t ∷ Var (user_variable x) ∷ [])) g) ≡ K.present s w a && r
  for_some s x e e2 t w d a g true q st r h = rw (c.everywhere s w a q) h
  for_some s x e e2 t w d a g false q st r h = λ i. exists s x e e2 t w d a q st i && (and-true _ ∙ h) i

  mutual
    pub transfer : (f : Formula) (w d : ℕ) (t : Term) (e e2 : Env) → Stands S e e2 t w d → csat S e2 (st sig t d f) ≡ sat K w e f
    transfer True w d t e e2 s = refl
    transfer False w d t e e2 s = refl
    transfer (Atom p us) w d t e e2 s = (λ i. S.holds (user_name p) (s.at i ∷ list-same sig K S c e e2 s.renamed t w s.at us i)) ∙ c.holds p w _
    transfer (Same u v) w d t e e2 s = λ i. nat_eq (term-same sig K S c e e2 s.renamed t w s.at u i) (term-same sig K S c e e2 s.renamed t w s.at v i)
    transfer (Differ u v) w d t e e2 s = λ i. not (nat_eq (term-same sig K S c e e2 s.renamed t w s.at u i) (term-same sig K S c e e2 s.renamed t w s.at v i))
    transfer (Not1 f) w d t e e2 s = ap not (transfer f w d t e e2 s)
    transfer (And' shape fs) w d t e e2 s = transfer_all fs w d t e e2 s
    transfer (Or' shape fs) w d t e e2 s = transfer_some fs w d t e e2 s
    transfer (Pair2 op f g) w d t e e2 s = λ i. connect op (transfer f w d t e e2 s i) (transfer g w d t e e2 s i)
    transfer (Quant1 All x k f) w d t e e2 s =
        all_below-same _ _ _ _ (c.sizes k) (λ a. for_all k x e e2 t w d a (st sig t d f) _ refl s _ (transfer f w d t ((x, a) ∷ e) ((user_variable x, a) ∷ e2) (under_binder S e e2 t w d x a s)))
    transfer (Quant1 Exists x k f) w d t e e2 s =
        any_below-same _ _ _ _ (c.sizes k) (λ a. for_some k x e e2 t w d a (st sig t d f) _ refl s _ (transfer f w d t ((x, a) ∷ e) ((user_variable x, a) ∷ e2) (under_binder S e e2 t w d x a s)))
    transfer (Modal1 Box i f) w d t e e2 s =
        all_below-same _ _ _ _ c.worlds (λ v k. implies (reaches i e e2 t w d v s k) (transfer f v (suc d) (Var (world_variable d)) e ((world_variable d, v) ∷ e2) (under_box S e e2 t w d v s) k))
    transfer (Modal1 Dia i f) w d t e e2 s =
        any_below-same _ _ _ _ c.worlds (λ v k. reaches i e e2 t w d v s k && (and-true _ ∙ transfer f v (suc d) (Var (world_variable d)) e ((world_variable d, v) ∷ e2) (under_box S e e2 t w d v s)) k)
    transfer (Distinct us) w d t e e2 s = refl

    pub transfer_all : {m : _} (fs : Row_of-Formula m) (w d : ℕ) (t : Term) (e e2 : Env) → Stands S e e2 t w d → all_csat S e2 (sts sig t d fs) ≡ all_sat K w e fs
    transfer_all end_of-Formula w d t e e2 s = refl
    transfer_all (more_of-Formula f fs) w d t e e2 s = λ i. transfer f w d t e e2 s i && transfer_all fs w d t e e2 s i

    pub transfer_some : {m : _} (fs : Row_of-Formula m) (w d : ℕ) (t : Term) (e e2 : Env) → Stands S e e2 t w d → some_csat S e2 (sts sig t d fs) ≡ some_sat K w e fs
    transfer_some end_of-Formula w d t e e2 s = refl
    transfer_some (more_of-Formula f fs) w d t e e2 s = λ i. transfer f w d t e e2 s i || transfer_some fs w d t e e2 s i
