-- Terms keep their values.
use Rattle.std.proofs.Common.{◌≡◌, ℕ, Bool, true, false, List, [], ◌∷◌, refl, ap, ◌∙◌}
use Rattle.std.specs.Prelude.{map}
use Rattle.nxf_tree.specs.declared.tree.Term.{Term, Var, App, App', Row_of-Term, end_of-Term, more_of-Term}
use Rattle.nxf_tree.specs.declared.tree.Term.TheBlock.{hidden-the_row-Term-0, items-the_row-Term, items_hidden-the_row-Term-0}
use Rattle.nxf_tree.specs.declared.tree.Signature.{Signature}
use Rattle.nxf_tree.specs.Names.{user_name, user_variable, world_variable}
use Rattle.nxf_tree.specs.Kripke.{KripkeModel, Env, value_at, values_at}
use Rattle.nxf_tree.specs.Classical.{ClassicalModel, cvalue, cvalues}
use Rattle.nxf_tree.specs.Signature.{is_flexible}
use Rattle.nxf_tree.specs.Embedding.{at_world, st_term, st_terms}
use Rattle.name_laws.specs.Agreement.{Agrees}
use Rattle.name_laws.specs.Standing.{Renamed}
use Rattle.name_laws.proofs.Spelling.{same-user_variable, world_variable-user}

-- the values of a row are those of its items
values_of_row : (S : ClassicalModel) (e : Env) {m : _} (ts : Row_of-Term m) → cvalues S e ts ≡ map (cvalue S e) (items-the_row-Term _ ts)
values_of_row S e end_of-Term = refl
values_of_row S e (more_of-Term t ts) = ap (λ vs. cvalue S e t ∷ vs) (values_of_row S e ts)

pub cvalue-App : (S : ClassicalModel) (e : Env) (f : List ℕ) (ts : List Term) → cvalue S e (App f ts) ≡ S.value f (map (cvalue S e) ts)
cvalue-App S e f ts =
    ap (S.value f) (values_of_row S e (hidden-the_row-Term-0 ts) ∙ ap (map (cvalue S e)) (items_hidden-the_row-Term-0 ts))

pub Renamed-bind : (e e2 : Env) (x : List ℕ) (a : ℕ) → Renamed e e2 → Renamed ((x, a) ∷ e) ((user_variable x, a) ∷ e2)
Renamed-bind e e2 x a h y = rw (same-user_variable x y, h y)

pub Renamed-world : (e e2 : Env) (d v : ℕ) → Renamed e e2 → Renamed e ((world_variable d, v) ∷ e2)
Renamed-world e e2 d v h y = rw (world_variable-user d y, h y)

module _ (sig : Signature) (K : KripkeModel) (S : ClassicalModel) (c : Agrees sig K S) (e e2 : Env) (h : Renamed e e2) (t : Term) (w : ℕ) (at : cvalue S e2 t ≡ w) where
  applied : (b : Bool) (f : List ℕ) (ts : List Term) (vs : List ℕ) → is_flexible sig f ≡ b → map (cvalue S e2) ts ≡ vs → S.value (user_name f) (map (cvalue S e2) (at_world b t ts)) ≡ K.value f w vs
  applied true f ts vs q s = ap (S.value (user_name f)) (λ i. at i ∷ s i) ∙ c.flexible f w vs q
  applied false f ts vs q s = ap (S.value (user_name f)) s ∙ c.rigid f w vs q

  mutual
    pub term-same : (u : Term) → cvalue S e2 (st_term sig t u) ≡ value_at K w e u
    term-same (Var x) = h x
    term-same (App' f shape us) = cvalue-App S e2 (user_name f) (at_world (is_flexible sig f) t (st_terms sig t us)) ∙ applied _ f (st_terms sig t us) (values_at K w e us) refl (terms-same us)

    pub terms-same : {m : _} (us : Row_of-Term m) → map (cvalue S e2) (st_terms sig t us) ≡ values_at K w e us
    terms-same end_of-Term = refl
    terms-same (more_of-Term u us) = λ i. term-same u i ∷ terms-same us i

  pub list-same : (us : List Term) → map (cvalue S e2) (map (st_term sig t) us) ≡ map (value_at K w e) us
  list-same [] = refl
  list-same (u ∷ us) = λ i. term-same u i ∷ list-same us i
