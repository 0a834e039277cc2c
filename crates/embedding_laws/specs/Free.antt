-- The free variables of a formula.
use Rattle.std.specs.Prelude.{◌≡◌, ℕ, Bool, true, false, ◌&&◌, ◌||◌, not, List, [], ◌∷◌}
use Rattle.nxf_tree.specs.declared.tree.Term.{Term, Var, App', Row_of-Term, end_of-Term, more_of-Term}
use Rattle.nxf_tree.specs.declared.tree.Formula.{Formula, True, False, Atom, Same, Differ, And', Or', Distinct, Row_of-Formula, end_of-Formula, more_of-Formula}
use Rattle.nxf_tree.specs.Shapes.{Not1, Pair2, Quant1, Modal1}
use Rattle.nxf_tree.specs.Names.{same_text, user_variable}
use Rattle.nxf_tree.specs.Kripke.{Env, look}
use Rattle.nxf_tree.specs.Classical.{ClassicalModel, cvalue}
use Rattle.name_laws.specs.Standing.{WorldTerm}

abbrev mutual
  -- whether the variable occurs in the term
  pub occurs : List ℕ → Term → Bool
  occurs x (Var y) = same_text y x
  occurs x (App' f shape ts) = occurs_among x ts

  pub occurs_among : {m : _} → List ℕ → Row_of-Term m → Bool
  occurs_among x end_of-Term = false
  occurs_among x (more_of-Term t ts) = occurs x t || occurs_among x ts

abbrev pub occurs_in : List ℕ → List Term → Bool
occurs_in x [] = false
occurs_in x (t ∷ ts) = occurs x t || occurs_in x ts

abbrev mutual
  -- whether the variable is free in the formula
  pub is_free : List ℕ → Formula → Bool
  is_free x True = false
  is_free x False = false
  is_free x (Atom p ts) = occurs_in x ts
  is_free x (Same t u) = occurs x t || occurs x u
  is_free x (Differ t u) = occurs x t || occurs x u
  is_free x (Not1 f) = is_free x f
  is_free x (And' shape fs) = is_free_among x fs
  is_free x (Or' shape fs) = is_free_among x fs
  is_free x (Pair2 op f g) = is_free x f || is_free x g
  is_free x (Quant1 q y s f) = not (same_text y x) && is_free x f
  is_free x (Modal1 m i f) = is_free x f
  is_free x (Distinct ts) = occurs_in x ts

  pub is_free_among : {m : _} → List ℕ → Row_of-Formula m → Bool
  is_free_among x end_of-Formula = false
  is_free_among x (more_of-Formula f fs) = is_free x f || is_free_among x fs

-- each free variable of the formula has the same value under its printed name, and the term t stands for the world w
pub record StandsFor (f : Formula) (S : ClassicalModel) (e e2 : Env) (t : Term) (w d : ℕ) : Type 0 where
  pub renamed : (x : List ℕ) → is_free x f ≡ true → look e2 (user_variable x) ≡ look e x
  pub term : WorldTerm d t
  pub at : cvalue S e2 t ≡ w
