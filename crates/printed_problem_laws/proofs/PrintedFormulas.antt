-- The translation of a regular formula is regular, with one argument more, and needs at most three times the levels and one.
use Rattle.std.proofs.Common.{◌≡◌, ℕ, suc, ◌+◌, ◌*◌, ◌≤◌, max, Bool, true, false, ◌&&◌, List, [], ◌∷◌, length, map, refl, ap, ◌∙◌, arith}
use Rattle.std.specs.Prelude.{nat_le}
use Rattle.std.proofs.lemmas.Bool.{and_parts, and_from, leb-true, le-leb}
use Rattle.nxf_tree.specs.Profiles.{Allowed}
use Rattle.nxf_base.specs.Bytes.{is_printable_text, is_variable_text}
use Rattle.nxf_tree.specs.declared.tree.Signature.{Signature}
use Rattle.nxf_tree.specs.declared.tree.SortName.{SortName}
use Rattle.nxf_tree.specs.declared.tree.SortName.TheVariants.{User}
use Rattle.nxf_tree.specs.declared.tree.Quantifier.{Quantifier}
use Rattle.nxf_tree.specs.declared.tree.Quantifier.TheVariants.{All, Exists}
use Rattle.nxf_tree.specs.declared.tree.Mode.{Mode}
use Rattle.nxf_tree.specs.declared.tree.Mode.TheVariants.{Box, Dia}
use Rattle.nxf_tree.specs.declared.tree.Op.TheVariants.{Implies}
use Rattle.nxf_tree.specs.declared.tree.Scope.{Scope}
use Rattle.nxf_tree.specs.declared.tree.Scope.TheVariants.{Local, Global}
use Rattle.nxf_tree.specs.declared.tree.Term.{Term, Var, App, App', Row_of-Term, end_of-Term, more_of-Term}
use Rattle.nxf_tree.specs.declared.tree.Formula.{Formula, True, False, Atom, Same, Differ, And', Or', Distinct, Row_of-Formula, end_of-Formula, more_of-Formula}
use Rattle.nxf_tree.specs.Shapes.{Not1, And2, Pair2, Quant1, Modal1, Name0}
use Rattle.nxf_tree.specs.Text.{has_brackets}
use Rattle.nxf_tree.specs.Names.{user_name, user_variable, user_sort, world_variable, world_name, actual_name, relation_name, existence_name}
use Rattle.nxf_tree.specs.Signature.{is_constant, is_flexible}
use Rattle.nxf_tree.specs.Embedding.{at_world, st_term, st_terms, guard, guarded, over_worlds, st, sts, embedded}
use Rattle.nxf_tree.specs.RegularFormulas.{is_regular_sort, is_regular_index, is_regular_term, are_regular_terms, terms_count, is_regular_list, is_regular_formula, are_regular_formulas, formulas_count}
use Rattle.syntax_definitions.proofs.CallerLemmas.{regular_App, levels_of_App}
use Rattle.syntax_definitions.specs.Levels.{term_levels, arguments_levels, list_levels, with_brackets, formula_levels, members_levels, unit_levels}
use Rattle.printed_problem_laws.proofs.PrintedNames.{printable_user_name, regular_user_sort, user_variable_is, world_variable_is, printable_world, printable_actual, printable_relation, printable_existence}

-- a symbol with its arguments
pub named_list : (m : Allowed) (f : List ℕ) (ts : List Term) → is_printable_text f ≡ true → length ts ≤ m.arguments → is_regular_list m ts ≡ true → (is_printable_text f && (nat_le (length ts) m.arguments && is_regular_list m ts)) ≡ true
named_list m f ts name few regular =
    and_from (is_printable_text f) (nat_le (length ts) m.arguments && is_regular_list m ts) name
    (and_from (nat_le (length ts) m.arguments) (is_regular_list m ts) (le-leb (length ts) m.arguments few) regular)

pub regular_pair : (m : Allowed) (t u : Term) → is_regular_term m t ≡ true → is_regular_term m u ≡ true → is_regular_list m (t ∷ u ∷ []) ≡ true
regular_pair m t u a b = and_from (is_regular_term m t) (is_regular_term m u && true) a (and_from (is_regular_term m u) true b refl)

-- ---- regular trees

-- what a file may use, and what its printed problem may use
pub record HasRoom (l m : Allowed) : Type 0 where
  pub more : suc l.arguments ≤ m.arguments
  pub two : 2 ≤ m.arguments

module _ (sig : Signature) (l m : Allowed) (room : HasRoom l m) where
  at_world_regular : (b : Bool) (w : Term) (ts : List Term) → is_regular_term m w ≡ true → is_regular_list m ts ≡ true → is_regular_list m (at_world b w ts) ≡ true
  at_world_regular true w ts world h = and_from (is_regular_term m w) (is_regular_list m ts) world h
  at_world_regular false w ts world h = h

  at_world_long : (b : Bool) (w : Term) (ts : List Term) → length (at_world b w ts) ≤ suc (length ts)
  at_world_long true w ts = omega arith
  at_world_long false w ts = omega arith

  application_regular : (b : Bool) (w : Term) (f : List ℕ) (ts : List Term) → is_regular_term m w ≡ true → is_printable_text f ≡ true → length ts ≤ l.arguments → is_regular_list m ts ≡ true → is_regular_term m (App f (at_world b w ts)) ≡ true
  application_regular b w f ts world name few h =
      regular_App m f (at_world b w ts) ∙ named_list m f (at_world b w ts) name (omega (arith, at_world_long b w ts, few, room.more)) (at_world_regular b w ts world h)

  terms_long : {k : _} (w : Term) (ts : Row_of-Term k) → length (st_terms sig w ts) ≡ terms_count ts
  terms_long w end_of-Term = refl
  terms_long w (more_of-Term t ts) = ap suc (terms_long w ts)

  mutual
    st_term_regular : (w : Term) → is_regular_term m w ≡ true → (t : Term) → is_regular_term l t ≡ true → is_regular_term m (st_term sig w t) ≡ true
    st_term_regular w world (Var x) h = user_variable_is x h
    st_term_regular w world (App' f shape ts) h =
        let t = and_parts (is_printable_text f) (nat_le (terms_count ts) l.arguments && are_regular_terms l ts) h in
        let u = and_parts (nat_le (terms_count ts) l.arguments) (are_regular_terms l ts) t.1 in
        application_regular (is_flexible sig f) w (user_name f) (st_terms sig w ts) world (printable_user_name f t.0) (omega (arith, terms_long w ts, leb-true (terms_count ts) l.arguments u.0)) (st_terms_regular w world ts u.1)

    st_terms_regular : {k : _} (w : Term) → is_regular_term m w ≡ true → (ts : Row_of-Term k) → are_regular_terms l ts ≡ true → is_regular_list m (st_terms sig w ts) ≡ true
    st_terms_regular w world end_of-Term h = refl
    st_terms_regular w world (more_of-Term t ts) h =
        let u = and_parts (is_regular_term l t) (are_regular_terms l ts) h in
        and_from (is_regular_term m (st_term sig w t)) (is_regular_list m (st_terms sig w ts)) (st_term_regular w world t u.0) (st_terms_regular w world ts u.1)

  list_long : (w : Term) (ts : List Term) → length (map (st_term sig w) ts) ≡ length ts
  list_long w [] = refl
  list_long w (t ∷ ts) = ap suc (list_long w ts)

  st_list_regular : (w : Term) → is_regular_term m w ≡ true → (ts : List Term) → is_regular_list l ts ≡ true → is_regular_list m (map (st_term sig w) ts) ≡ true
  st_list_regular w world [] h = refl
  st_list_regular w world (t ∷ ts) h =
      let u = and_parts (is_regular_term l t) (is_regular_list l ts) h in
      and_from (is_regular_term m (st_term sig w t)) (is_regular_list m (map (st_term sig w) ts)) (st_term_regular w world t u.0) (st_list_regular w world ts u.1)

  atom_regular : (w : Term) → is_regular_term m w ≡ true → (p : List ℕ) (ts : List Term) → is_printable_text p ≡ true → length ts ≤ l.arguments → is_regular_list l ts ≡ true → is_regular_formula m (Atom (user_name p) (w ∷ map (st_term sig w) ts)) ≡ true
  atom_regular w world p ts name few h =
      named_list m (user_name p) (w ∷ map (st_term sig w) ts) (printable_user_name p name) (omega (arith, list_long w ts, few, room.more))
      (and_from (is_regular_term m w) (is_regular_list m (map (st_term sig w) ts)) world (st_list_regular w world ts h))

  -- an atom of two terms
  pub two_regular : (p : List ℕ) (t u : Term) → is_printable_text p ≡ true → is_regular_term m t ≡ true → is_regular_term m u ≡ true → is_regular_formula m (Atom p (t ∷ u ∷ [])) ≡ true
  two_regular p t u name a b = named_list m p (t ∷ u ∷ []) name (omega (arith, room.two)) (regular_pair m t u a b)

  pub both_regular : (f g : Formula) → is_regular_formula m f ≡ true → is_regular_formula m g ≡ true → is_regular_formula m (And2 f g) ≡ true
  both_regular f g a b = and_from (is_regular_formula m f) (is_regular_formula m g && true) a (and_from (is_regular_formula m g) true b refl)

  pub implies_regular : (f g : Formula) → is_regular_formula m f ≡ true → is_regular_formula m g ≡ true → is_regular_formula m (Pair2 Implies f g) ≡ true
  implies_regular f g a b = and_from (is_regular_formula m f) (is_regular_formula m g) a b

  guard_regular : (q : Quantifier) (g f : Formula) → is_regular_formula m g ≡ true → is_regular_formula m f ≡ true → is_regular_formula m (guard q g f) ≡ true
  guard_regular All g f a b = implies_regular g f a b
  guard_regular Exists g f a b = both_regular g f a b

  guarded_regular : (t : Bool) (q : Quantifier) (g f : Formula) → is_regular_formula m g ≡ true → is_regular_formula m f ≡ true → is_regular_formula m (guarded t q g f) ≡ true
  guarded_regular true q g f a b = b
  guarded_regular false q g f a b = guard_regular q g f a b

  pub quantified_regular : (q : Quantifier) (x : List ℕ) (s : SortName) (f : Formula) → is_variable_text x ≡ true → is_regular_sort s ≡ true → is_regular_formula m f ≡ true → is_regular_formula m (Quant1 q x s f) ≡ true
  quantified_regular q x s f a b c = and_from (is_variable_text x) (is_regular_sort s && is_regular_formula m f) a (and_from (is_regular_sort s) (is_regular_formula m f) b c)

  over_worlds_regular : (mode : Mode) (d : ℕ) (step f : Formula) → is_regular_formula m step ≡ true → is_regular_formula m f ≡ true → is_regular_formula m (over_worlds mode d step f) ≡ true
  over_worlds_regular Box d step f a b = quantified_regular All (world_variable d) (User world_name) (guard All step f) (world_variable_is d) printable_world (guard_regular All step f a b)
  over_worlds_regular Dia d step f a b = quantified_regular Exists (world_variable d) (User world_name) (guard Exists step f) (world_variable_is d) printable_world (guard_regular Exists step f a b)

  as_many : {k : _} (w : Term) (d : ℕ) (fs : Row_of-Formula k) → formulas_count (sts sig w d fs) ≡ formulas_count fs
  as_many w d end_of-Formula = refl
  as_many w d (more_of-Formula f fs) = ap suc (as_many w d fs)

  mutual
    st_regular : (w : Term) → is_regular_term m w ≡ true → (d : ℕ) (f : Formula) → is_regular_formula l f ≡ true → is_regular_formula m (st sig w d f) ≡ true
    st_regular w world d True h = refl
    st_regular w world d False h = refl
    st_regular w world d (Atom p ts) h =
        let t = and_parts (is_printable_text p) (nat_le (length ts) l.arguments && is_regular_list l ts) h in
        let u = and_parts (nat_le (length ts) l.arguments) (is_regular_list l ts) t.1 in
        atom_regular w world p ts t.0 (leb-true (length ts) l.arguments u.0) u.1
    st_regular w world d (Same t u) h =
        let both = and_parts (is_regular_term l t) (is_regular_term l u) h in
        and_from (is_regular_term m (st_term sig w t)) (is_regular_term m (st_term sig w u)) (st_term_regular w world t both.0) (st_term_regular w world u both.1)
    st_regular w world d (Differ t u) h =
        let both = and_parts (is_regular_term l t) (is_regular_term l u) h in
        and_from (is_regular_term m (st_term sig w t)) (is_regular_term m (st_term sig w u)) (st_term_regular w world t both.0) (st_term_regular w world u both.1)
    st_regular w world d (Not1 f) h = st_regular w world d f h
    st_regular w world d (And' shape fs) h =
        let t = and_parts (nat_le 2 (formulas_count fs)) (are_regular_formulas l fs) h in
        and_from (nat_le 2 (formulas_count (sts sig w d fs))) (are_regular_formulas m (sts sig w d fs)) (ap (nat_le 2) (as_many w d fs) ∙ t.0) (sts_regular w world d fs t.1)
    st_regular w world d (Or' shape fs) h =
        let t = and_parts (nat_le 2 (formulas_count fs)) (are_regular_formulas l fs) h in
        and_from (nat_le 2 (formulas_count (sts sig w d fs))) (are_regular_formulas m (sts sig w d fs)) (ap (nat_le 2) (as_many w d fs) ∙ t.0) (sts_regular w world d fs t.1)
    st_regular w world d (Pair2 op f g) h =
        let both = and_parts (is_regular_formula l f) (is_regular_formula l g) h in
        and_from (is_regular_formula m (st sig w d f)) (is_regular_formula m (st sig w d g)) (st_regular w world d f both.0) (st_regular w world d g both.1)
    st_regular w world d (Quant1 q x s f) h =
        let t = and_parts (is_variable_text x) (is_regular_sort s && is_regular_formula l f) h in
        let u = and_parts (is_regular_sort s) (is_regular_formula l f) t.1 in
        let exists = Atom (existence_name s) (w ∷ Var (user_variable x) ∷ []) in
        quantified_regular q (user_variable x) (user_sort s) (guarded (is_constant sig s) q exists (st sig w d f)) (user_variable_is x t.0) (regular_user_sort s u.0)
        (guarded_regular (is_constant sig s) q exists (st sig w d f) (two_regular (existence_name s) w (Var (user_variable x)) (printable_existence s u.0) world (user_variable_is x t.0)) (st_regular w world d f u.1))
    st_regular w world d (Modal1 mode i f) h =
        let t = and_parts l.modal (is_regular_index i && is_regular_formula l f) h in
        let u = and_parts (is_regular_index i) (is_regular_formula l f) t.1 in
        let step = Atom (relation_name i) (w ∷ Var (world_variable d) ∷ []) in
        over_worlds_regular mode d step (st sig (Var (world_variable d)) (suc d) f) (two_regular (relation_name i) w (Var (world_variable d)) (printable_relation i u.0) world (world_variable_is d)) (st_regular (Var (world_variable d)) (world_variable_is d) (suc d) f u.1)
    st_regular w world d (Distinct ts) h = refl

    sts_regular : {k : _} (w : Term) → is_regular_term m w ≡ true → (d : ℕ) (fs : Row_of-Formula k) → are_regular_formulas l fs ≡ true → are_regular_formulas m (sts sig w d fs) ≡ true
    sts_regular w world d end_of-Formula h = refl
    sts_regular w world d (more_of-Formula f fs) h =
        let u = and_parts (is_regular_formula l f) (are_regular_formulas l fs) h in
        and_from (is_regular_formula m (st sig w d f)) (are_regular_formulas m (sts sig w d fs)) (st_regular w world d f u.0) (sts_regular w world d fs u.1)

  actual_regular : is_regular_term m (Name0 actual_name) ≡ true
  actual_regular = and_from (is_printable_text actual_name) (nat_le 0 m.arguments && true) printable_actual (and_from (nat_le 0 m.arguments) true (le-leb 0 m.arguments (omega arith)) refl)

  pub embedded_regular : (scope : Scope) (f : Formula) → is_regular_formula l f ≡ true → is_regular_formula m (embedded sig scope f) ≡ true
  embedded_regular Local f h = st_regular (Name0 actual_name) actual_regular 0 f h
  embedded_regular Global f h = quantified_regular All (world_variable 0) (User world_name) (st sig (Var (world_variable 0)) 1 f) (world_variable_is 0) printable_world (st_regular (Var (world_variable 0)) (world_variable_is 0) 1 f h)

-- ---- levels

module _ (sig : Signature) where
  at_world_levels : (b : Bool) (w : Term) (ts : List Term) → term_levels w ≡ 0 → list_levels (at_world b w ts) ≤ max 1 (list_levels ts)
  at_world_levels true w ts none = omega (arith, none)
  at_world_levels false w ts none = omega arith

  application_levels : (b : Bool) (w : Term) (f : List ℕ) (ts : List Term) → term_levels w ≡ 0 → term_levels (App f (at_world b w ts)) ≤ max 1 (list_levels ts)
  application_levels b w f ts none = omega (arith, levels_of_App f (at_world b w ts), at_world_levels b w ts none)

  mutual
    st_term_levels : (w : Term) → term_levels w ≡ 0 → (t : Term) → term_levels (st_term sig w t) ≤ term_levels t + 1
    st_term_levels w none (Var x) = omega arith
    st_term_levels w none (App' f shape ts) = omega (arith, application_levels (is_flexible sig f) w (user_name f) (st_terms sig w ts) none, st_terms_levels w none ts)

    st_terms_levels : {k : _} (w : Term) → term_levels w ≡ 0 → (ts : Row_of-Term k) → list_levels (st_terms sig w ts) ≤ arguments_levels ts + 1
    st_terms_levels w none end_of-Term = omega arith
    st_terms_levels w none (more_of-Term t ts) = omega (arith, st_term_levels w none t, st_terms_levels w none ts)

  st_list_levels : (w : Term) → term_levels w ≡ 0 → (ts : List Term) → list_levels (map (st_term sig w) ts) ≤ list_levels ts + 1
  st_list_levels w none [] = omega arith
  st_list_levels w none (t ∷ ts) = omega (arith, st_term_levels w none t, st_list_levels w none ts)

  -- brackets take a level in both or in none
  brackets_levels : (b c : Bool) (j k : ℕ) → b ≡ c → j ≤ 3 * k + 1 → with_brackets b j ≤ 3 * with_brackets c k + 1
  brackets_levels true true j k same h = omega (arith, h)
  brackets_levels false false j k same h = h
  brackets_levels true false j k same h = absurd cc
  brackets_levels false true j k same h = absurd cc

  one_more : (b : Bool) (n : ℕ) → with_brackets b n ≤ n + 1
  one_more true n = omega arith
  one_more false n = omega arith

  guarded_levels : (t : Bool) (q : Quantifier) (p : List ℕ) (v w : Term) (f : Formula) → term_levels v ≡ 0 → term_levels w ≡ 0 → unit_levels (guarded t q (Atom p (v ∷ w ∷ [])) f) ≤ max 1 (unit_levels f) + 1
  guarded_levels true q p v w f a b = omega arith
  guarded_levels false All p v w f a b = omega (arith, a, b)
  guarded_levels false Exists p v w f a b = omega (arith, a, b)

  over_worlds_levels : (mode : Mode) (d : ℕ) (p : List ℕ) (v w : Term) (f : Formula) → term_levels v ≡ 0 → term_levels w ≡ 0 → formula_levels (over_worlds mode d (Atom p (v ∷ w ∷ [])) f) ≤ max 1 (unit_levels f) + 2
  over_worlds_levels Box d p v w f a b = omega (arith, a, b)
  over_worlds_levels Dia d p v w f a b = omega (arith, a, b)

  over_worlds_brackets : (mode : Mode) (d : ℕ) (step f : Formula) → has_brackets (over_worlds mode d step f) ≡ false
  over_worlds_brackets Box d step f = refl
  over_worlds_brackets Dia d step f = refl

  st_brackets : (w : Term) (d : ℕ) (f : Formula) → has_brackets (st sig w d f) ≡ has_brackets f
  st_brackets w d True = refl
  st_brackets w d False = refl
  st_brackets w d (Atom p ts) = refl
  st_brackets w d (Same t u) = refl
  st_brackets w d (Differ t u) = refl
  st_brackets w d (Not1 f) = refl
  st_brackets w d (And' shape fs) = refl
  st_brackets w d (Or' shape fs) = refl
  st_brackets w d (Pair2 op f g) = refl
  st_brackets w d (Quant1 q x s f) = refl
  st_brackets w d (Modal1 mode i f) = over_worlds_brackets mode d (Atom (relation_name i) (w ∷ Var (world_variable d) ∷ [])) (st sig (Var (world_variable d)) (suc d) f)
  st_brackets w d (Distinct ts) = refl

  unit_st_levels : (g f : Formula) → has_brackets g ≡ has_brackets f → formula_levels g ≤ 3 * formula_levels f + 1 → unit_levels g ≤ 3 * unit_levels f + 1
  unit_st_levels g f same h = brackets_levels (has_brackets g) (has_brackets f) (formula_levels g) (formula_levels f) same h

  mutual
    st_levels : (w : Term) → term_levels w ≡ 0 → (d : ℕ) (f : Formula) → formula_levels (st sig w d f) ≤ 3 * formula_levels f + 1
    st_levels w none d True = omega arith
    st_levels w none d False = omega arith
    st_levels w none d (Atom p ts) = omega (arith, none, st_list_levels w none ts)
    st_levels w none d (Same t u) = omega (arith, st_term_levels w none t, st_term_levels w none u)
    st_levels w none d (Differ t u) = omega (arith, st_term_levels w none t, st_term_levels w none u)
    st_levels w none d (Not1 f) = omega (arith, unit_st_levels (st sig w d f) f (st_brackets w d f) (st_levels w none d f))
    st_levels w none d (And' shape fs) = sts_levels w none d fs
    st_levels w none d (Or' shape fs) = sts_levels w none d fs
    st_levels w none d (Pair2 op f g) = omega (arith, unit_st_levels (st sig w d f) f (st_brackets w d f) (st_levels w none d f), unit_st_levels (st sig w d g) g (st_brackets w d g) (st_levels w none d g))
    st_levels w none d (Quant1 q x s f) =
        omega (arith, guarded_levels (is_constant sig s) q (existence_name s) w (Var (user_variable x)) (st sig w d f) none refl, unit_st_levels (st sig w d f) f (st_brackets w d f) (st_levels w none d f))
    st_levels w none d (Modal1 mode i f) =
        let inner = st sig (Var (world_variable d)) (suc d) f in
        omega (arith, over_worlds_levels mode d (relation_name i) w (Var (world_variable d)) inner none refl, st_levels (Var (world_variable d)) refl (suc d) f, one_more (has_brackets inner) (formula_levels inner))
    st_levels w none d (Distinct ts) = omega arith

    sts_levels : {k : _} (w : Term) → term_levels w ≡ 0 → (d : ℕ) (fs : Row_of-Formula k) → members_levels (sts sig w d fs) ≤ 3 * members_levels fs + 1
    sts_levels w none d end_of-Formula = omega arith
    sts_levels w none d (more_of-Formula f fs) = omega (arith, unit_st_levels (st sig w d f) f (st_brackets w d f) (st_levels w none d f), sts_levels w none d fs)

  pub embedded_levels : (scope : Scope) (f : Formula) → formula_levels (embedded sig scope f) ≤ 3 * formula_levels f + 3
  embedded_levels Local f = omega (arith, st_levels (Name0 actual_name) refl 0 f)
  embedded_levels Global f =
      let inner = st sig (Var (world_variable 0)) 1 f in
      omega (arith, st_levels (Var (world_variable 0)) refl 1 f, one_more (has_brackets inner) (formula_levels inner))
