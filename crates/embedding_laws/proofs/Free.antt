-- Only the free variables of a formula count.
use Rattle.std.proofs.Common.{◌≡◌, ℕ, Bool, true, false, List, [], ◌∷◌, ◌++◌, refl, sym, ap, ◌∙◌}
use Rattle.std.specs.Prelude.{◌&&◌, ◌||◌, not, nat_eq, if◌then◌else◌, map, codes, Option, None, Some}
use Rattle.nxf_tree.specs.declared.tree.Quantifier.TheVariants.{All, Exists}
use Rattle.nxf_tree.specs.declared.tree.Mode.TheVariants.{Box, Dia}
use Rattle.nxf_tree.specs.declared.tree.Signature.{Signature}
use Rattle.nxf_tree.specs.declared.tree.Term.{Term, Var, App', Row_of-Term, end_of-Term, more_of-Term}
use Rattle.nxf_tree.specs.declared.tree.Formula.{Formula, True, False, Atom, Same, Differ, And', Or', Distinct, Row_of-Formula, end_of-Formula, more_of-Formula}
use Rattle.nxf_tree.specs.Shapes.{Not1, Pair2, Quant1, Modal1}
use Rattle.nxf_tree.specs.Counting.{implies}
use Rattle.nxf_tree.specs.Names.{same_text, begins, user_variable}
use Rattle.nxf_tree.specs.Kripke.{KripkeModel, Env, look, connect, value_at, values_at, sat, all_sat, some_sat}
use Rattle.nxf_tree.specs.Classical.{ClassicalModel, csat}
use Rattle.nxf_tree.specs.Embedding.{st}
use Rattle.std.proofs.lemmas.Bool.{eqb-true}
use Rattle.name_laws.specs.Agreement.{Agrees}
use Rattle.name_laws.specs.Standing.{Renamed}
use Rattle.embedding_laws.specs.Free.{occurs, occurs_among, occurs_in, is_free, is_free_among, StandsFor}
use Rattle.name_laws.proofs.Bounds.{all_below-same, any_below-same}
use Rattle.name_laws.proofs.Spelling.{same_text-refl, same_text-true, both_ways, never, true-false}
use Rattle.embedding_laws.proofs.Transfer.{transfer}

or-left : (a b : Bool) → a ≡ true → a || b ≡ true
or-left true b e = refl
or-left false b e = absurd (true-false (sym e))

or-right : (a b : Bool) → b ≡ true → a || b ≡ true
or-right true b e = refl
or-right false b e = e

module _ (K : KripkeModel) where
  mutual
    value-same : (t : Term) (w : ℕ) (e d : Env) → ((x : List ℕ) → occurs x t ≡ true → look e x ≡ look d x) → value_at K w e t ≡ value_at K w d t
    value-same (Var y) w e d h = h y (same_text-refl y)
    value-same (App' f shape ts) w e d h = ap (K.value f w) (values-same ts w e d h)

    values-same : {m : _} (ts : Row_of-Term m) (w : ℕ) (e d : Env) → ((x : List ℕ) → occurs_among x ts ≡ true → look e x ≡ look d x) → values_at K w e ts ≡ values_at K w d ts
    values-same end_of-Term w e d h = refl
    values-same (more_of-Term t ts) w e d h =
        λ i. value-same t w e d (λ x o. h x (or-left _ _ o)) i ∷ values-same ts w e d (λ x o. h x (or-right _ _ o)) i

  list-same : (ts : List Term) (w : ℕ) (e d : Env) → ((x : List ℕ) → occurs_in x ts ≡ true → look e x ≡ look d x) → map (value_at K w e) ts ≡ map (value_at K w d) ts
  list-same [] w e d h = refl
  list-same (t ∷ ts) w e d h = λ i. value-same t w e d (λ x o. h x (or-left _ _ o)) i ∷ list-same ts w e d (λ x o. h x (or-right _ _ o)) i

  bound-chosen : (b : Bool) (a p q : ℕ) (free : Bool) → (not b && free ≡ true → p ≡ q) → free ≡ true → (if b then a else p) ≡ (if b then a else q)
  bound-chosen true a p q free h o = refl
  bound-chosen false a p q free h o = h o

  under : (y : List ℕ) (a : ℕ) (f : Formula) (e d : Env) → ((x : List ℕ) → not (same_text y x) && is_free x f ≡ true → look e x ≡ look d x) → (x : List ℕ) → is_free x f ≡ true → look ((y, a) ∷ e) x ≡ look ((y, a) ∷ d) x
  under y a f e d h x o = bound-chosen (same_text y x) a (look e x) (look d x) (is_free x f) (h x) o

  mutual
    pub coincide : (f : Formula) (w : ℕ) (e d : Env) → ((x : List ℕ) → is_free x f ≡ true → look e x ≡ look d x) → sat K w e f ≡ sat K w d f
    coincide True w e d h = refl
    coincide False w e d h = refl
    coincide (Atom p ts) w e d h = ap (K.holds p w) (list-same ts w e d h)
    coincide (Same t u) w e d h = λ i. nat_eq (value-same t w e d (λ x o. h x (or-left _ _ o)) i) (value-same u w e d (λ x o. h x (or-right _ _ o)) i)
    coincide (Differ t u) w e d h = λ i. not (nat_eq (value-same t w e d (λ x o. h x (or-left _ _ o)) i) (value-same u w e d (λ x o. h x (or-right _ _ o)) i))
    coincide (Not1 f) w e d h = ap not (coincide f w e d h)
    coincide (And' shape fs) w e d h = all-coincide fs w e d h
    coincide (Or' shape fs) w e d h = some-coincide fs w e d h
    coincide (Pair2 op f g) w e d h = λ i. connect op (coincide f w e d (λ x o. h x (or-left _ _ o)) i) (coincide g w e d (λ x o. h x (or-right _ _ o)) i)
    coincide (Quant1 All y s f) w e d h =
        all_below-same (K.size s) (K.size s) _ _ refl (λ a i. implies (K.present s w a) (coincide f w ((y, a) ∷ e) ((y, a) ∷ d) (under y a f e d h) i))
    coincide (Quant1 Exists y s f) w e d h =
        any_below-same (K.size s) (K.size s) _ _ refl (λ a i. K.present s w a && coincide f w ((y, a) ∷ e) ((y, a) ∷ d) (under y a f e d h) i)
    coincide (Modal1 Box j f) w e d h = all_below-same K.worlds K.worlds _ _ refl (λ v i. implies (K.related j w v) (coincide f v e d h i))
    coincide (Modal1 Dia j f) w e d h = any_below-same K.worlds K.worlds _ _ refl (λ v i. K.related j w v && coincide f v e d h i)
    coincide (Distinct ts) w e d h = refl

    all-coincide : {m : _} (fs : Row_of-Formula m) (w : ℕ) (e d : Env) → ((x : List ℕ) → is_free_among x fs ≡ true → look e x ≡ look d x) → all_sat K w e fs ≡ all_sat K w d fs
    all-coincide end_of-Formula w e d h = refl
    all-coincide (more_of-Formula f fs) w e d h = λ i. coincide f w e d (λ x o. h x (or-left _ _ o)) i && all-coincide fs w e d (λ x o. h x (or-right _ _ o)) i

    some-coincide : {m : _} (fs : Row_of-Formula m) (w : ℕ) (e d : Env) → ((x : List ℕ) → is_free_among x fs ≡ true → look e x ≡ look d x) → some_sat K w e fs ≡ some_sat K w d fs
    some-coincide end_of-Formula w e d h = refl
    some-coincide (more_of-Formula f fs) w e d h = λ i. coincide f w e d (λ x o. h x (or-left _ _ o)) i || some-coincide fs w e d (λ x o. h x (or-right _ _ o)) i

-- the user variable with a printed name, if there is one
abbrev mark : List ℕ
mark = codes "W_"

abbrev after_mark : List ℕ → List ℕ
after_mark [] = []
after_mark (a ∷ []) = []
after_mark (a ∷ b ∷ n) = n

abbrev unprinted : Bool → Bool → List ℕ → Option (List ℕ)
unprinted false b n = Some n
unprinted true true n = Some (after_mark n)
unprinted true false n = None

abbrev user_of : List ℕ → Option (List ℕ)
user_of n = unprinted (begins mark n) (begins mark (after_mark n)) n

user_of-marked : (x : List ℕ) (b : Bool) → begins mark x ≡ b → user_of (if b then mark ++ x else x) ≡ Some x
user_of-marked x true p = rw p
user_of-marked x false p = rw p

user_of-user : (x : List ℕ) → user_of (user_variable x) ≡ Some x
unfolding user_variable
user_of-user x = user_of-marked x _ refl

and-left : (a b : Bool) → a && b ≡ true → a ≡ true
and-left true b e = refl
and-left false b e = e

and-right : (a b : Bool) → a && b ≡ true → b ≡ true
and-right true b e = e
and-right false b e = absurd (true-false (sym e))

whole : (n : List ℕ) → begins mark n ≡ true → mark ++ after_mark n ≡ n
whole [] p = absurd (true-false (sym p))
whole (a ∷ []) p = absurd (true-false (sym (and-right (nat_eq 87 a) false p)))
whole (a ∷ b ∷ n) p =
    let first : 87 ≡ a = eqb-true 87 a (and-left _ _ p) in
    let second : 95 ≡ b = eqb-true 95 b (and-left _ _ (and-right (nat_eq 87 a) _ p)) in
    (λ i. first i ∷ second i ∷ n)

back-chosen : (n x : List ℕ) (b c : Bool) → begins mark n ≡ b → begins mark (after_mark n) ≡ c → unprinted b c n ≡ Some x → (if begins mark x then mark ++ x else x) ≡ n
back-chosen n x false c p q h = let e : n ≡ x = cc in
    (ap (λ y. if begins mark y then mark ++ y else y) (sym e) ∙ ap (λ b. if b then mark ++ n else n) p)
back-chosen n x true true p q h = let e : after_mark n ≡ x = cc in
    (ap (λ y. if begins mark y then mark ++ y else y) (sym e) ∙ ap (λ b. if b then mark ++ after_mark n else after_mark n) q ∙ whole n p)
back-chosen n x true false p q h = absurd cc

user-of_user : (n x : List ℕ) → user_of n ≡ Some x → user_variable x ≡ n
unfolding user_variable
user-of_user n x h = back-chosen n x _ _ refl refl h

-- the values of the user variables of a printed environment
abbrev kept : Option (List ℕ) → ℕ → Env → Env
kept None a e = e
kept (Some x) a e = (x, a) ∷ e

abbrev users : Env → Env
users [] = []
users (b ∷ e) = kept (user_of b.0) b.1 (users e)

same-if : (a b : Bool) (x p q : ℕ) → a ≡ b → p ≡ q → (if a then x else p) ≡ (if b then x else q)
same-if a b x p q e h = λ i. if e i then x else h i

kept-same : (n x : List ℕ) (a p : ℕ) (e : Env) (o : Option (List ℕ)) → user_of n ≡ o → p ≡ look e x → (if same_text n (user_variable x) then a else p) ≡ look (kept o a e) x
kept-same n x a p e None q h =
    ap (λ b. if b then a else p) (never (same_text n (user_variable x)) (λ s. let m : user_variable x ≡ n = sym (same_text-true n (user_variable x) s) in (absent (sym (user_of-user x) ∙ ap user_of m ∙ q)))) ∙ h
  where
    absent : Some x ≡ None → ⊥
    absent s = cc
kept-same n x a p e (Some y) q h =
    same-if _ _ a p (look e x) (both_ways (same_text n (user_variable x)) (same_text y x)
    (λ s. let m : n ≡ user_variable x = same_text-true n (user_variable x) s in let t : Some y ≡ Some x = sym q ∙ ap user_of m ∙ user_of-user x in (let u : y ≡ x = cc in (ap (λ z. same_text z x) u ∙ same_text-refl x)))
    (λ s. ap (λ z. same_text z (user_variable x)) (sym (user-of_user n y q)) ∙ ap (λ z. same_text (user_variable z) (user_variable x)) (same_text-true y x s) ∙ same_text-refl (user_variable x))) h

users-renamed : (e2 : Env) → Renamed (users e2) e2
users-renamed [] x = refl
users-renamed (b ∷ e2) x = kept-same b.0 x b.1 (look e2 (user_variable x)) (users e2) _ refl (users-renamed e2 x)

pub transfer_free : (sig : Signature) (K : KripkeModel) (S : ClassicalModel) → Agrees sig K S → (f : Formula) (w d : ℕ) (t : Term) (e e2 : Env) → StandsFor f S e e2 t w d → csat S e2 (st sig t d f) ≡ sat K w e f
transfer_free sig K S c f w d t e e2 s =
    transfer sig K S c f w d t (users e2) e2 (record { renamed = users-renamed e2; term = s.term; at = s.at })
    ∙ coincide K f w (users e2) e (λ x o. sym (users-renamed e2 x) ∙ s.renamed x o)
