-- The translation of a well-sorted formula is well sorted.
use Rattle.std.proofs.Common.{◌≡◌, ℕ, suc, Bool, true, false, List, [], ◌∷◌, refl, sym, ap, ◌∙◌, arith}
use Rattle.std.specs.Prelude.{◌&&◌, if◌then◌else◌, map, Option, None, Some}
use Rattle.std.specs.Option.{option_map, is_none}
use Rattle.nxf_tree.specs.declared.tree.Signature.{Signature}
use Rattle.nxf_tree.specs.declared.tree.SortName.{SortName}
use Rattle.nxf_tree.specs.declared.tree.SortName.TheVariants.{Individual, User}
use Rattle.nxf_tree.specs.declared.tree.IndexName.{IndexName}
use Rattle.nxf_tree.specs.declared.tree.Quantifier.{Quantifier}
use Rattle.nxf_tree.specs.declared.tree.Quantifier.TheVariants.{All, Exists}
use Rattle.nxf_tree.specs.declared.tree.Mode.TheVariants.{Box, Dia}
use Rattle.nxf_tree.specs.declared.tree.Scope.{Scope}
use Rattle.nxf_tree.specs.declared.tree.Scope.TheVariants.{Local, Global}
use Rattle.nxf_tree.specs.declared.tree.Term.{Term, Var, App, App', Row_of-Term, end_of-Term, more_of-Term}
use Rattle.nxf_tree.specs.declared.tree.Term.TheBlock.{hidden-the_row-Term-0, items-the_row-Term, items_hidden-the_row-Term-0}
use Rattle.nxf_tree.specs.declared.tree.Formula.{Formula, True, False, Atom, Same, Differ, And', Or', Distinct, Row_of-Formula, end_of-Formula, more_of-Formula}
use Rattle.nxf_tree.specs.Shapes.{Not1, Pair2, Quant1, Modal1, Name0}
use Rattle.nxf_tree.specs.Names.{same_text, user_name, user_variable, user_sort, world_variable, actual_name, relation_name, existence_name}
use Rattle.nxf_tree.specs.Signature.{same_sort, is_constant, is_flexible}
use Rattle.nxf_tree.specs.Embedding.{at_world, st_term, st_terms, guarded, st, sts, embedded}
use Rattle.nxf_tree.specs.Sorting.{SymbolType, Language, Bound, bound_sort, is_sort, fit, applied_sort, is_atom, have_one_sort, sort_of, sorts_of, is_sorted, are_sorted, modal_language}
use Rattle.name_laws.specs.Standing.{WorldTerm, actual, reached}
use Rattle.name_laws.proofs.Spelling.{same_text-refl, true-false, same-user_variable, user_variable-world, world_variable-user, world_variables-differ}
use Rattle.name_laws.proofs.Apart.{sort-true}
use Rattle.name_laws.proofs.Types.{world_sort, split, up_type, takes, CL, symbol-type, relation-type, existence-type, actual-type, knows-sort, knows-world}

pub both : (a b : Bool) → a ≡ true → b ≡ true → a && b ≡ true
both a b p q = λ i. p i && q i

pub same_sort-refl : (s : SortName) → same_sort s s ≡ true
same_sort-refl Individual = refl
same_sort-refl (User a) = same_text-refl a

is_sort-some : (s : SortName) (o : Option SortName) → is_sort s o ≡ true → o ≡ Some s
is_sort-some s None h = absurd (true-false (sym h))
is_sort-some s (Some r) h = ap Some (sym (sort-true s r h))

pub is_sort-at : (s : SortName) (o : Option SortName) → o ≡ Some s → is_sort s o ≡ true
is_sort-at s o h = ap (is_sort s) h ∙ same_sort-refl s

record OneSort (o p : Option SortName) : Type 0 where
  sort : SortName
  left : o ≡ Some sort
  right : p ≡ Some sort

one_sort : (o p : Option SortName) → have_one_sort o p ≡ true → OneSort o p
one_sort None p h = absurd (true-false (sym h))
one_sort (Some s) p h = record { sort = s; left = refl; right = is_sort-some s p h }

one_sort-up : (s : SortName) (o p : Option SortName) → o ≡ Some s → p ≡ Some s → have_one_sort o p ≡ true
one_sort-up s o p h k = (λ i. have_one_sort (h i) (k i)) ∙ same_sort-refl s

is_none-none : (o : Option SortName) → is_none o ≡ true → o ≡ None
is_none-none None h = refl
is_none-none (Some s) h = absurd (true-false (sym h))

sorts_of_row : (L : Language) (b : Bound) {m : _} (ts : Row_of-Term m) → sorts_of L b ts ≡ map (sort_of L b) (items-the_row-Term _ ts)
sorts_of_row L b end_of-Term = refl
sorts_of_row L b (more_of-Term t ts) = ap (λ l. sort_of L b t ∷ l) (sorts_of_row L b ts)

pub sort_of-App : (L : Language) (b : Bound) (f : List ℕ) (ts : List Term) → sort_of L b (App f ts) ≡ applied_sort (L.type_of f) (map (sort_of L b) ts)
sort_of-App L b f ts =
    ap (applied_sort (L.type_of f)) (sorts_of_row L b (hidden-the_row-Term-0 ts) ∙ ap (map (sort_of L b)) (items_hidden-the_row-Term-0 ts))

-- a function's printed type, with a world in front or not
pub applied-up : (L : Language) (b : Bound) (t : Term) (flexible : Bool) (type : SymbolType) (us : List Term) → sort_of L b t ≡ Some world_sort → fit (map user_sort type.args) (map (sort_of L b) us) ≡ true → applied_sort (Some (up_type flexible type)) (map (sort_of L b) (at_world flexible t us)) ≡ option_map user_sort type.gives
applied-up L b t true type us at h = ap (λ c. if c then option_map user_sort type.gives else None) (both _ _ (is_sort-at world_sort _ at) h)
applied-up L b t false type us at h = ap (λ c. if c then option_map user_sort type.gives else None) h

module _ (sig : Signature) where
  abbrev L : Language
  L = modal_language sig

  abbrev C : Language
  C = CL sig

  -- what is kept on the way down
  record Typed (b b2 : Bound) (t : Term) (d : ℕ) : Type 0 where
    renamed : (x : List ℕ) → bound_sort b2 (user_variable x) ≡ option_map user_sort (bound_sort b x)
    term : WorldTerm d t
    at : sort_of C b2 t ≡ Some world_sort

  bind-chosen : (c : Bool) (s : SortName) (o o2 : Option SortName) → o2 ≡ option_map user_sort o → (if c then Some (user_sort s) else o2) ≡ option_map user_sort (if c then Some s else o)
  bind-chosen true s o o2 h = refl
  bind-chosen false s o o2 h = h

  at-bind : (b2 : Bound) (x : List ℕ) (s : SortName) (d : ℕ) (t : Term) → WorldTerm d t → sort_of C ((user_variable x, s) ∷ b2) t ≡ sort_of C b2 t
  at-bind b2 x s d t actual = refl
  at-bind b2 x s d t (reached j h) = rw (user_variable-world j x)

  at-next : (b2 : Bound) (s : SortName) (d : ℕ) (t : Term) → WorldTerm d t → sort_of C ((world_variable d, s) ∷ b2) t ≡ sort_of C b2 t
  at-next b2 s d t actual = refl
  at-next b2 s d t (reached j h) = rw (world_variables-differ j d h)

  typed-bind : (b b2 : Bound) (t : Term) (d : ℕ) (x : List ℕ) (s : SortName) → Typed b b2 t d → Typed ((x, s) ∷ b) ((user_variable x, user_sort s) ∷ b2) t d
  typed-bind b b2 t d x s k = record {
    renamed = λ y. rw (same-user_variable x y) (bind-chosen (same_text x y) s (bound_sort b y) (bound_sort b2 (user_variable y)) (k.renamed y));
    term = k.term;
    at = at-bind b2 x (user_sort s) d t k.term ∙ k.at;
  }

  typed-world : (b b2 : Bound) (t : Term) (d : ℕ) → Typed b b2 t d → Typed b ((world_variable d, world_sort) ∷ b2) (Var (world_variable d)) (suc d)
  typed-world b b2 t d k = record {
    renamed = λ y. rw (world_variable-user d y) (k.renamed y);
    term = reached d (omega arith);
    at = rw (same_text-refl (world_variable d));
  }

  applied-law : (b2 : Bound) (t : Term) (f : List ℕ) (us : List Term) (sorts : List (Option SortName)) (s : SortName) → sort_of C b2 t ≡ Some world_sort → ((args : List SortName) → fit args sorts ≡ true → fit (map user_sort args) (map (sort_of C b2) us) ≡ true) → (o : Option SymbolType) → L.type_of f ≡ o → applied_sort o sorts ≡ Some s → applied_sort (C.type_of (user_name f)) (map (sort_of C b2) (at_world (is_flexible sig f) t us)) ≡ Some (user_sort s)
  applied-law b2 t f us sorts s at k None q h = absurd cc
  applied-law b2 t f us sorts s at k (Some type) q h = chosen _ refl h
    where
      chosen : (c : Bool) → fit type.args sorts ≡ c → (if c then type.gives else None) ≡ Some s → applied_sort (C.type_of (user_name f)) (map (sort_of C b2) (at_world (is_flexible sig f) t us)) ≡ Some (user_sort s)
      chosen true r e =
          ap (λ o. applied_sort o (map (sort_of C b2) (at_world (is_flexible sig f) t us))) (symbol-type sig f type q ∙ ap (λ g. Some (up_type (takes g (is_flexible sig f)) type)) e)
          ∙ applied-up C b2 t (is_flexible sig f) type us at (k type.args r)
          ∙ ap (option_map user_sort) e
      chosen false r e = absurd cc

  atom-law : (b2 : Bound) (t : Term) (p : List ℕ) (us : List Term) (sorts : List (Option SortName)) → sort_of C b2 t ≡ Some world_sort → ((args : List SortName) → fit args sorts ≡ true → fit (map user_sort args) (map (sort_of C b2) us) ≡ true) → (o : Option SymbolType) → L.type_of p ≡ o → is_atom o sorts ≡ true → is_atom (C.type_of (user_name p)) (sort_of C b2 t ∷ map (sort_of C b2) us) ≡ true
  atom-law b2 t p us sorts at k None q h = absurd (true-false (sym h))
  atom-law b2 t p us sorts at k (Some type) q h =
      let none : type.gives ≡ None = is_none-none type.gives (split _ _ h).0 in
      (ap (λ o. is_atom o (sort_of C b2 t ∷ map (sort_of C b2) us)) (symbol-type sig p type q ∙ ap (λ g. Some (up_type (takes g (is_flexible sig p)) type)) none)
      ∙ both _ _ (ap (λ g. is_none (option_map user_sort g)) none) (both _ _ (is_sort-at world_sort _ at) (k type.args (split _ _ h).1)))

  module _ (b b2 : Bound) (t : Term) (d : ℕ) (typed : Typed b b2 t d) where
    mutual
      term-sorted : (u : Term) (s : SortName) → sort_of L b u ≡ Some s → sort_of C b2 (st_term sig t u) ≡ Some (user_sort s)
      term-sorted (Var x) s h = typed.renamed x ∙ ap (option_map user_sort) h
      term-sorted (App' f shape us) s h =
          sort_of-App C b2 (user_name f) (at_world (is_flexible sig f) t (st_terms sig t us))
          ∙ applied-law b2 t f (st_terms sig t us) (sorts_of L b us) s typed.at (terms-sorted us) _ refl h

      terms-sorted : {m : _} (us : Row_of-Term m) (args : List SortName) → fit args (sorts_of L b us) ≡ true → fit (map user_sort args) (map (sort_of C b2) (st_terms sig t us)) ≡ true
      terms-sorted end_of-Term [] h = refl
      terms-sorted end_of-Term (a ∷ args) h = h
      terms-sorted (more_of-Term u us) [] h = h
      terms-sorted (more_of-Term u us) (a ∷ args) h =
          both _ _ (is_sort-at (user_sort a) _ (term-sorted u a (is_sort-some a _ (split _ _ h).0))) (terms-sorted us args (split _ _ h).1)

    list-sorted : (us : List Term) (args : List SortName) → fit args (map (sort_of L b) us) ≡ true → fit (map user_sort args) (map (sort_of C b2) (map (st_term sig t) us)) ≡ true
    list-sorted [] [] h = refl
    list-sorted [] (a ∷ args) h = h
    list-sorted (u ∷ us) [] h = h
    list-sorted (u ∷ us) (a ∷ args) h =
        both _ _ (is_sort-at (user_sort a) _ (term-sorted u a (is_sort-some a _ (split _ _ h).0))) (list-sorted us args (split _ _ h).1)

    same-sorted : (u v : Term) → have_one_sort (sort_of L b u) (sort_of L b v) ≡ true → have_one_sort (sort_of C b2 (st_term sig t u)) (sort_of C b2 (st_term sig t v)) ≡ true
    same-sorted u v h = let o : OneSort (sort_of L b u) (sort_of L b v) = one_sort _ _ h in
        (one_sort-up (user_sort o.sort) _ _ (term-sorted u o.sort o.left) (term-sorted v o.sort o.right))

  guarded-sorted : (b2 : Bound) (q : Quantifier) (g f : Formula) (c : Bool) → (c ≡ false → is_sorted C b2 g ≡ true) → is_sorted C b2 f ≡ true → is_sorted C b2 (guarded c q g f) ≡ true
  guarded-sorted b2 q g f true h k = k
  guarded-sorted b2 All g f false h k = both _ _ (h refl) k
  guarded-sorted b2 Exists g f false h k = both _ _ (h refl) (both _ _ k refl)

  exists-sorted : (b b2 : Bound) (t : Term) (d : ℕ) (x : List ℕ) (s : SortName) → Typed b b2 t d → is_constant sig s ≡ false → is_sorted C ((user_variable x, user_sort s) ∷ b2) (Atom (existence_name s) (t ∷ Var (user_variable x) ∷ [])) ≡ true
  exists-sorted b b2 t d x s k q =
      ap (λ o. is_atom o (sort_of C ((user_variable x, user_sort s) ∷ b2) t ∷ bound_sort ((user_variable x, user_sort s) ∷ b2) (user_variable x) ∷ [])) (existence-type sig s q)
      ∙ both _ _ (is_sort-at world_sort _ (at-bind b2 x (user_sort s) d t k.term ∙ k.at))
      (both _ _ (is_sort-at (user_sort s) _ (ap (λ c. if c then Some (user_sort s) else bound_sort b2 (user_variable x)) (same_text-refl (user_variable x)))) refl)

  reaches-sorted : (b b2 : Bound) (t : Term) (d : ℕ) (i : IndexName) → Typed b b2 t d → L.knows_index i ≡ true → is_sorted C ((world_variable d, world_sort) ∷ b2) (Atom (relation_name i) (t ∷ Var (world_variable d) ∷ [])) ≡ true
  reaches-sorted b b2 t d i k q =
      ap (λ o. is_atom o (sort_of C ((world_variable d, world_sort) ∷ b2) t ∷ bound_sort ((world_variable d, world_sort) ∷ b2) (world_variable d) ∷ [])) (relation-type sig i q)
      ∙ both _ _ (is_sort-at world_sort _ (at-next b2 world_sort d t k.term ∙ k.at))
      (both _ _ (is_sort-at world_sort _ (ap (λ c. if c then Some world_sort else bound_sort b2 (world_variable d)) (same_text-refl (world_variable d)))) refl)

  mutual
    sorted : (f : Formula) (b b2 : Bound) (t : Term) (d : ℕ) → Typed b b2 t d → is_sorted L b f ≡ true → is_sorted C b2 (st sig t d f) ≡ true
    sorted True b b2 t d k h = refl
    sorted False b b2 t d k h = refl
    sorted (Atom p us) b b2 t d k h = atom-law b2 t p (map (st_term sig t) us) (map (sort_of L b) us) k.at (list-sorted b b2 t d k us) _ refl h
    sorted (Same u v) b b2 t d k h = same-sorted b b2 t d k u v h
    sorted (Differ u v) b b2 t d k h = same-sorted b b2 t d k u v h
    sorted (Not1 f) b b2 t d k h = sorted f b b2 t d k h
    sorted (And' shape fs) b b2 t d k h = rows-sorted fs b b2 t d k h
    sorted (Or' shape fs) b b2 t d k h = rows-sorted fs b b2 t d k h
    sorted (Pair2 op f g) b b2 t d k h = both _ _ (sorted f b b2 t d k (split _ _ h).0) (sorted g b b2 t d k (split _ _ h).1)
    sorted (Quant1 q x s f) b b2 t d k h =
        both _ _ (knows-sort sig s (split _ _ h).0)
        (guarded-sorted ((user_variable x, user_sort s) ∷ b2) q _ _ (is_constant sig s) (exists-sorted b b2 t d x s k) (sorted f ((x, s) ∷ b) ((user_variable x, user_sort s) ∷ b2) t d (typed-bind b b2 t d x s k) (split _ _ h).1))
    sorted (Modal1 Box i f) b b2 t d k h =
        both _ _ (knows-world sig) (both _ _ (reaches-sorted b b2 t d i k (split _ _ h).0)
        (sorted f b ((world_variable d, world_sort) ∷ b2) (Var (world_variable d)) (suc d) (typed-world b b2 t d k) (split _ _ h).1))
    sorted (Modal1 Dia i f) b b2 t d k h =
        both _ _ (knows-world sig) (both _ _ (reaches-sorted b b2 t d i k (split _ _ h).0)
        (both _ _ (sorted f b ((world_variable d, world_sort) ∷ b2) (Var (world_variable d)) (suc d) (typed-world b b2 t d k) (split _ _ h).1) refl))
    sorted (Distinct us) b b2 t d k h = absurd (true-false (sym h))

    rows-sorted : {m : _} (fs : Row_of-Formula m) (b b2 : Bound) (t : Term) (d : ℕ) → Typed b b2 t d → are_sorted L b fs ≡ true → are_sorted C b2 (sts sig t d fs) ≡ true
    rows-sorted end_of-Formula b b2 t d k h = refl
    rows-sorted (more_of-Formula f fs) b b2 t d k h = both _ _ (sorted f b b2 t d k (split _ _ h).0) (rows-sorted fs b b2 t d k (split _ _ h).1)

  at_start : Typed [] [] (Name0 actual_name) 0
  at_start = record {
    renamed = λ x. refl;
    term = actual;
    at = ap (λ o. applied_sort o []) (actual-type sig);
  }

  pub embedded-sorted : (scope : Scope) (f : Formula) → is_sorted L [] f ≡ true → is_sorted C [] (embedded sig scope f) ≡ true
  embedded-sorted Local f h = sorted f [] [] (Name0 actual_name) 0 at_start h
  embedded-sorted Global f h =
      both _ _ (knows-world sig) (sorted f [] ((world_variable 0, world_sort) ∷ []) (Var (world_variable 0)) 1 (typed-world [] [] (Name0 actual_name) 0 at_start) h)
