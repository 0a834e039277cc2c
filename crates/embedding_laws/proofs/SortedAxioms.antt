-- The added axioms are closed and well sorted.
use Rattle.std.proofs.Common.{◌≡◌, ℕ, zero, suc, ◌≤◌, Bool, true, false, List, [], ◌∷◌, refl, sym, ap, ◌∙◌, arith}
use Rattle.std.specs.Prelude.{◌&&◌, ◌||◌, not, if◌then◌else◌, map, Option, None, Some}
use Rattle.std.specs.Option.{option_map}
use Rattle.nxf_tree.specs.declared.tree.Signature.{Signature}
use Rattle.nxf_tree.specs.declared.tree.SortEntry.{SortEntry}
use Rattle.nxf_tree.specs.declared.tree.SymbolEntry.{SymbolEntry}
use Rattle.nxf_tree.specs.declared.tree.IndexEntry.{IndexEntry}
use Rattle.nxf_tree.specs.declared.tree.IndexName.{IndexName}
use Rattle.nxf_tree.specs.declared.tree.IndexName.TheVariants.{Plain, Named}
use Rattle.nxf_tree.specs.declared.tree.SortName.{SortName}
use Rattle.nxf_tree.specs.declared.tree.Regime.{Regime}
use Rattle.nxf_tree.specs.declared.tree.Regime.TheVariants.{Constant, Cumulative, Decreasing, Varying}
use Rattle.nxf_tree.specs.declared.tree.Locality.{Locality}
use Rattle.nxf_tree.specs.declared.tree.Locality.TheVariants.{Local, Global}
use Rattle.nxf_tree.specs.declared.tree.Scheme.{Scheme}
use Rattle.nxf_tree.specs.declared.tree.Scheme.TheVariants.{T, D, B, Four, Five, CD, BoxM, C4, C, U}
use Rattle.nxf_tree.specs.declared.tree.Term.{App}
use Rattle.nxf_tree.specs.declared.tree.Formula.{Formula, And, Row_of-Formula, end_of-Formula, more_of-Formula}
use Rattle.nxf_tree.specs.declared.tree.Formula.TheBlock.{hidden-the_row-Formula-1, items-the_row-Formula, items_hidden-the_row-Formula-1}
use Rattle.std.specs.List.{list_all}
use Rattle.nxf_tree.specs.Counting.{has, all_different}
use Rattle.nxf_tree.specs.Names.{same_text, user_name, user_sort, world_variable, element_variable, world_name, relation_name, existence_name}
use Rattle.nxf_tree.specs.Signature.{same_sort, same_index, is_constant, is_flexible, sort_at, sort_names, index_names, symbol_names}
use Rattle.nxf_tree.specs.Embedding.{at_world}
use Rattle.nxf_tree.specs.Conditions.{local_result, argument_sorts}
use Rattle.nxf_tree.specs.Axioms.{world, exists_at, frame_axiom, frame_axioms, someone_axiom, everyone_axiom, stay_axiom, were_there_axiom, monotone_axioms, sort_axioms, domain_axioms_of, domain_axioms, elements_from, for_each_row, row_guards, under_guards, value_is_there, term_axiom, result_axioms, term_axioms_of, term_axioms, added_axioms}
use Rattle.nxf_tree.specs.Sorting.{Language, Bound, bound_sort, fit, applied_sort, is_atom, sort_of, is_sorted, are_sorted, type_among, modal_language, in_range, gives_in_range}
use Rattle.name_laws.proofs.GoodSymbols.{HasGoodSymbols}
use Rattle.std.proofs.lemmas.List.Folds.{list_all-append, list_all-map}
use Rattle.name_laws.proofs.Spelling.{same_text-refl, same_text-true, true-false, element_variables-differ, element_variable-world}
use Rattle.name_laws.proofs.Types.{world_sort, split, own_type, relation_type, existence_type, CL, symbol-type, relation-type, existence-type, knows-sort, knows-world}
use Rattle.name_laws.proofs.SortedFormulas.{both, same_sort-refl, is_sort-at, sort_of-App, applied-up}

or-left : (a b : Bool) → a ≡ true → a || b ≡ true
or-left true b e = refl
or-left false b e = absurd (true-false (sym e))

or-right : (a b : Bool) → b ≡ true → a || b ≡ true
or-right true b e = refl
or-right false b e = e

-- over any language that has the names
module _ (M : Language) (kw : M.knows_sort world_sort ≡ true) where
  frame-sorted : (i : IndexName) (scheme : Scheme) → M.type_of (relation_name i) ≡ Some relation_type → is_sorted M [] (frame_axiom i scheme) ≡ true
  unfolding world_variable
  frame-sorted i T h = rw (kw, h, same_text-refl world_name)
  frame-sorted i D h = rw (kw, h, same_text-refl world_name)
  frame-sorted i B h = rw (kw, h, same_text-refl world_name)
  frame-sorted i Four h = rw (kw, h, same_text-refl world_name)
  frame-sorted i Five h = rw (kw, h, same_text-refl world_name)
  frame-sorted i CD h = rw (kw, h, same_text-refl world_name)
  frame-sorted i BoxM h = rw (kw, h, same_text-refl world_name)
  frame-sorted i C4 h = rw (kw, h, same_text-refl world_name)
  frame-sorted i C h = rw (kw, h, same_text-refl world_name)
  frame-sorted i U h = rw (kw, h, same_text-refl world_name)

  module _ (s : SortName) (ks : M.knows_sort (user_sort s) ≡ true) (es : M.type_of (existence_name s) ≡ Some (existence_type s)) where
    someone-sorted : is_sorted M [] (someone_axiom s) ≡ true
    unfolding world_variable element_variable
    someone-sorted = rw (kw, ks, es, same_text-refl world_name, same_sort-refl (user_sort s))

    everyone-sorted : is_sorted M [] (everyone_axiom s) ≡ true
    unfolding world_variable element_variable
    everyone-sorted = rw (kw, ks, es, same_text-refl world_name, same_sort-refl (user_sort s))

    stay-sorted : (i : IndexName) → M.type_of (relation_name i) ≡ Some relation_type → is_sorted M [] (stay_axiom s i) ≡ true
    unfolding world_variable element_variable
    stay-sorted i h = rw (kw, ks, es, h, same_text-refl world_name, same_sort-refl (user_sort s))

    were_there-sorted : (i : IndexName) → M.type_of (relation_name i) ≡ Some relation_type → is_sorted M [] (were_there_axiom s i) ≡ true
    unfolding world_variable element_variable
    were_there-sorted i h = rw (kw, ks, es, h, same_text-refl world_name, same_sort-refl (user_sort s))

-- rows of elements
abbrev bind_sorts : ℕ → List SortName → Bound → Bound
bind_sorts k [] b = b
bind_sorts k (s ∷ ss) b = bind_sorts (suc k) ss ((element_variable k, user_sort s) ∷ b)

unbound : (x : List ℕ) (ss : List SortName) (k : ℕ) (b : Bound) → ((j : ℕ) → k ≤ j → same_text (element_variable j) x ≡ false) → bound_sort (bind_sorts k ss b) x ≡ bound_sort b x
unbound x [] k b h = refl
unbound x (s ∷ ss) k b h =
    unbound x ss (suc k) ((element_variable k, user_sort s) ∷ b) (λ j l. h j (omega arith)) ∙ ap (λ c. if c then Some (user_sort s) else bound_sort b x) (h k (omega arith))

element-sort : (ss : List SortName) (k : ℕ) (s : SortName) (b : Bound) → bound_sort (bind_sorts (suc k) ss ((element_variable k, user_sort s) ∷ b)) (element_variable k) ≡ Some (user_sort s)
element-sort ss k s b =
    unbound (element_variable k) ss (suc k) ((element_variable k, user_sort s) ∷ b) (λ j l. element_variables-differ k j (omega arith))
    ∙ ap (λ c. if c then Some (user_sort s) else bound_sort b (element_variable k)) (same_text-refl (element_variable k))

abbrev start : Bound
start = (world_variable 0, world_sort) ∷ []

world-sort : (ss : List SortName) → bound_sort (bind_sorts 0 ss start) (world_variable 0) ≡ Some world_sort
world-sort ss =
    unbound (world_variable 0) ss 0 start (λ j l. element_variable-world j 0)
    ∙ ap (λ c. if c then Some world_sort else None) (same_text-refl (world_variable 0))

elements-fit : (M : Language) (ss : List SortName) (k : ℕ) (b : Bound) → fit (map user_sort ss) (map (sort_of M (bind_sorts k ss b)) (elements_from k ss)) ≡ true
elements-fit M [] k b = refl
elements-fit M (s ∷ ss) k b = both _ _ (is_sort-at (user_sort s) _ (element-sort ss k s b)) (elements-fit M ss (suc k) ((element_variable k, user_sort s) ∷ b))

row-sorted : (M : Language) (b : Bound) {m : _} (fs : Row_of-Formula m) → are_sorted M b fs ≡ list_all (is_sorted M b) (items-the_row-Formula _ fs)
row-sorted M b end_of-Formula = refl
row-sorted M b (more_of-Formula f fs) = ap (λ c. is_sorted M b f && c) (row-sorted M b fs)

and-sorted : (M : Language) (b : Bound) (fs : List Formula) → is_sorted M b (And fs) ≡ list_all (is_sorted M b) fs
and-sorted M b fs = row-sorted M b (hidden-the_row-Formula-1 fs) ∙ ap (list_all (is_sorted M b)) (items_hidden-the_row-Formula-1 fs)

under-sorted : (M : Language) (b : Bound) (gs : List Formula) (f : Formula) → list_all (is_sorted M b) gs ≡ true → is_sorted M b f ≡ true → is_sorted M b (under_guards gs f) ≡ true
under-sorted M b [] f h k = k
under-sorted M b (g ∷ []) f h k = both _ _ (split _ _ h).0 k
under-sorted M b (g ∷ e ∷ gs) f h k = both _ _ (and-sorted M b (g ∷ e ∷ gs) ∙ h) k

bound-sorted : (M : Language) (ss : List SortName) (k : ℕ) (b : Bound) (f : Formula) → list_all (λ s. M.knows_sort (user_sort s)) ss ≡ true → is_sorted M (bind_sorts k ss b) f ≡ true → is_sorted M b (for_each_row k ss f) ≡ true
bound-sorted M [] k b f h e = e
bound-sorted M (s ∷ ss) k b f h e = both _ _ (split _ _ h).0 (bound-sorted M ss (suc k) ((element_variable k, user_sort s) ∷ b) f (split _ _ h).1 e)

-- a member of a list
data In {A : Type 0} (x : A) : List A → Type 0 where
  here : (xs : List A) → In x (x ∷ xs)
  there : (y : A) (xs : List A) → In x xs → In x (y ∷ xs)

all-in : {A : Type 0} (p : A → Bool) (xs : List A) → ((x : A) → In x xs → p x ≡ true) → list_all p xs ≡ true
all-in p [] h = refl
all-in p (x ∷ xs) h = both _ _ (h x (here xs)) (all-in p xs (λ y k. h y (there x xs k)))

in-list_all : {A : Type 0} (p : A → Bool) (x : A) (xs : List A) → In x xs → list_all p xs ≡ true → p x ≡ true
in-list_all p x [] k h = elim k [ ]
in-list_all p x (y ∷ xs) (here zs) h = (split _ _ h).0
in-list_all p x (y ∷ xs) (there z zs k) h = in-list_all p x xs k (split _ _ h).1

sort-in : (entry : SortEntry) (entries : List SortEntry) → In entry entries → has same_sort entry.name (sort_names entries) ≡ true
sort-in entry [] k = elim k [ ]
sort-in entry (e ∷ entries) (here xs) = or-left _ _ (same_sort-refl entry.name)
sort-in entry (e ∷ entries) (there y xs k) = or-right _ _ (sort-in entry entries k)

same_index-refl : (i : IndexName) → same_index i i ≡ true
same_index-refl Plain = refl
same_index-refl (Named a) = same_text-refl a

index-in : (entry : IndexEntry) (entries : List IndexEntry) → In entry entries → has same_index entry.name (index_names entries) ≡ true
index-in entry [] k = elim k [ ]
index-in entry (e ∷ entries) (here xs) = or-left _ _ (same_index-refl entry.name)
index-in entry (e ∷ entries) (there y xs k) = or-right _ _ (index-in entry entries k)

-- a symbol is found under its name
name-in : (entry : SymbolEntry) (entries : List SymbolEntry) → In entry entries → has same_text entry.name (symbol_names entries) ≡ true
name-in entry [] k = elim k [ ]
name-in entry (e ∷ entries) (here xs) = or-left _ _ (same_text-refl entry.name)
name-in entry (e ∷ entries) (there y xs k) = or-right _ _ (name-in entry entries k)

not-both : (a : Bool) → a ≡ true → not a ≡ true → ⊥
not-both true p q = true-false (sym q)
not-both false p q = true-false (sym p)

apart-in : (e entry : SymbolEntry) (entries : List SymbolEntry) → In entry entries → not (has same_text e.name (symbol_names entries)) ≡ true → (b : Bool) → same_text e.name entry.name ≡ b → b ≡ false
apart-in e entry entries k h true q =
    absurd (not-both _ (ap (λ n. has same_text n (symbol_names entries)) (same_text-true e.name entry.name q) ∙ name-in entry entries k) h)
apart-in e entry entries k h false q = refl

own-in : (sorts : List SortEntry) (entry : SymbolEntry) (entries : List SymbolEntry) → In entry entries → all_different same_text (symbol_names entries) ≡ true → type_among sorts entries entry.name ≡ Some (own_type sorts entry)
own-in sorts entry [] k h = elim k [ ]
own-in sorts entry (e ∷ entries) (here xs) h = ap (λ b. if b then Some (own_type sorts entry) else type_among sorts entries entry.name) (same_text-refl entry.name)
own-in sorts entry (e ∷ entries) (there y xs k) h =
    ap (λ b. if b then Some (own_type sorts e) else type_among sorts entries entry.name) (apart-in e entry entries k (split _ _ h).0 _ refl)
    ∙ own-in sorts entry entries k (split _ _ h).1

range-known : (entries : List SortEntry) (k : ℕ) → in_range entries k ≡ true → has same_sort (sort_at entries k) (sort_names entries) ≡ true
range-known [] k h = absurd (true-false (sym h))
range-known (entry ∷ entries) zero h = or-left _ _ (same_sort-refl entry.name)
range-known (entry ∷ entries) (suc k) h = or-right _ _ (range-known entries k h)

module _ (sig : Signature) where
  abbrev CC : Language
  CC = CL sig

  sort-known : (k : ℕ) → in_range sig.sorts k ≡ true → CC.knows_sort (user_sort (sort_at sig.sorts k)) ≡ true
  sort-known k h = knows-sort sig (sort_at sig.sorts k) (range-known sig.sorts k h)

  args-known : (ks : List ℕ) → list_all (in_range sig.sorts) ks ≡ true → list_all (λ s. CC.knows_sort (user_sort s)) (map (sort_at sig.sorts) ks) ≡ true
  args-known [] h = refl
  args-known (k ∷ ks) h = both _ _ (sort-known k (split _ _ h).0) (args-known ks (split _ _ h).1)

  -- frames
  frames-in : (entries : List IndexEntry) → ((entry : IndexEntry) → In entry entries → CC.type_of (relation_name entry.name) ≡ Some relation_type) → list_all (is_sorted CC []) (frame_axioms entries) ≡ true
  frames-in [] h = refl
  frames-in (entry ∷ entries) h =
      list_all-append (is_sorted CC []) (map (frame_axiom entry.name) entry.schemes) (frame_axioms entries)
      ∙ both _ _ (list_all-map (is_sorted CC []) (frame_axiom entry.name) entry.schemes ∙ all-in _ entry.schemes (λ scheme k. frame-sorted CC (knows-world sig) entry.name scheme (h entry (here entries))))
      (frames-in entries (λ e k. h e (there entry entries k)))

  relation-known : (entry : IndexEntry) → In entry sig.indexes → CC.type_of (relation_name entry.name) ≡ Some relation_type
  relation-known entry k = relation-type sig entry.name (index-in entry sig.indexes k)

  -- domains
  monotone-in : (s : SortName) → CC.knows_sort (user_sort s) ≡ true → CC.type_of (existence_name s) ≡ Some (existence_type s) → (regime : Regime) → list_all (is_sorted CC []) (monotone_axioms sig.indexes s regime) ≡ true
  monotone-in s ks es Constant = refl
  monotone-in s ks es Cumulative = list_all-map (is_sorted CC []) (λ index. stay_axiom s index.name) sig.indexes ∙ all-in _ sig.indexes (λ index k. stay-sorted CC (knows-world sig) s ks es index.name (relation-known index k))
  monotone-in s ks es Decreasing = list_all-map (is_sorted CC []) (λ index. were_there_axiom s index.name) sig.indexes ∙ all-in _ sig.indexes (λ index k. were_there-sorted CC (knows-world sig) s ks es index.name (relation-known index k))
  monotone-in s ks es Varying = refl

  domain-in : (entry : SortEntry) → CC.knows_sort (user_sort entry.name) ≡ true → (b : Bool) → is_constant sig entry.name ≡ b → list_all (is_sorted CC []) (if b then [] else someone_axiom entry.name ∷ everyone_axiom entry.name ∷ monotone_axioms sig.indexes entry.name entry.regime) ≡ true
  domain-in entry ks true q = refl
  domain-in entry ks false q = let es : CC.type_of (existence_name entry.name) ≡ Some (existence_type entry.name) = existence-type sig entry.name q in
      (both _ _ (someone-sorted CC (knows-world sig) entry.name ks es) (both _ _ (everyone-sorted CC (knows-world sig) entry.name ks es) (monotone-in entry.name ks es entry.regime)))

  domains-in : (entries : List SortEntry) → ((entry : SortEntry) → In entry entries → CC.knows_sort (user_sort entry.name) ≡ true) → list_all (is_sorted CC []) (domain_axioms_of sig entries) ≡ true
  domains-in [] h = refl
  domains-in (entry ∷ entries) h =
      list_all-append (is_sorted CC []) (sort_axioms sig entry) (domain_axioms_of sig entries)
      ∙ both _ _ (domain-in entry (h entry (here entries)) _ refl) (domains-in entries (λ e k. h e (there entry entries k)))

  -- terms
  exists-at : (s : SortName) (k : ℕ) (b : Bound) → is_constant sig s ≡ false → bound_sort b (world_variable 0) ≡ Some world_sort → bound_sort b (element_variable k) ≡ Some (user_sort s) → is_sorted CC b (exists_at s 0 k) ≡ true
  exists-at s k b q w e =
      ap (λ o. is_atom o (bound_sort b (world_variable 0) ∷ bound_sort b (element_variable k) ∷ [])) (existence-type sig s q)
      ∙ both _ _ (is_sort-at world_sort _ w) (both _ _ (is_sort-at (user_sort s) _ e) refl)

  guard-in : (s : SortName) (k : ℕ) (b : Bound) (gs : List Formula) → bound_sort b (world_variable 0) ≡ Some world_sort → bound_sort b (element_variable k) ≡ Some (user_sort s) → list_all (is_sorted CC b) gs ≡ true → (c : Bool) → is_constant sig s ≡ c → list_all (is_sorted CC b) (if c then gs else exists_at s 0 k ∷ gs) ≡ true
  guard-in s k b gs w e h true q = h
  guard-in s k b gs w e h false q = both _ _ (exists-at s k b q w e) h

  guards-in : (ss : List SortName) (k : ℕ) (b : Bound) → bound_sort (bind_sorts k ss b) (world_variable 0) ≡ Some world_sort → list_all (is_sorted CC (bind_sorts k ss b)) (row_guards sig k ss) ≡ true
  guards-in [] k b w = refl
  guards-in (s ∷ ss) k b w = guard-in s k (bind_sorts k (s ∷ ss) b) (row_guards sig (suc k) ss) w (element-sort ss k s b) (guards-in ss (suc k) ((element_variable k, user_sort s) ∷ b) w) _ refl

  value-in : (f : List ℕ) (ss : List SortName) (r : SortName) → is_constant sig r ≡ false → (modal_language sig).type_of f ≡ Some (record { args = ss; gives = Some r }) → is_sorted CC (bind_sorts 0 ss start) (value_is_there sig f ss r) ≡ true
  value-in f ss r q h =
      ap (λ o. is_atom o (bound_sort (bind_sorts 0 ss start) (world_variable 0) ∷ sort_of CC (bind_sorts 0 ss start) (App (user_name f) (at_world (is_flexible sig f) (world 0) (elements_from 0 ss))) ∷ [])) (existence-type sig r q)
      ∙ both _ _ (is_sort-at world_sort _ (world-sort ss)) (both _ _ (is_sort-at (user_sort r) _
      (sort_of-App CC (bind_sorts 0 ss start) (user_name f) (at_world (is_flexible sig f) (world 0) (elements_from 0 ss))
      ∙ ap (λ o. applied_sort o (map (sort_of CC (bind_sorts 0 ss start)) (at_world (is_flexible sig f) (world 0) (elements_from 0 ss)))) (symbol-type sig f (record { args = ss; gives = Some r }) h)
      ∙ applied-up CC (bind_sorts 0 ss start) (world 0) (is_flexible sig f) (record { args = ss; gives = Some r }) (elements_from 0 ss) (world-sort ss) (elements-fit CC ss 0 start))) refl)

  term-in : (f : List ℕ) (ss : List SortName) (r : SortName) → is_constant sig r ≡ false → list_all (λ s. CC.knows_sort (user_sort s)) ss ≡ true → (modal_language sig).type_of f ≡ Some (record { args = ss; gives = Some r }) → is_sorted CC [] (term_axiom sig f ss r) ≡ true
  term-in f ss r q ks h =
      both _ _ (knows-world sig) (bound-sorted CC ss 0 start _ ks (under-sorted CC (bind_sorts 0 ss start) (row_guards sig 0 ss) _ (guards-in ss 0 start (world-sort ss)) (value-in f ss r q h)))

  result-chosen : (f : List ℕ) (ss : List SortName) (r : SortName) → list_all (λ s. CC.knows_sort (user_sort s)) ss ≡ true → (modal_language sig).type_of f ≡ Some (record { args = ss; gives = Some r }) → (b : Bool) → is_constant sig r ≡ b → list_all (is_sorted CC []) (result_axioms sig f ss (if b then None else Some r)) ≡ true
  result-chosen f ss r ks h true q = refl
  result-chosen f ss r ks h false q = both _ _ (term-in f ss r q ks h) refl

  result-in : (f : List ℕ) (ss : List SortName) (gives : Option ℕ) (locality : Locality) → list_all (λ s. CC.knows_sort (user_sort s)) ss ≡ true → (modal_language sig).type_of f ≡ Some (record { args = ss; gives = option_map (sort_at sig.sorts) gives }) → list_all (is_sorted CC []) (result_axioms sig f ss (local_result sig gives locality)) ≡ true
  result-in f ss gives Global ks h = refl
  result-in f ss None Local ks h = refl
  result-in f ss (Some k) Local ks h = result-chosen f ss (sort_at sig.sorts k) ks h _ refl

  terms-in : (entries : List SymbolEntry) → ((entry : SymbolEntry) → In entry entries → (list_all (λ s. CC.knows_sort (user_sort s)) (argument_sorts sig entry) ≡ true) × ((modal_language sig).type_of entry.name ≡ Some (own_type sig.sorts entry))) → list_all (is_sorted CC []) (term_axioms_of sig entries) ≡ true
  terms-in [] h = refl
  terms-in (entry ∷ entries) h =
      list_all-append (is_sorted CC []) (result_axioms sig entry.name (argument_sorts sig entry) (local_result sig entry.gives entry.locality)) (term_axioms_of sig entries)
      ∙ both _ _ (result-in entry.name (argument_sorts sig entry) entry.gives entry.locality (h entry (here entries)).0 (h entry (here entries)).1)
      (terms-in entries (λ e k. h e (there entry entries k)))

  pub added-sorted : HasGoodSymbols sig → list_all (is_sorted CC []) (added_axioms sig) ≡ true
  added-sorted good =
      list_all-append (is_sorted CC []) (frame_axioms sig.indexes) _
      ∙ both _ _ (frames-in sig.indexes relation-known)
      (list_all-append (is_sorted CC []) (domain_axioms sig) (term_axioms sig)
      ∙ both _ _ (domains-in sig.sorts (λ entry k. knows-sort sig entry.name (sort-in entry sig.sorts k)))
      (terms-in sig.symbols (λ entry k. (args-known entry.args (split _ _ (in-list_all (λ e. list_all (in_range sig.sorts) e.args && gives_in_range sig.sorts e.gives) entry sig.symbols k good.numbers)).0, own-in sig.sorts entry sig.symbols k good.names))))
