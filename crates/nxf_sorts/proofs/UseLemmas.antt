-- The symbols of a signature, as they are used, and their faults.
use Rattle.std.proofs.Common.{◌≡◌, ℕ, Bool, true, false, List, [], ◌∷◌, length, Option, None, Some, refl, sym, ap, ◌∙◌, subst}
use Rattle.std.specs.Prelude.{suc, ◌&&◌, nat_eq, map, slice_get, if◌then◌else◌, is_some, Result, Ok, Err, MatchResult}
use Rattle.std.specs.Result.{IsErrAnd}
use Rattle.std.specs.Option.{option_map, option_or}
use Rattle.std.specs.List.{list_all}
use Rattle.std.proofs.lemmas.Bool.{and_parts, eq-eqb}
use Rattle.nxf_tree.specs.declared.tree.Signature.{Signature}
use Rattle.nxf_tree.specs.declared.tree.SortEntry.{SortEntry}
use Rattle.nxf_tree.specs.declared.tree.SymbolEntry.{SymbolEntry}
use Rattle.nxf_tree.specs.declared.tree.SortName.TheVariants.{User}
use Rattle.nxf_tree.specs.Names.{same_text}
use Rattle.nxf_tree.specs.Counting.{same_truth}
use Rattle.nxf_tree.specs.Signature.{sort_at}
use Rattle.nxf_tree.specs.Sorting.{SymbolType, modal_language, type_among, in_range, gives_in_range}
use Rattle.nxf_tree.specs.Occurrences.{Use}
use Rattle.nxf_tree.specs.SortFaults.{SortFault, is_right_use, symbol_fault}
use Rattle.name_laws.proofs.Spelling.{same_text-true}
use Rattle.nxf_signatures.specs.Places.{numbered_entry}
use Rattle.nxf_sorts.specs.declared.fault.Fault.{Fault}
use Rattle.nxf_sorts.specs.declared.fault.Fault.TheVariants.{Kind, Memory}
use Rattle.nxf_sorts.specs.steps.Numbering.{IsFault, IsGoodSignature, wrong_symbol, Uses}

-- the first of two faults
pub fault_first : (o p : Option SortFault) (e : Fault) → IsFault o e → IsFault (option_or o p) e
fault_first o p (Kind kind name) h = ap (λ q. option_or q p) h
fault_first o p Memory h = tt

pub fault_then : (o p : Option SortFault) (e : Fault) → o ≡ None → IsFault p e → IsFault (option_or o p) e
fault_then o p e none h = subst (λ q. IsFault q e) (sym (ap (λ q. option_or q p) none)) h

pub fault_is : (o p : Option SortFault) (e : Fault) → o ≡ p → IsFault p e → IsFault o e
fault_is o p e is h = subst (λ q. IsFault q e) (sym is) h

-- a call ends with the fault that the call in it ended with
pub refused_with : {X : Type 0} (r : Result X Fault) (P : X → Type 0) (o : Option SortFault) (e : Fault) → IsErrAnd r (λ (x : Fault). x ≡ e) → IsFault o e → MatchResult r P (IsFault o)
refused_with (Ok x) P o e is h = absurd is
refused_with (Err x) P o e is h = subst (IsFault o) (sym is) h

abbrev pub entry_type : List SortEntry → SymbolEntry → SymbolType
entry_type sorts e = record { args = map (sort_at sorts) e.args; gives = option_map (sort_at sorts) e.gives }

abbrev pub type_of_found : List SortEntry → Option (ℕ × SymbolEntry) → Option SymbolType
type_of_found sorts None = None
type_of_found sorts (Some p) = Some (entry_type sorts p.1)

-- the type of a symbol is that of its entry
pub type_is : (sorts : List SortEntry) (entries : List SymbolEntry) (f : List ℕ) → type_among sorts entries f ≡ type_of_found sorts (numbered_entry entries f)
type_is sorts [] f = refl
type_is sorts (e ∷ entries) f = by (same_text e.name f) (numbered_entry entries f) (type_is sorts entries f)
  where
    by : (b : Bool) (o : Option (ℕ × SymbolEntry)) → type_among sorts entries f ≡ type_of_found sorts o → (if b then Some (entry_type sorts e) else type_among sorts entries f) ≡ type_of_found sorts (if b then Some (0, e) else option_map (λ p. (suc p.0, p.1)) o)
    by true o h = refl
    by false None h = h
    by false (Some p) h = h

-- what holds of the entry of a name
module _ (f : List ℕ) where
  stepped : (b : Bool) (e : SymbolEntry) (o : Option (ℕ × SymbolEntry)) (P : ℕ × SymbolEntry → Type 0) → (b ≡ true → P (0, e)) → ((p : ℕ × SymbolEntry) → o ≡ Some p → P (suc p.0, p.1))
      → (q : ℕ × SymbolEntry) → (if b then Some (0, e) else option_map (λ (p : ℕ × SymbolEntry). (suc p.0, p.1)) o) ≡ Some q → P q
  stepped true e o P here more q h = let is : ◌≡◌ {A = ℕ × SymbolEntry} (0, e) q = cc in subst P is (here refl)
  stepped false e None P here more q h = absurd cc
  stepped false e (Some p) P here more q h = let is : ◌≡◌ {A = ℕ × SymbolEntry} (suc p.0, p.1) q = cc in subst P is (more p refl)

  pub entry_at : (entries : List SymbolEntry) (q : ℕ × SymbolEntry) → numbered_entry entries f ≡ Some q → (slice_get entries q.0 ≡ Some q.1) × (q.1.name ≡ f)
  entry_at [] q h = absurd cc
  entry_at (e ∷ entries) q h =
      stepped (same_text e.name f) e (numbered_entry entries f) (λ p. (slice_get (e ∷ entries) p.0 ≡ Some p.1) × (p.1.name ≡ f))
      (λ is. (refl, same_text-true e.name f is)) (λ p is. entry_at entries p is) q h

  pub entry_passes : (test : SymbolEntry → Bool) (entries : List SymbolEntry) (q : ℕ × SymbolEntry) → numbered_entry entries f ≡ Some q → list_all test entries ≡ true → test q.1 ≡ true
  entry_passes test [] q h all = absurd cc
  entry_passes test (e ∷ entries) q h all =
      let parts : (test e ≡ true) × (list_all test entries ≡ true) = and_parts _ _ all in
      stepped (same_text e.name f) e (numbered_entry entries f) (λ p. test p.1 ≡ true) (λ is. parts.0) (λ p is. entry_passes test entries p is parts.1) q h

sorts_length : {A B : Type 0} (g : A → B) (xs : List A) → length (map g xs) ≡ length xs
sorts_length g [] = refl
sorts_length g (x ∷ xs) = ap suc (sorts_length g xs)

pub some_mapped : {A B : Type 0} (g : A → B) (o : Option A) → is_some (option_map g o) ≡ is_some o
some_mapped g None = refl
some_mapped g (Some x) = refl

module _ (sig : Signature) (us : List Use) (f : List ℕ) (count : ℕ) (function : Bool) where
  right_is : (o : Option (ℕ × SymbolEntry)) → numbered_entry sig.symbols f ≡ o → is_right_use ((modal_language sig).type_of f) count function ≡ is_right_use (type_of_found sig.sorts o) count function
  right_is o h = ap (λ t. is_right_use t count function) (type_is sig.sorts sig.symbols f ∙ ap (type_of_found sig.sorts) h)

  right_entry : (q : ℕ × SymbolEntry) → numbered_entry sig.symbols f ≡ Some q → is_right_use ((modal_language sig).type_of f) count function ≡ (nat_eq (length q.1.args) count && same_truth (is_some q.1.gives) function)
  right_entry q h = right_is (Some q) h ∙ (λ i. nat_eq (sorts_length (sort_at sig.sorts) q.1.args i) count && same_truth (some_mapped (sort_at sig.sorts) q.1.gives i) function)

  -- a name that is no sort's and is used wrongly
  pub wrong_is : (modal_language sig).knows_sort (User f) ≡ false → is_right_use ((modal_language sig).type_of f) count function ≡ false → symbol_fault (modal_language sig) us f count function ≡ wrong_symbol us f
  wrong_is apart wrong = rw (apart, wrong) refl

  pub no_entry : (modal_language sig).knows_sort (User f) ≡ false → numbered_entry sig.symbols f ≡ None → symbol_fault (modal_language sig) us f count function ≡ wrong_symbol us f
  no_entry apart h = wrong_is apart (right_is None h)

  and_false : (a : Bool) → a && false ≡ false
  and_false true = refl
  and_false false = refl

  pub wrong_kind : (q : ℕ × SymbolEntry) → (modal_language sig).knows_sort (User f) ≡ false → numbered_entry sig.symbols f ≡ Some q → same_truth (is_some q.1.gives) function ≡ false → symbol_fault (modal_language sig) us f count function ≡ wrong_symbol us f
  wrong_kind q apart h k = wrong_is apart (right_entry q h ∙ ap (λ b. nat_eq (length q.1.args) count && b) k ∙ and_false (nat_eq (length q.1.args) count))

  pub wrong_count : (q : ℕ × SymbolEntry) → (modal_language sig).knows_sort (User f) ≡ false → numbered_entry sig.symbols f ≡ Some q → nat_eq (length q.1.args) count ≡ false → symbol_fault (modal_language sig) us f count function ≡ wrong_symbol us f
  wrong_count q apart h k = wrong_is apart (right_entry q h ∙ ap (λ b. b && same_truth (is_some q.1.gives) function) k)

-- a symbol that is used rightly
pub used : (sig : Signature) (us : List Use) (f : List ℕ) (count : ℕ) (gives : Option ℕ) (q : ℕ × SymbolEntry) → IsGoodSignature sig → (modal_language sig).knows_sort (User f) ≡ false
    → numbered_entry sig.symbols f ≡ Some q → q.1.gives ≡ gives → length q.1.args ≡ count → Uses sig us f count gives q.0 q.1.args
used sig us f count gives q good apart h g n =
    let range : (list_all (in_range sig.sorts) q.1.args ≡ true) × (gives_in_range sig.sorts q.1.gives ≡ true) = and_parts _ _ (entry_passes f _ sig.symbols q h good.in_range) in
    let at : (slice_get sig.symbols q.0 ≡ Some q.1) × (q.1.name ≡ f) = entry_at f sig.symbols q h in
    let right : is_right_use ((modal_language sig).type_of f) count (is_some gives) ≡ true = right_entry sig us f count (is_some gives) q h ∙ (λ i. nat_eq (n i) count && same_truth (is_some (g i)) (is_some gives)) ∙ alike (is_some gives) in
    record {
      no_fault = rw (apart, right) refl;
      type = type_is sig.sorts sig.symbols f ∙ ap (type_of_found sig.sorts) h ∙ ap (λ o. Some (record { args = map (sort_at sig.sorts) q.1.args; gives = option_map (sort_at sig.sorts) o })) g;
      name = ap (option_map (λ (e : SymbolEntry). e.name)) at.0 ∙ ap Some at.1;
      count_is = n;
      args_in_range = range.0;
      value_in_range = ap (gives_in_range sig.sorts) (sym g) ∙ range.1;
    }
  where
    alike : (b : Bool) → nat_eq count count && same_truth b b ≡ true
    alike b = ap (λ c. c && same_truth b b) (eq-eqb count count refl) ∙ same b
      where
        same : (c : Bool) → same_truth c c ≡ true
        same true = refl
        same false = refl
