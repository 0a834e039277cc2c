-- Symbols, sorts and elements are told apart where an interpretation that is printed is read.
use Rattle.std.proofs.Common.{◌≡◌, ℕ, zero, suc, ◌+◌, ◌<◌, false, List, [], ◌∷◌, map, length, get_or, None, Some, refl, sym, ap, ◌∙◌, arith}
use Rattle.std.specs.Option.{option_map}
use Rattle.std.proofs.lemmas.List.{length-map, length-append, get_or-map, get_or_append_left, get_or-append-add}
use Rattle.nxf_tree.specs.declared.tree.SortName.{SortName}
use Rattle.nxf_tree.specs.declared.tree.SortName.TheVariants.{Individual, User}
use Rattle.nxf_tree.specs.declared.tree.TableEntry.{TableEntry}
use Rattle.nxf_tree.specs.declared.tree.ClassicalSignature.{ClassicalSignature}
use Rattle.nxf_tree.specs.Names.{same_text, actual_name}
use Rattle.nxf_tree.specs.Signature.{same_sort}
use Rattle.nxf_tree.specs.Structures.{table_names}
use Rattle.nxf_tree.specs.Problem.{classical_sort_at}
use Rattle.name_laws.specs.NameLaws.{HasDifferentClassicalNames}
use Rattle.name_laws.proofs.Apart.{sort-true}
use Rattle.name_laws.proofs.SortedFormulas.{same_sort-refl}
use Rattle.name_laws.proofs.Spelling.{same_text-refl, never, true-false}
use Rattle.interpretation_definitions.specs.Context.{actual_entry, symbols_of, sort_number, symbol_in, element}
use Rattle.interpretation_text_definitions.specs.ElementNames.{element_name}
use Rattle.interpretation_text_laws.specs.ElementsApart.{declared_names, HasElementsApart}
use Rattle.interpretation_text_laws.proofs.Apart.{one_place, sorts_differ}
use Rattle.interpretation_text_laws.proofs.Lookups.{numbered_hit, numbered_miss, places_differ, not_there, texts_apart}
use Rattle.interpretation_text_laws.proofs.ReadNames.{own_context, miss_to}

pub sort_place : (sorts : List SortName) (k : ℕ) → get_or sorts k Individual ≡ classical_sort_at sorts k
sort_place [] k = refl
sort_place (s ∷ sorts) zero = refl
sort_place (s ∷ sorts) (suc k) = sort_place sorts k

module _ (csig : ClassicalSignature) (sizes : List ℕ) (apart : HasElementsApart csig) (different : HasDifferentClassicalNames csig) where
  abbrev names : List (List ℕ)
  names = actual_name ∷ table_names csig.tables

  name_place : (t : ℕ) → t < length names → get_or (declared_names csig) t Individual ≡ User (get_or names t [])
  name_place t h = get_or_append_left (map User names) csig.sorts Individual t (omega (arith, length-map names User)) ∙ get_or-map User names t [] Individual h

  sort_behind : (k : ℕ) → get_or (declared_names csig) (length (map User names) + k) Individual ≡ classical_sort_at csig.sorts k
  sort_behind k = get_or-append-add (map User names) csig.sorts k Individual ∙ sort_place csig.sorts k

  names_differ : (i j : ℕ) → i < j → j < length names → get_or names i [] ≡ get_or names j [] → ⊥
  names_differ i j l h e =
      let long = length-append (map User names) csig.sorts in
      places_differ same_sort same_sort-refl (declared_names csig) i j Individual different.names l (omega (arith, long, length-map names User))
      (name_place i (omega arith) ∙ ap User e ∙ sym (name_place j h))

  name_no_sort : (t k : ℕ) → t < length names → k < length csig.sorts → User (get_or names t []) ≡ classical_sort_at csig.sorts k → ⊥
  name_no_sort t k h l e =
      let long = length-append (map User names) csig.sorts in
      places_differ same_sort same_sort-refl (declared_names csig) t (length (map User names) + k) Individual different.names (omega (arith, length-map names User)) (omega (arith, long))
      (name_place t h ∙ e ∙ sym (sort_behind k))

  no_element : (t k n : ℕ) → t < length names → same_text (get_or names t []) (element_name csig.sorts k n) ≡ false
  no_element t k n h =
      let long = length-append (map User names) csig.sorts in
      sym (ap (λ s. same_sort s (User (element_name csig.sorts k n))) (name_place t h))
      ∙ not_there same_sort (User (element_name csig.sorts k n)) (declared_names csig) t Individual (apart.declared k n) (omega (arith, long, length-map names User))

  no_element_sort : (j k n : ℕ) → j < length csig.sorts → same_sort (classical_sort_at csig.sorts j) (User (element_name csig.sorts k n)) ≡ false
  no_element_sort j k n h =
      let long = length-append (map User names) csig.sorts in
      sym (ap (λ s. same_sort s (User (element_name csig.sorts k n))) (sort_behind j))
      ∙ not_there same_sort (User (element_name csig.sorts k n)) (declared_names csig) (length (map User names) + j) Individual (apart.declared k n) (omega (arith, long))

  -- ---- what is known

  entry_name : (t : ℕ) (d : TableEntry) → t < length (symbols_of csig) → (get_or (symbols_of csig) t d).name ≡ get_or names t []
  entry_name t d h = sym (get_or-map (λ (e : TableEntry). e.name) (symbols_of csig) t d [] h)

  many : length names ≡ length (symbols_of csig)
  many = length-map (symbols_of csig) (λ (e : TableEntry). e.name)

  pub symbol_known : (t : ℕ) (entry : TableEntry) → t < length (symbols_of csig) → get_or (symbols_of csig) t entry ≡ entry → symbol_in (symbols_of csig) entry.name ≡ Some (t, entry)
  symbol_known t entry h is =
      let own : entry.name ≡ get_or names t [] = ap (λ (e : TableEntry). e.name) (sym is) ∙ entry_name t entry h in
      numbered_hit (λ (e : TableEntry). same_text e.name entry.name) (symbols_of csig) t 0 entry h (ap (λ (e : TableEntry). same_text e.name entry.name) is ∙ same_text-refl entry.name)
      (λ i l. texts_apart _ _ (λ e. names_differ i t l (omega (arith, many)) (sym (entry_name i entry (omega arith)) ∙ e ∙ own)))
      ∙ (λ i. Some (zero_plus t i, is i))
    where
      zero_plus : (n : ℕ) → 0 + n ≡ n
      zero_plus n = omega arith

  pub element_no_symbol : (k n : ℕ) → symbol_in (symbols_of csig) (element_name csig.sorts k n) ≡ None
  element_no_symbol k n =
      numbered_miss (λ (e : TableEntry). same_text e.name (element_name csig.sorts k n)) (symbols_of csig) 0 actual_entry
      (λ i l. ap (λ x. same_text x (element_name csig.sorts k n)) (entry_name i actual_entry l) ∙ no_element i k n (omega (arith, many)))

  pub sort_no_symbol : (k : ℕ) (s : List ℕ) → k < length csig.sorts → classical_sort_at csig.sorts k ≡ User s → symbol_in (symbols_of csig) s ≡ None
  sort_no_symbol k s h is =
      numbered_miss (λ (e : TableEntry). same_text e.name s) (symbols_of csig) 0 actual_entry
      (λ i l. texts_apart _ _ (λ e. name_no_sort i k (omega (arith, many)) h (ap User (sym (entry_name i actual_entry l) ∙ e) ∙ sym is)))

  pub sort_known : (k : ℕ) → k < length csig.sorts → sort_number csig.sorts (classical_sort_at csig.sorts k) ≡ Some k
  sort_known k h =
      let s = classical_sort_at csig.sorts k in
      let before = λ (i : ℕ) (l : i < k). never (same_sort s (get_or csig.sorts i Individual)) (λ e.
      absurd (omega (arith, one_place csig.sorts k i (sorts_differ csig different) h (omega arith) (sort-true s _ e ∙ sort_place csig.sorts i)))) in
      ap (option_map (λ (p : ℕ × SortName). p.0))
      (numbered_hit (same_sort s) csig.sorts k 0 Individual h (ap (same_sort s) (sort_place csig.sorts k) ∙ same_sort-refl s) before)
      ∙ ap Some (let e : 0 + k ≡ k = omega arith in e)

  no_sort : (x : List ℕ) → ((i : ℕ) → i < length csig.sorts → User x ≡ classical_sort_at csig.sorts i → ⊥) → sort_number csig.sorts (User x) ≡ None
  no_sort x h =
      ap (option_map (λ (p : ℕ × SortName). p.0))
      (numbered_miss (same_sort (User x)) csig.sorts 0 Individual (λ i l. never _ (λ e. h i l (sort-true (User x) _ e ∙ sort_place csig.sorts i))))

  pub symbol_no_sort : (t : ℕ) (entry : TableEntry) → t < length (symbols_of csig) → get_or (symbols_of csig) t entry ≡ entry → sort_number csig.sorts (User entry.name) ≡ None
  symbol_no_sort t entry h is =
      let own : entry.name ≡ get_or names t [] = ap (λ (e : TableEntry). e.name) (sym is) ∙ entry_name t entry h in
      no_sort entry.name (λ i l e. name_no_sort t i (omega (arith, many)) l (ap User (sym own) ∙ e))

  pub element_no_sort : (k n : ℕ) → sort_number csig.sorts (User (element_name csig.sorts k n)) ≡ None
  element_no_sort k n =
      no_sort (element_name csig.sorts k n) (λ i l e. true-false (sym (same_sort-refl (User (element_name csig.sorts k n))) ∙ ap (λ s. same_sort s (User (element_name csig.sorts k n))) e ∙ no_element_sort i k n l))

  pub symbol_no_element : (declared : List (List ℕ)) (t : ℕ) (entry : TableEntry) → t < length (symbols_of csig) → get_or (symbols_of csig) t entry ≡ entry
      → element (own_context csig sizes apart different declared) entry.name ≡ None
  symbol_no_element declared t entry h is =
      let own : entry.name ≡ get_or names t [] = ap (λ (e : TableEntry). e.name) (sym is) ∙ entry_name t entry h in
      miss_to csig sizes apart different entry.name (length csig.sorts) (λ k m p l. ap (λ x. same_text x (element_name csig.sorts k m)) own ∙ no_element t k m (omega (arith, many)))

  pub sort_no_element : (declared : List (List ℕ)) (k : ℕ) (s : List ℕ) → k < length csig.sorts → classical_sort_at csig.sorts k ≡ User s → element (own_context csig sizes apart different declared) s ≡ None
  sort_no_element declared k s h is =
      miss_to csig sizes apart different s (length csig.sorts) (λ j m p l. ap (λ r. same_sort r (User (element_name csig.sorts j m))) (sym is) ∙ no_element_sort k j m h)
