-- The names of a classical signature by their numbers.
use Rattle.std.proofs.Common.{◌≡◌, ℕ, zero, suc, ◌+◌, Bool, true, false, List, [], ◌∷◌, None, Some, refl, sym, ap, ◌∙◌, arith}
use Rattle.std.specs.Prelude.{◌||◌, if◌then◌else◌, slice_get, is_some}
use Rattle.std.specs.Option.{option_map}
use Rattle.nxf_tree.specs.declared.tree.SortName.{SortName}
use Rattle.nxf_tree.specs.declared.tree.TableEntry.{TableEntry}
use Rattle.nxf_tree.specs.declared.tree.ClassicalSignature.{ClassicalSignature}
use Rattle.nxf_tree.specs.Names.{same_text, actual_name}
use Rattle.nxf_tree.specs.Counting.{has}
use Rattle.nxf_tree.specs.Signature.{same_sort}
use Rattle.nxf_tree.specs.Sorting.{SymbolType, table_type_among, classical_language}
use Rattle.name_laws.proofs.Apart.{sort-true}
use Rattle.name_laws.proofs.SameNames.{same_sort-sym}
use Rattle.name_laws.proofs.Spelling.{same_text-true}
use Rattle.interpretation_definitions.specs.Context.{numbered_from, sort_number, symbol_number, symbols_of, actual_entry}
use Rattle.classical_evaluation_definitions.specs.ClassicalForm.{function_name}

-- what is found from number k on
record FoundAt {A : Type 0} (k : ℕ) (test : A → Bool) (xs : List A) (n : ℕ) : Type 0 where
  at : ℕ
  thing : A
  number : n ≡ k + at
  there : slice_get xs at ≡ Some thing
  passes : test thing ≡ true

found_at : {A : Type 0} (k : ℕ) (test : A → Bool) (xs : List A) (n : ℕ) → option_map (λ (p : ℕ × A). p.0) (numbered_from k test xs) ≡ Some n → FoundAt k test xs n
found_at k test [] n h = absurd cc
found_at {A} k test (x ∷ xs) n h = by (test x) refl (found_at (suc k) test xs n) h
  where
    by : (b : Bool) → test x ≡ b → (option_map (λ (p : ℕ × A). p.0) (numbered_from (suc k) test xs) ≡ Some n → FoundAt (suc k) test xs n)
        → option_map (λ (p : ℕ × A). p.0) (if b then Some (k, x) else numbered_from (suc k) test xs) ≡ Some n → FoundAt k test (x ∷ xs) n
    by true is more e = let same : k ≡ n = cc in record { at = 0; thing = x; number = omega arith; there = refl; passes = is }
    by false is more e = let f = more e in record { at = suc f.at; thing = f.thing; number = omega (arith, f.number); there = f.there; passes = f.passes }

-- the sort with a number
pub sort_found : (sorts : List SortName) (s : SortName) (k : ℕ) → sort_number sorts s ≡ Some k → slice_get sorts k ≡ Some s
sort_found sorts s k h =
    let f = found_at 0 (same_sort s) sorts k h in
    let at : k ≡ f.at = omega (arith, f.number) in
    ap (slice_get sorts) at ∙ f.there ∙ ap Some (sym (sort-true s f.thing f.passes))

-- the name of the function with a number
name_of : (csig : ClassicalSignature) (k : ℕ) → function_name csig k ≡ option_map (λ (entry : TableEntry). entry.name) (slice_get (symbols_of csig) k)
name_of csig zero = refl
name_of csig (suc t) = refl

pub symbol_found : (csig : ClassicalSignature) (f : List ℕ) (k : ℕ) → symbol_number (symbols_of csig) f ≡ Some k → function_name csig k ≡ Some f
symbol_found csig f k h =
    let found = found_at 0 (λ (entry : TableEntry). same_text entry.name f) (symbols_of csig) k h in
    let at : k ≡ found.at = omega (arith, found.number) in
    name_of csig k
    ∙ ap (λ (n : ℕ). option_map (λ (entry : TableEntry). entry.name) (slice_get (symbols_of csig) n)) at
    ∙ ap (option_map (λ (entry : TableEntry). entry.name)) found.there
    ∙ ap Some (same_text-true found.thing.name f found.passes)

-- a sort that is known has a number
sort_there : (k : ℕ) (sorts : List SortName) (s : SortName) → has same_sort s sorts ≡ true → option_map (λ (p : ℕ × SortName). p.0) (numbered_from k (same_sort s) sorts) ≡ None → ⊥
sort_there k [] s h none = cc
sort_there k (r ∷ sorts) s h none = by (same_sort s r) (sym (ap (λ b. b || has same_sort s sorts) (same_sort-sym r s)) ∙ h) (sort_there (suc k) sorts s) none
  where
    by : (b : Bool) → b || has same_sort s sorts ≡ true → (has same_sort s sorts ≡ true → option_map (λ (p : ℕ × SortName). p.0) (numbered_from (suc k) (same_sort s) sorts) ≡ None → ⊥)
        → option_map (λ (p : ℕ × SortName). p.0) (if b then Some (k, r) else numbered_from (suc k) (same_sort s) sorts) ≡ None → ⊥
    by true known more e = cc
    by false known more e = more known e

pub sort_known : (sorts : List SortName) (s : SortName) → has same_sort s sorts ≡ true → sort_number sorts s ≡ None → ⊥
sort_known sorts s h none = sort_there 0 sorts s h none

-- a symbol that has a type has a number
table_there : (k : ℕ) (sorts : List SortName) (entries : List TableEntry) (f : List ℕ) → is_some (table_type_among sorts entries f) ≡ true
    → option_map (λ (p : ℕ × TableEntry). p.0) (numbered_from k (λ (entry : TableEntry). same_text entry.name f) entries) ≡ None → ⊥
table_there k sorts [] f h none = cc
table_there k sorts (entry ∷ entries) f h none = by (same_text entry.name f) _ h (table_there (suc k) sorts entries f) none
  where
    by : (b : Bool) (type : SymbolType) → is_some (if b then Some type else table_type_among sorts entries f) ≡ true
        → (is_some (table_type_among sorts entries f) ≡ true → option_map (λ (p : ℕ × TableEntry). p.0) (numbered_from (suc k) (λ (e : TableEntry). same_text e.name f) entries) ≡ None → ⊥)
        → option_map (λ (p : ℕ × TableEntry). p.0) (if b then Some (k, entry) else numbered_from (suc k) (λ (e : TableEntry). same_text e.name f) entries) ≡ None → ⊥
    by true type known more e = cc
    by false type known more e = more known e

pub symbol_known : (csig : ClassicalSignature) (f : List ℕ) → is_some ((classical_language csig).type_of f) ≡ true → symbol_number (symbols_of csig) f ≡ None → ⊥
symbol_known csig f h none = by (same_text actual_name f) _ h none
  where
    by : (b : Bool) (type : SymbolType) → is_some (if b then Some type else table_type_among csig.sorts csig.tables f) ≡ true
        → option_map (λ (p : ℕ × TableEntry). p.0) (if b then Some (0, actual_entry) else numbered_from 1 (λ (entry : TableEntry). same_text entry.name f) csig.tables) ≡ None → ⊥
    by true type known e = cc
    by false type known e = table_there 1 csig.sorts csig.tables f known e
