-- Where names differ, what a signature says of a name is what the entry at its place says.
use Rattle.std.proofs.Common.{◌≡◌, ℕ, zero, suc, ◌<◌, true, false, List, [], ◌∷◌, length, sym, ap, ◌∙◌, arith}
use Rattle.std.specs.Prelude.{◌||◌, not, if◌then◌else◌, slice_get, Some, IsTrue}
use Rattle.std.proofs.lemmas.Bool.{or_right, not-true}
use Rattle.nxf_tree.specs.declared.tree.Signature.{Signature}
use Rattle.nxf_tree.specs.declared.tree.SortEntry.{SortEntry}
use Rattle.nxf_tree.specs.declared.tree.SymbolEntry.{SymbolEntry}
use Rattle.nxf_tree.specs.Counting.{has, all_different}
use Rattle.nxf_tree.specs.Names.{same_text}
use Rattle.nxf_tree.specs.Signature.{same_sort, constant_regime, flexible_designation, constant_among, flexible_among, is_constant, is_flexible, sort_at, sort_names, symbol_names}
use Rattle.nxf_tree.specs.Sorting.{in_range}
use Rattle.nxf_tree.specs.WellFormed.{HasDifferentNames}
use Rattle.name_laws.proofs.Spelling.{same_text-refl, same_text-true, never, true-false}
use Rattle.name_laws.proofs.Apart.{sort-true}
use Rattle.name_laws.proofs.SortedFormulas.{same_sort-refl}
use Rattle.name_laws.proofs.GoodSymbols.{parts-of-names}
use Rattle.name_laws.proofs.Types.{split}

-- a number in range is a place
pub in_range-below : (sorts : List SortEntry) (k : ℕ) → IsTrue (in_range sorts k) → k < length sorts
in_range-below [] k h = absurd cc
in_range-below (entry ∷ entries) zero h = omega arith
in_range-below (entry ∷ entries) (suc k) h = omega (arith, in_range-below entries k h)

pub sort_at-place : (sorts : List SortEntry) (k : ℕ) (entry : SortEntry) → slice_get sorts k ≡ Some entry → sort_at sorts k ≡ entry.name
sort_at-place [] k entry h = absurd cc
sort_at-place (first ∷ sorts) zero entry h = ap (λ (e : SortEntry). e.name) (some first entry h)
  where
    some : (a b : SortEntry) → Some a ≡ Some b → a ≡ b
    some a b e = cc
sort_at-place (first ∷ sorts) (suc k) entry h = sort_at-place sorts k entry h

listed-sort : (entries : List SortEntry) (k : ℕ) (entry : SortEntry) → slice_get entries k ≡ Some entry → has same_sort entry.name (sort_names entries) ≡ true
listed-sort [] k entry h = absurd cc
listed-sort (first ∷ entries) zero entry h =
    let is : first ≡ entry = cc in
    ap (λ (e : SortEntry). same_sort e.name entry.name || has same_sort entry.name (sort_names entries)) is
    ∙ ap (λ b. b || has same_sort entry.name (sort_names entries)) (same_sort-refl entry.name)
listed-sort (first ∷ entries) (suc k) entry h = or_right (same_sort first.name entry.name) _ (listed-sort entries k entry h)

listed-symbol : (entries : List SymbolEntry) (k : ℕ) (entry : SymbolEntry) → slice_get entries k ≡ Some entry → has same_text entry.name (symbol_names entries) ≡ true
listed-symbol [] k entry h = absurd cc
listed-symbol (first ∷ entries) zero entry h =
    let is : first ≡ entry = cc in
    ap (λ (e : SymbolEntry). same_text e.name entry.name || has same_text entry.name (symbol_names entries)) is
    ∙ ap (λ b. b || has same_text entry.name (symbol_names entries)) (same_text-refl entry.name)
listed-symbol (first ∷ entries) (suc k) entry h = or_right (same_text first.name entry.name) _ (listed-symbol entries k entry h)

constant-place : (entries : List SortEntry) → all_different same_sort (sort_names entries) ≡ true → (k : ℕ) (entry : SortEntry) → slice_get entries k ≡ Some entry → constant_among entries entry.name ≡ constant_regime entry.regime
constant-place [] d k entry h = absurd cc
constant-place (first ∷ entries) d zero entry h =
    let is : first ≡ entry = cc in
    ap (λ (e : SortEntry). if same_sort e.name entry.name then constant_regime e.regime else constant_among entries entry.name) is
    ∙ ap (λ b. if b then constant_regime entry.regime else constant_among entries entry.name) (same_sort-refl entry.name)
constant-place (first ∷ entries) d (suc k) entry h =
    let parts : (not (has same_sort first.name (sort_names entries)) ≡ true) × (all_different same_sort (sort_names entries) ≡ true) = split _ _ d in
    let apart : same_sort first.name entry.name ≡ false = never (same_sort first.name entry.name) (λ e. true-false (sym (same-listed e) ∙ not-true _ parts.0)) in
    ap (λ b. if b then constant_regime first.regime else constant_among entries entry.name) apart ∙ constant-place entries parts.1 k entry h
  where
    same-listed : same_sort first.name entry.name ≡ true → has same_sort first.name (sort_names entries) ≡ true
    same-listed e = ap (λ n. has same_sort n (sort_names entries)) (sort-true first.name entry.name e) ∙ listed-sort entries k entry h

flexible-place : (entries : List SymbolEntry) → all_different same_text (symbol_names entries) ≡ true → (k : ℕ) (entry : SymbolEntry) → slice_get entries k ≡ Some entry → flexible_among entries entry.name ≡ flexible_designation entry.designation
flexible-place [] d k entry h = absurd cc
flexible-place (first ∷ entries) d zero entry h =
    let is : first ≡ entry = cc in
    ap (λ (e : SymbolEntry). if same_text e.name entry.name then flexible_designation e.designation else flexible_among entries entry.name) is
    ∙ ap (λ b. if b then flexible_designation entry.designation else flexible_among entries entry.name) (same_text-refl entry.name)
flexible-place (first ∷ entries) d (suc k) entry h =
    let parts : (not (has same_text first.name (symbol_names entries)) ≡ true) × (all_different same_text (symbol_names entries) ≡ true) = split _ _ d in
    let apart : same_text first.name entry.name ≡ false = never (same_text first.name entry.name) (λ e. true-false (sym (same-listed e) ∙ not-true _ parts.0)) in
    ap (λ b. if b then flexible_designation first.designation else flexible_among entries entry.name) apart ∙ flexible-place entries parts.1 k entry h
  where
    same-listed : same_text first.name entry.name ≡ true → has same_text first.name (symbol_names entries) ≡ true
    same-listed e = ap (λ n. has same_text n (symbol_names entries)) (same_text-true first.name entry.name e) ∙ listed-symbol entries k entry h

-- whether a sort is constant is said by its entry
pub is_constant-place : (sig : Signature) → HasDifferentNames sig → (k : ℕ) (entry : SortEntry) → slice_get sig.sorts k ≡ Some entry → is_constant sig entry.name ≡ constant_regime entry.regime
unfolding is_constant
is_constant-place sig h k entry e = constant-place sig.sorts (parts-of-names sig h).sorts k entry e

-- whether a function is flexible is said by its entry
pub is_flexible-place : (sig : Signature) → HasDifferentNames sig → (k : ℕ) (entry : SymbolEntry) → slice_get sig.symbols k ≡ Some entry → is_flexible sig entry.name ≡ flexible_designation entry.designation
unfolding is_flexible
is_flexible-place sig h k entry e = flexible-place sig.symbols (parts-of-names sig h).symbols k entry e
