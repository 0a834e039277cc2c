-- What a well-formed signature says of the symbol and of the sort with a number.
use Rattle.std.proofs.Common.{◌≡◌, ℕ, zero, suc, Bool, true, false, List, [], ◌∷◌, refl, sym, ap, ◌∙◌}
use Rattle.std.specs.Prelude.{◌||◌, not, if◌then◌else◌, slice_get, Some}
use Rattle.std.specs.List.{list_all}
use Rattle.std.proofs.lemmas.Bool.{or_right, not-true}
use Rattle.nxf_tree.specs.declared.tree.SortEntry.{SortEntry}
use Rattle.nxf_tree.specs.declared.tree.SymbolEntry.{SymbolEntry}
use Rattle.nxf_tree.specs.Names.{same_text}
use Rattle.nxf_tree.specs.Counting.{has, all_different}
use Rattle.nxf_tree.specs.Signature.{symbol_names}
use Rattle.nxf_tree.specs.Sorting.{type_among, in_range}
use Rattle.name_laws.proofs.Spelling.{same_text-refl, same_text-true, never, true-false}
use Rattle.name_laws.proofs.Types.{own_type, split}

pub passes-at : {A : Type 0} (p : A → Bool) (xs : List A) (k : ℕ) (x : A) → list_all p xs ≡ true → slice_get xs k ≡ Some x → p x ≡ true
passes-at p [] k x h e = absurd cc
passes-at p (y ∷ xs) zero x h e = let is : y ≡ x = cc in ap p (sym is) ∙ (split (p y) _ h).0
passes-at p (y ∷ xs) (suc k) x h e = passes-at p xs k x (split (p y) _ h).1 e

-- a number of a sort in range is a place
pub record SortThere (sorts : List SortEntry) (k : ℕ) : Type 0 where
  pub entry : SortEntry
  pub at : slice_get sorts k ≡ Some entry

pub sort-there : (sorts : List SortEntry) (k : ℕ) → in_range sorts k ≡ true → SortThere sorts k
sort-there [] k h = absurd (true-false (sym h))
sort-there (entry ∷ sorts) zero h = record { entry = entry; at = refl }
sort-there (entry ∷ sorts) (suc k) h = let later = sort-there sorts k h in record { entry = later.entry; at = later.at }

listed-symbol : (entries : List SymbolEntry) (k : ℕ) (entry : SymbolEntry) → slice_get entries k ≡ Some entry → has same_text entry.name (symbol_names entries) ≡ true
listed-symbol [] k entry h = absurd cc
listed-symbol (first ∷ entries) zero entry h =
    let is : first ≡ entry = cc in
    ap (λ (e : SymbolEntry). same_text e.name entry.name || has same_text entry.name (symbol_names entries)) is
    ∙ ap (λ b. b || has same_text entry.name (symbol_names entries)) (same_text-refl entry.name)
listed-symbol (first ∷ entries) (suc k) entry h = or_right (same_text first.name entry.name) _ (listed-symbol entries k entry h)

-- the type of the symbol with a number is that of its entry
pub type-place : (sorts : List SortEntry) (entries : List SymbolEntry) → all_different same_text (symbol_names entries) ≡ true → (k : ℕ) (entry : SymbolEntry) → slice_get entries k ≡ Some entry → type_among sorts entries entry.name ≡ Some (own_type sorts entry)
type-place sorts [] d k entry h = absurd cc
type-place sorts (first ∷ entries) d zero entry h =
    let is : first ≡ entry = cc in
    ap (λ (e : SymbolEntry). if same_text e.name entry.name then Some (own_type sorts e) else type_among sorts entries entry.name) is
    ∙ ap (λ b. if b then Some (own_type sorts entry) else type_among sorts entries entry.name) (same_text-refl entry.name)
type-place sorts (first ∷ entries) d (suc k) entry h =
    let parts : (not (has same_text first.name (symbol_names entries)) ≡ true) × (all_different same_text (symbol_names entries) ≡ true) = split _ _ d in
    let apart : same_text first.name entry.name ≡ false = never (same_text first.name entry.name) (λ e. true-false (sym (same-listed e) ∙ not-true _ parts.0)) in
    ap (λ b. if b then Some (own_type sorts first) else type_among sorts entries entry.name) apart ∙ type-place sorts entries parts.1 k entry h
  where
    same-listed : same_text first.name entry.name ≡ true → has same_text first.name (symbol_names entries) ≡ true
    same-listed e = ap (λ n. has same_text n (symbol_names entries)) (same_text-true first.name entry.name e) ∙ listed-symbol entries k entry h
