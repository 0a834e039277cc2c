-- The tables of a classical signature, entry by entry.
use Rattle.std.proofs.Common.{◌≡◌, ℕ, zero, suc, ◌+◌, ◌<◌, Bool, true, false, List, [], ◌∷◌, ◌++◌, length, get_or, take, refl, sym, ap, ◌∙◌, arith}
use Rattle.std.specs.Prelude.{map, if◌then◌else◌, None}
use Rattle.std.specs.List.{list_all}
use Rattle.std.proofs.lemmas.Grind.{take_at_read}
use Rattle.std.proofs.lemmas.List.{length-take-le}
use Rattle.nxf_tree.specs.declared.tree.SortEntry.{SortEntry}
use Rattle.nxf_tree.specs.declared.tree.TableEntry.{TableEntry}
use Rattle.nxf_tree.specs.Names.{user_sort, existence_name}
use Rattle.nxf_tree.specs.Signature.{constant_regime, sort_names}
use Rattle.nxf_tree.specs.ClassicalSignature.{existence_entries}
use Rattle.name_laws.proofs.Types.{split}
use Rattle.classical_signatures.specs.steps.ExistenceTable.{existence_table}

pub sorts-named : (entries : List SortEntry) → map (λ (e : SortEntry). user_sort e.name) entries ≡ map user_sort (sort_names entries)
sorts-named [] = refl
sorts-named (e ∷ entries) = ap (λ rest. user_sort e.name ∷ rest) (sorts-named entries)

abbrev table : ℕ → SortEntry → TableEntry
table n x = record { name = existence_name x.name; args = 0 ∷ n ∷ []; gives = None }

existence-step : (k n : ℕ) (x : SortEntry) (xs : List SortEntry) (rest more : List TableEntry) → suc k ≡ n → (b : Bool)
    → (if b then rest else table (suc k) x ∷ rest) ++ more
    ≡ (if b then rest ++ more else table (suc k) x ∷ (rest ++ more))
existence-step k n x xs rest more e true = refl
existence-step k n x xs rest more e false = refl

last-table : (k n : ℕ) (x : SortEntry) → suc k ≡ n → (b : Bool)
    → (if b then [] else table (suc k) x ∷ []) ≡ (if b then [] else table n x ∷ [])
last-table k n x e true = refl
last-table k n x e false = ap (λ j. table j x ∷ []) e

existence-append : (k n : ℕ) (xs : List SortEntry) (x : SortEntry) → k + length xs + 1 ≡ n → existence_entries k (xs ++ x ∷ []) ≡ existence_entries k xs ++ existence_table n x
existence-append k n [] x e = last-table k n x (omega arith) (constant_regime x.regime)
existence-append k n (y ∷ xs) x e =
    ap (λ rest. if constant_regime y.regime then rest else table (suc k) y ∷ rest) (existence-append (suc k) n xs x (omega arith))
    ∙ sym (existence-step k (suc k) y xs (existence_entries (suc k) xs) (existence_table n x) refl (constant_regime y.regime))

pub existence-next : (xs : List SortEntry) (i : ℕ) (d : SortEntry) → i < length xs → existence_entries 0 (take (i + 1) xs) ≡ existence_entries 0 (take i xs) ++ existence_table (i + 1) (get_or xs i d)
existence-next xs i d l =
    ap (existence_entries 0) (take_at_read xs i d l).1 ∙ existence-append 0 (i + 1) (take i xs) (get_or xs i d) (omega (arith, length-take-le i xs (omega arith)))

args-step : (b : Bool) (xs : List ℕ) (n : ℕ) → (if b then 0 ∷ xs else xs) ++ n ∷ [] ≡ (if b then 0 ∷ (xs ++ n ∷ []) else xs ++ n ∷ [])
args-step true xs n = refl
args-step false xs n = refl

pub member : {A : Type 0} (p : A → Bool) (xs : List A) (k : ℕ) (d : A) → k < length xs → list_all p xs ≡ true → p (get_or xs k d) ≡ true
member p [] k d l h = absurd (omega arith)
member p (x ∷ xs) zero d l h = (split _ _ h).0
member p (x ∷ xs) (suc k) d l h = member p xs k d (omega arith) (split _ _ h).1
