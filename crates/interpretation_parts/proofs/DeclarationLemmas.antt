-- Types that are declared, sort by sort; and known symbols under their numbers.
use Rattle.std.proofs.lemmas.List.{take_more, length-take-le}
use Rattle.std.proofs.Common.{◌≡◌, ◌≢◌, ◌<◌, ◌≤◌, ◌-◌, ℕ, ◌+◌, zero, suc, Bool, true, false, List, [], ◌∷◌, ◌++◌, take, length, get_or, Option, None, Some, refl, ap, ◌∙◌, sym, arith}
use Rattle.std.specs.Prelude.{◌&&◌, if◌then◌else◌, codes}
use Rattle.std.specs.Option.{option_map}
use Rattle.nxf_tree.specs.declared.tree.SortName.{SortName}
use Rattle.nxf_tree.specs.declared.tree.TableEntry.{TableEntry}
use Rattle.nxf_tree.specs.Names.{same_text, actual_name}
use Rattle.interpretation_definitions.specs.Context.{actual_entry, numbered_from, symbol_in}
use Rattle.interpretation_definitions.specs.Judging.{is_sort_at, same_sorts}

-- as many numbers as sorts, and one more of each
pub same_sorts-last : (sorts : List SortName) (ks : List ℕ) (names : List SortName) (k : ℕ) (s : SortName) → length ks ≡ length names
    → same_sorts sorts (ks ++ k ∷ []) (names ++ s ∷ []) ≡ same_sorts sorts ks names && is_sort_at sorts k s
same_sorts-last sorts [] [] k s h = and_true (is_sort_at sorts k s)
  where
    and_true : (b : Bool) → b && true ≡ b
    and_true true = refl
    and_true false = refl
same_sorts-last sorts [] (t ∷ names) k s h = absurd (omega (arith, h))
same_sorts-last sorts (j ∷ ks) [] k s h = absurd (omega (arith, h))
same_sorts-last sorts (j ∷ ks) (t ∷ names) k s h =
    ap (λ b. is_sort_at sorts j t && b) (same_sorts-last sorts ks names k s (omega (arith, h))) ∙ by (is_sort_at sorts j t) (same_sorts sorts ks names) (is_sort_at sorts k s)
  where
    by : (a b c : Bool) → a && (b && c) ≡ (a && b) && c
    by true b c = refl
    by false b c = refl

-- fewer or more numbers than sorts
pub other_count : (sorts : List SortName) (ks : List ℕ) (names : List SortName) → length ks ≢ length names → false ≡ same_sorts sorts ks names
other_count sorts [] [] h = absurd (h refl)
other_count sorts [] (t ∷ names) h = refl
other_count sorts (k ∷ ks) [] h = refl
other_count sorts (k ∷ ks) (t ∷ names) h = by (is_sort_at sorts k t) ∙ ap (λ b. is_sort_at sorts k t && b) (other_count sorts ks names (λ e. h (ap suc e)))
  where
    by : (b : Bool) → false ≡ b && false
    by true = refl
    by false = refl

-- what is found from number k on
pub record Found {A : Type 0} (k : ℕ) (test : A → Bool) (xs : List A) (n : ℕ) (d : A) : Type 0 where
  pub at : ℕ
  pub number : n ≡ k + at
  pub within : at < length xs
  pub is : numbered_from k test xs ≡ Some (n, get_or xs at d)

found_by : {A : Type 0} (k : ℕ) (test : A → Bool) (x : A) (xs : List A) (n : ℕ) (d : A)
    → (option_map (λ (p : ℕ × A). p.0) (numbered_from (suc k) test xs) ≡ Some n → Found (suc k) test xs n d)
    → (b : Bool) → test x ≡ b → option_map (λ (p : ℕ × A). p.0) (if b then Some (k, x) else numbered_from (suc k) test xs) ≡ Some n → Found k test (x ∷ xs) n d
found_by {A} k test x xs n d more true e h =
    let number : k ≡ n = cc in
    record { at = 0; number = omega (arith, number); within = omega arith; is = ap (λ b. if b then Some (k, x) else numbered_from (suc k) test xs) e ∙ ap (λ m. Some (m, x)) number }
found_by {A} k test x xs n d more false e h =
    let rest : Found (suc k) test xs n d = more h in
    record {
      at = suc rest.at;
      number = omega (arith, rest.number);
      within = omega (arith, rest.within);
      is = ap (λ b. if b then Some (k, x) else numbered_from (suc k) test xs) e ∙ rest.is;
    }

pub found : {A : Type 0} (k : ℕ) (test : A → Bool) (xs : List A) (n : ℕ) (d : A) → option_map (λ (p : ℕ × A). p.0) (numbered_from k test xs) ≡ Some n → Found k test xs n d
found k test [] n d h = cc
found {A} k test (x ∷ xs) n d h = found_by k test x xs n d (found (suc k) test xs n d) (test x) refl h

-- a known symbol stands under its number
pub symbol_found : (xs : List TableEntry) (q : List ℕ) (n : ℕ) (d : TableEntry) → option_map (λ (p : ℕ × TableEntry). p.0) (symbol_in xs q) ≡ Some n → (n < length xs) × (symbol_in xs q ≡ Some (n, get_or xs n d))
symbol_found xs q n d h =
    let f = found 0 (λ (entry : TableEntry). same_text entry.name q) xs n d h in
    let e : f.at ≡ n = omega (arith, f.number) in
    (omega (arith, f.within, e), f.is ∙ ap (λ m. Some (n, get_or xs m d)) e)

pub no_symbol : (o : Option (ℕ × TableEntry)) → option_map (λ (p : ℕ × TableEntry). p.0) o ≡ None → o ≡ None
no_symbol None h = refl
no_symbol (Some p) h = cc

-- behind the first one
pub get_or_behind : {A : Type 0} (x : A) (xs : List A) (n : ℕ) (d : A) → n ≢ 0 → get_or (x ∷ xs) n d ≡ get_or xs (n - 1) d
get_or_behind x xs zero d h = absurd (h refl)
get_or_behind x xs (suc m) d h = ap (λ k. get_or xs k d) (omega arith)

-- one number and one sort more
pub same_sorts-more : (sorts : List SortName) (numbers : List ℕ) (names : List SortName) (i : ℕ) (s : SortName) (same has : Bool) → i < length numbers → length numbers ≡ length names → s ≡ get_or names i s
    → same ≡ same_sorts sorts (take i numbers) (take i names) → has ≡ is_sort_at sorts (get_or numbers i 0) s → same && has ≡ same_sorts sorts (take (i + 1) numbers) (take (i + 1) names)
same_sorts-more sorts numbers names i s same has lt lengths is so_far now =
    ap (λ b. b && has) so_far
    ∙ ap (λ b. same_sorts sorts (take i numbers) (take i names) && b) (now ∙ ap (is_sort_at sorts (get_or numbers i 0)) is)
    ∙ sym (ap (λ ks. same_sorts sorts ks (take (i + 1) names)) (take_more numbers i 0 lt)
    ∙ ap (λ ns. same_sorts sorts (take i numbers ++ get_or numbers i 0 ∷ []) ns) (take_more names i s lt2)
    ∙ same_sorts-last sorts (take i numbers) (take i names) (get_or numbers i 0) (get_or names i s) (length-take-le i numbers (omega arith) ∙ sym (length-take-le i names (omega (arith, lengths)))))
  where
    lt2 : i < length names
    lt2 = omega (arith, lengths, lt)

-- `mk_actual`, made of its name and no arguments
abbrev pub made_actual : List ℕ → List ℕ → TableEntry
made_actual name args = record { name = name; args = args; gives = Some 0 }

pub actual_is : (name args : List ℕ) → name ≡ codes "mk_actual" → args ≡ [] → made_actual name args ≡ actual_entry
unfolding actual_name
actual_is name args n a = ap (λ m. made_actual m args) n ∙ ap (made_actual (codes "mk_actual")) a
