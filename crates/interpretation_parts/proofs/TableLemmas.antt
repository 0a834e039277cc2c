-- Tables in which the first entry of a name stays.
use Rattle.std.proofs.Common.{◌<◌, cond, ◌⊎◌, inl, inr, ◌≢◌, subst, eqb, slice_index, slice_set, nat_eq, ◌≡◌, ℕ, ◌+◌, suc, Bool, true, false, List, [], ◌∷◌, ◌++◌, length, Option, None, Some, refl, ap, ◌∙◌, sym, true≢false, arith}
use Rattle.std.specs.Prelude.{if◌then◌else◌, is_some}
use Rattle.std.specs.Prelude.{codes}
use Rattle.std.specs.Prelude.{IfSome}
use Rattle.std.specs.Map.{lookup}
use Rattle.std.specs.Option.{option_or, option_map}
use Rattle.std.specs.Cmp.Lexicographic.{bytes_decides}
use Rattle.std.proofs.lemmas.List.{get_or-set_other, length-set}
use Rattle.std.proofs.lemmas.Grind.{get_or-set_at}
use Rattle.std.proofs.lemmas.List.Sums.{sum_by-append}
use Rattle.std.proofs.lemmas.Bool.Decides.{eqb_tells}
use Rattle.interpretation_definitions.specs.declared.element.Element.{Element}
use Rattle.nxf_tree.specs.Names.{same_text, actual_name}
use Rattle.nxf_tree.specs.Signature.{same_sort}
use Rattle.nxf_tree.specs.declared.tree.SortName.{SortName}
use Rattle.nxf_tree.specs.declared.tree.TableEntry.{TableEntry}
use Rattle.interpretation_definitions.specs.Context.{numbered_from, sort_number, symbol_in, actual_entry, count_for, and_listing}
use Rattle.interpretation_parts.specs.steps.Tables.{noted, only_at, own_symbol, Counted}

pub noted_new : {V : Type 0} (es : List (List ℕ × V)) (n : List ℕ) (v : V) → lookup (same_text n) es ≡ None → noted es n v ≡ es ++ (n, v) ∷ []
noted_new es n v h = ap (λ o. if is_some o then es else es ++ (n, v) ∷ []) h

pub same_text-refl : (x : List ℕ) → same_text x x ≡ true
same_text-refl x = (bytes_decides x x).1 refl

pub same_text-true : (x y : List ℕ) → same_text x y ≡ true → x ≡ y
same_text-true x y h = (bytes_decides x y).0 h

pub both_ways : (b c : Bool) → (b ≡ true → c ≡ true) → (c ≡ true → b ≡ true) → b ≡ c
both_ways true c f g = sym (f refl)
both_ways false true f g = g refl
both_ways false false f g = refl

pub same_text-sym : (x y : List ℕ) → same_text x y ≡ same_text y x
same_text-sym x y = both_ways _ _
    (λ h. ap (λ z. same_text z x) (sym (same_text-true x y h)) ∙ same_text-refl x)
    (λ h. ap (λ z. same_text z y) (sym (same_text-true y x h)) ∙ same_text-refl y)

lookup-last : {V : Type 0} (q : List ℕ) (es : List (List ℕ × V)) (n : List ℕ) (v : V) → lookup (same_text q) (es ++ (n, v) ∷ []) ≡ option_or (lookup (same_text q) es) (only_at q n v)
lookup-last q [] n v = refl
lookup-last q (e ∷ es) n v = by (lookup-last q es n v) (same_text q e.0)
  where
    by : lookup (same_text q) (es ++ (n, v) ∷ []) ≡ option_or (lookup (same_text q) es) (only_at q n v) → (b : Bool) → (if b then Some e.1 else lookup (same_text q) (es ++ (n, v) ∷ [])) ≡ option_or (if b then Some e.1 else lookup (same_text q) es) (only_at q n v)
    by more true = refl
    by more false = more

-- the first thing that passes, among one thing more
pub numbered-last : {A : Type 0} (k : ℕ) (test : A → Bool) (xs : List A) (x : A) → numbered_from k test (xs ++ x ∷ []) ≡ option_or (numbered_from k test xs) (if test x then Some (k + length xs, x) else None)
numbered-last k test [] x = ap (λ n. if test x then Some (n, x) else None) (omega arith)
numbered-last k test (y ∷ xs) x = by (numbered-last (suc k) test xs x ∙ ap (λ n. option_or (numbered_from (suc k) test xs) (if test x then Some (n, x) else None)) (omega arith)) (test y)
  where
    by : numbered_from (suc k) test (xs ++ x ∷ []) ≡ option_or (numbered_from (suc k) test xs) (if test x then Some (k + suc (length xs), x) else None) → (b : Bool) → (if b then Some (k, y) else numbered_from (suc k) test (xs ++ x ∷ [])) ≡ option_or (if b then Some (k, y) else numbered_from (suc k) test xs) (if test x then Some (k + suc (length xs), x) else None)
    by more true = refl
    by more false = more

there_or : {V : Type 0} (o p : Option V) → is_some o ≡ true → o ≡ option_or o p
there_or None p h = absurd (true≢false (sym h))
there_or (Some x) p h = refl

nothing_or : {V : Type 0} (o : Option V) → o ≡ option_or o None
nothing_or None = refl
nothing_or (Some x) = refl

-- a look-up after a name was noted
pub lookup-noted : {V : Type 0} (q : List ℕ) (es : List (List ℕ × V)) (n : List ℕ) (v : V) → lookup (same_text q) (noted es n v) ≡ option_or (lookup (same_text q) es) (only_at q n v)
lookup-noted {V} q es n v = by (lookup (same_text n) es) refl (same_text q n) refl
  where
    by : (o : Option V) → lookup (same_text n) es ≡ o → (b : Bool) → same_text q n ≡ b → lookup (same_text q) (if is_some o then es else es ++ (n, v) ∷ []) ≡ option_or (lookup (same_text q) es) (if b then Some v else None)
    by None h b k = lookup-last q es n v ∙ ap (λ c. option_or (lookup (same_text q) es) (if c then Some v else None)) k
    by (Some x) h true k = there_or _ (Some v) (ap is_some (ap (λ z. lookup (same_text z) es) (same_text-true q n k) ∙ h))
    by (Some x) h false k = nothing_or _

-- the number of a sort, among one sort more
pub sort_number-last : (xs : List SortName) (x : SortName) (s : SortName) → sort_number (xs ++ x ∷ []) s ≡ option_or (sort_number xs s) (if same_sort s x then Some (length xs) else None)
sort_number-last xs x s = ap (option_map (λ (p : ℕ × SortName). p.0)) (numbered-last 0 (same_sort s) xs x) ∙ by (numbered_from 0 (same_sort s) xs) (same_sort s x)
  where
    by : (o : Option (ℕ × SortName)) (b : Bool) → option_map (λ (p : ℕ × SortName). p.0) (option_or o (if b then Some (0 + length xs, x) else None)) ≡ option_or (option_map (λ (p : ℕ × SortName). p.0) o) (if b then Some (length xs) else None)
    by None true = ap Some (omega arith)
    by None false = refl
    by (Some p) b = refl

-- the number of a symbol, among one symbol more
pub symbol_number-last : (xs : List TableEntry) (x : TableEntry) (q : List ℕ)
    → option_map (λ (p : ℕ × TableEntry). p.0) (symbol_in (xs ++ x ∷ []) q) ≡ option_or (option_map (λ (p : ℕ × TableEntry). p.0) (symbol_in xs q)) (own_symbol q x.name (length xs))
symbol_number-last xs x q = ap (option_map (λ (p : ℕ × TableEntry). p.0)) (numbered-last 0 (λ (entry : TableEntry). same_text entry.name q) xs x) ∙ by (symbol_in xs q) (same_text x.name q)
  where
    by : (o : Option (ℕ × TableEntry)) (b : Bool) → option_map (λ (p : ℕ × TableEntry). p.0) (option_or o (if b then Some (0 + length xs, x) else None)) ≡ option_or (option_map (λ (p : ℕ × TableEntry). p.0) o) (if b then Some (length xs) else None)
    by None true = ap Some (omega arith)
    by None false = refl
    by (Some p) b = refl

pub sort_number-next : (n : ℕ) (xs : List SortName) (x s : SortName) → length xs ≡ n → sort_number (xs ++ x ∷ []) s ≡ option_or (sort_number xs s) (if same_sort s x then Some n else None)
sort_number-next n xs x s h = sort_number-last xs x s ∙ ap (λ m. option_or (sort_number xs s) (if same_sort s x then Some m else None)) h

pub symbol_number-next : (n : ℕ) (xs : List TableEntry) (x : TableEntry) (q : List ℕ) → length xs ≡ n
    → option_map (λ (p : ℕ × TableEntry). p.0) (symbol_in (xs ++ x ∷ []) q) ≡ option_or (option_map (λ (p : ℕ × TableEntry). p.0) (symbol_in xs q)) (own_symbol q x.name n)
symbol_number-next n xs x q h = symbol_number-last xs x q ∙ ap (λ m. option_or (option_map (λ (p : ℕ × TableEntry). p.0) (symbol_in xs q)) (own_symbol q x.name m)) h

pub note_by_symbol : (q : List ℕ) (es : List (List ℕ × ℕ)) (n : List ℕ) (v : ℕ) → lookup (same_text q) (noted es n v) ≡ option_or (lookup (same_text q) es) (own_symbol q n v)
note_by_symbol q es n v = lookup-noted q es n v ∙ ap (λ b. option_or (lookup (same_text q) es) (if b then Some v else None)) (same_text-sym q n)

pub symbol_first : (a q : List ℕ) → a ≡ codes "mk_actual" → own_symbol q a 0 ≡ option_map (λ (p : ℕ × TableEntry). p.0) (symbol_in (actual_entry ∷ []) q)
unfolding actual_name
symbol_first a q h = ap (λ b. own_symbol q b 0) h ∙ by (same_text (codes "mk_actual") q)
  where
    by : (b : Bool) → (if b then Some 0 else None) ≡ option_map (λ (p : ℕ × TableEntry). p.0) (if b then Some (0, actual_entry) else None)
    by true = refl
    by false = refl

-- the counts of elements
pub count_for-last : (k : ℕ) (es : List (List ℕ × Element)) (e : List ℕ × Element) → count_for k (es ++ e ∷ []) ≡ count_for k es + cond (nat_eq e.1.sort k) 1 0
count_for-last k es e = sum_by-append (λ (f : List ℕ × Element). cond (nat_eq f.1.sort k) 1 0) es (e ∷ []) ∙ omega arith

pub counted_next : (es : List (List ℕ × Element)) (counts name : List ℕ) (sort n next : ℕ) → Counted es counts → sort < length counts → n ≡ count_for sort es → next ≡ n + 1
    → Counted (es ++ (name, record { sort = sort; number = n }) ∷ []) (slice_set counts sort next)
counted_next es counts name sort n next counted lt is more k below = by (eqb_tells sort k)
  where
    by : ((eqb sort k ≡ true) × (sort ≡ k)) ⊎ ((eqb sort k ≡ false) × (sort ≢ k)) → slice_index (slice_set counts sort next) k ≡ count_for k (es ++ (name, record { sort = sort; number = n }) ∷ [])
    by (inl h) = get_or-set_at counts sort k next 0 (sym h.1) lt ∙ more ∙ ap (λ m. m + 1) (is ∙ ap (λ s. count_for s es) h.1) ∙ sym (count_for-last k es _ ∙ ap (λ b. count_for k es + cond b 1 0) h.0)
    by (inr h) = get_or-set_other counts sort k next 0 (λ e. h.1 (sym e)) ∙ counted k (subst (λ l. k < l) (length-set counts sort next) below) ∙ sym (count_for-last k es _ ∙ ap (λ b. count_for k es + cond b 1 0) h.0 ∙ omega arith)

pub listing_new : (es : List (List ℕ × Element)) (name : List ℕ) (sort n : ℕ) → lookup (same_text name) es ≡ None → n ≡ count_for sort es → es ++ (name, record { sort = sort; number = n }) ∷ [] ≡ and_listing es (name, sort)
listing_new es name sort n none is = ap (λ m. es ++ (name, record { sort = sort; number = m }) ∷ []) is ∙ sym (noted_new es name (record { sort = sort; number = count_for sort es }) none)

-- the number of what is found is in range
found_within : {A : Type 0} (k : ℕ) (test : A → Bool) (xs : List A) → IfSome (option_map (λ (p : ℕ × A). p.0) (numbered_from k test xs)) (λ n. n < k + length xs)
found_within k test [] = tt
found_within {A} k test (x ∷ xs) = by (test x) (found_within (suc k) test xs)
  where
    weaker : (o : Option ℕ) → IfSome o (λ n. n < suc k + length xs) → IfSome o (λ n. n < k + suc (length xs))
    weaker None h = tt
    weaker (Some n) h = omega (arith, h)

    by : (b : Bool) → IfSome (option_map (λ (p : ℕ × A). p.0) (numbered_from (suc k) test xs)) (λ n. n < suc k + length xs) → IfSome (option_map (λ (p : ℕ × A). p.0) (if b then Some (k, x) else numbered_from (suc k) test xs)) (λ n. n < k + suc (length xs))
    by true h = omega arith
    by false h = weaker _ h

from_zero : (m : ℕ) → 0 + m ≡ m
from_zero m = omega arith

pub sort_within : (sorts : List SortName) (s : SortName) (o : Option ℕ) → o ≡ sort_number sorts s → IfSome o (λ n. n < length sorts)
sort_within sorts s o h = subst (λ (p : Option ℕ). IfSome p (λ n. n < length sorts)) (sym h) (subst (λ m. IfSome (sort_number sorts s) (λ n. n < m)) (from_zero (length sorts)) (found_within 0 (same_sort s) sorts))
