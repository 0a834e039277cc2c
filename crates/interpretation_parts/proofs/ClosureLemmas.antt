-- What closures list, as the code notes it.
use Rattle.std.proofs.Common.{◌≡◌, ◌≢◌, ◌<◌, ◌⊎◌, inl, inr, ℕ, suc, ◌+◌, Bool, true, false, List, [], ◌∷◌, ◌++◌, map, length, get_or, set, eqb, nat_eq, Option, None, Some, refl, ap, ◌∙◌, sym, subst, arith}
use Rattle.std.specs.Prelude.{◌||◌, ◌&&◌, not, is_some, is_none, if◌then◌else◌}
use Rattle.std.specs.List.{list_any}
use Rattle.std.specs.Option.{option_map}
use Rattle.std.proofs.lemmas.List.{append-nil, get_or-set_other, length-set}
use Rattle.std.proofs.lemmas.Grind.{get_or-set_at}
use Rattle.std.proofs.lemmas.List.Folds.{list_any-append}
use Rattle.std.proofs.lemmas.Bool.Decides.{eqb_tells}
use Rattle.nxf_tree.specs.declared.tree.SortName.{SortName}
use Rattle.nxf_tree.specs.declared.tree.SortName.TheVariants.{Individual, User}
use Rattle.nxf_tree.specs.declared.tree.TableEntry.{TableEntry}
use Rattle.nxf_tree.specs.Counting.{has, all_different}
use Rattle.nxf_tree.specs.Names.{same_text}
use Rattle.indexmap.specs.IndexSet.{insert_all}
use Rattle.interpretation_definitions.specs.declared.fault.PartFault.{PartFault}
use Rattle.interpretation_definitions.specs.declared.fault.PartFault.TheVariants.{UnknownSymbol}
use Rattle.interpretation_definitions.specs.Context.{Context, is_extra, is_listed, is_sort, listed_under, listings_of, sort_number, symbol}
use Rattle.interpretation_definitions.specs.Judging.{closure_clash, closure_fault, extra_sort, is_taken, listing_clash, tried, unless_dropped}
use Rattle.interpretation_definitions.specs.Parts.{Part, Closes}
use Rattle.interpretation_parts.specs.declared.closures.Closures.{Closures}
use Rattle.interpretation_parts.specs.steps.Closed.{AreNoted}
use Rattle.interpretation_parts.specs.steps.Held.{clash_if}
use Rattle.interpretation_parts.specs.steps.Tables.{repeated}
use Rattle.interpretation_parts.proofs.ItemLemmas.{map-append}
use Rattle.interpretation_parts.proofs.SetLemmas.{has_is, member-insert_all, or_false, repeated_is}

any_same : {A : Type 0} (p q : A → Bool) → ((x : A) → p x ≡ q x) → (xs : List A) → list_any p xs ≡ list_any q xs
any_same p q e [] = refl
any_same p q e (x ∷ xs) = ap (λ b. b || list_any p xs) (e x) ∙ ap (λ b. q x || b) (any_same p q e xs)

-- the names of listings for one sort
names_of : (sort : ℕ) (names : List (List ℕ)) → map (λ (l : List ℕ × ℕ). l.0) (map (λ name. (name, sort)) names) ≡ names
names_of sort [] = refl
names_of sort (n ∷ names) = ap (λ l. n ∷ l) (names_of sort names)

-- a closure clashes where its sort had one, a name is repeated, or a name is taken
pub clash_is : (c : Context) (before : List (List ℕ × ℕ)) (closures : Closures) (sort : ℕ) (names : List (List ℕ)) (closed : Bool) → AreNoted before closures → sort < length closures.closed.items
    → closed ≡ get_or closures.closed.items sort false
    → (closed || repeated closures.listed.keys names) || list_any (is_taken c sort) names ≡ listing_clash c before sort names
clash_is c before closures sort names closed noted lt is =
    ap (λ b. b || list_any (is_taken c sort) names)
    (ap (λ b. b || repeated closures.listed.keys names) (is ∙ noted.closed sort lt)
    ∙ ap (λ b. list_any (λ l. nat_eq l.1 sort) before || b)
    (repeated_is closures.listed.keys names
    ∙ ap (λ b. b || not (all_different same_text names))
    (any_same (λ x. list_any (same_text x) closures.listed.keys) (λ x. has same_text x (map (λ (l : List ℕ × ℕ). l.0) before)) (λ x. noted.listed x ∙ sym (has_is x (map (λ (l : List ℕ × ℕ). l.0) before))) names))
    ∙ by (list_any (λ l. nat_eq l.1 sort) before) _ _)
  where
    by : (a b d : Bool) → a || (b || d) ≡ (a || b) || d
    by true b d = refl
    by false b d = refl

any_for : (k sort : ℕ) (names : List (List ℕ)) → list_any (λ (l : List ℕ × ℕ). nat_eq l.1 k) (map (λ name. (name, sort)) names) ≡ nat_eq sort k && not (nat_eq (length names) 0)
any_for k sort [] = sym (no (nat_eq sort k))
  where
    no : (b : Bool) → b && false ≡ false
    no true = refl
    no false = refl
any_for k sort (n ∷ names) =
    ap (λ b. nat_eq sort k || b) (any_for k sort names) ∙ by (nat_eq sort k) (nat_eq (length names) 0) ∙ ap (λ b. nat_eq sort k && not b) (sym (not_zero (eqb_tells (suc (length names)) 0)))
  where
    by : (a b : Bool) → a || (a && not b) ≡ a && true
    by true b = refl
    by false b = refl

    not_zero : ((eqb (suc (length names)) 0 ≡ true) × (suc (length names) ≡ 0)) ⊎ ((eqb (suc (length names)) 0 ≡ false) × (suc (length names) ≢ 0)) → nat_eq (suc (length names)) 0 ≡ false
    not_zero (inl h) = absurd (omega (arith, h.1))
    not_zero (inr h) = h.0

-- what is noted after a closure of a known sort
pub noted_next : (before : List (List ℕ × ℕ)) (old new : Closures) (sort : ℕ) (names : List (List ℕ)) (closed : Bool) → AreNoted before old → sort < length old.closed.items
    → closed ≡ get_or old.closed.items sort false → new.listed.keys ≡ insert_all same_text old.listed.keys names
    → new.closed.items ≡ set old.closed.items sort (closed || not (nat_eq (length names) 0)) → AreNoted (before ++ map (λ name. (name, sort)) names) new
noted_next before old new sort names closed noted lt is keys items = record {
  listed = λ q.
      ap (list_any (same_text q)) keys ∙ member-insert_all q old.listed.keys names ∙ ap (λ b. b || list_any (same_text q) names) (noted.listed q)
      ∙ sym (ap (list_any (same_text q)) (map-append (λ (l : List ℕ × ℕ). l.0) before (map (λ name. (name, sort)) names) ∙ ap (λ l. map (λ (l : List ℕ × ℕ). l.0) before ++ l) (names_of sort names)) ∙ list_any-append (same_text q) (map (λ (l : List ℕ × ℕ). l.0) before) names);
  closed = λ k below. ap (λ l. get_or l k false) items ∙ by k (subst (λ n. k < n) (ap length items ∙ length-set old.closed.items sort (closed || not (nat_eq (length names) 0))) below) (eqb_tells sort k)
      ∙ sym (list_any-append (λ (l : List ℕ × ℕ). nat_eq l.1 k) before (map (λ name. (name, sort)) names) ∙ ap (λ b. list_any (λ (l : List ℕ × ℕ). nat_eq l.1 k) before || b) (any_for k sort names));
}
  where
    now : Bool
    now = closed || not (nat_eq (length names) 0)

    by : (k : ℕ) → k < length old.closed.items → ((eqb sort k ≡ true) × (sort ≡ k)) ⊎ ((eqb sort k ≡ false) × (sort ≢ k))
        → get_or (set old.closed.items sort (closed || not (nat_eq (length names) 0))) k false ≡ list_any (λ (l : List ℕ × ℕ). nat_eq l.1 k) before || (nat_eq sort k && not (nat_eq (length names) 0))
    by k below (inl h) =
        get_or-set_at old.closed.items sort k (closed || not (nat_eq (length names) 0)) false (sym h.1) lt
        ∙ ap (λ b. b || not (nat_eq (length names) 0)) (is ∙ noted.closed sort lt ∙ ap (λ s. list_any (λ (l : List ℕ × ℕ). nat_eq l.1 s) before) h.1)
        ∙ ap (λ b. list_any (λ (l : List ℕ × ℕ). nat_eq l.1 k) before || (b && not (nat_eq (length names) 0))) (sym h.0)
    by k below (inr h) =
        get_or-set_other old.closed.items sort k (closed || not (nat_eq (length names) 0)) false (λ e. h.1 (sym e))
        ∙ noted.closed k below ∙ sym (or_false _)
        ∙ ap (λ b. list_any (λ (l : List ℕ × ℕ). nat_eq l.1 k) before || (b && not (nat_eq (length names) 0))) (sym h.0)

-- the three kinds of closures: dropped, of an unknown sort, of a known one
pub closure_dropped : (c : Context) (before : List Part) (s : SortName) (names : List (List ℕ)) → extra_sort c s ≡ true → closure_fault c before s names ≡ None
closure_dropped c before s names h = ap (λ b. unless_dropped b (tried false (is_none (sort_number c.sorts s)) false (closure_clash c before (sort_number c.sorts s) names))) h

pub closure_unknown : (c : Context) (before : List Part) (s : SortName) (names : List (List ℕ)) → extra_sort c s ≡ false → sort_number c.sorts s ≡ None → closure_fault c before s names ≡ Some UnknownSymbol
closure_unknown c before s names h none =
    ap (λ b. unless_dropped b (tried false (is_none (sort_number c.sorts s)) false (closure_clash c before (sort_number c.sorts s) names))) h
    ∙ ap (λ o. tried false (is_none o) false (closure_clash c before o names)) none

pub closure_known : (c : Context) (before : List Part) (s : SortName) (names : List (List ℕ)) (n : ℕ) → extra_sort c s ≡ false → sort_number c.sorts s ≡ Some n
    → closure_fault c before s names ≡ clash_if (closure_clash c before (Some n) names)
closure_known c before s names n h some =
    ap (λ b. unless_dropped b (tried false (is_none (sort_number c.sorts s)) false (closure_clash c before (sort_number c.sorts s) names))) h
    ∙ ap (λ o. tried false (is_none o) false (closure_clash c before o names)) some

-- a closure of an extra sort, or of an unknown one, lists nothing
pub extra_unsorted : (c : Context) (s : SortName) → extra_sort c s ≡ true → sort_number c.sorts s ≡ None
extra_unsorted c Individual h = cc
extra_unsorted c (User s) h = by (list_any (same_text s) c.declared) (is_some (symbol c s)) (sort_number c.sorts (User s)) h
  where
    by : (b d : Bool) (o : Option ℕ) → b && not (d || is_some o) && not (is_listed c s) ≡ true → o ≡ None
    by b d None k = refl
    by true true (Some n) k = cc
    by true false (Some n) k = cc
    by false d (Some n) k = cc

pub noted_same : (c : Context) (before : List (List ℕ × ℕ)) (closures : Closures) (s : SortName) (names : List (List ℕ)) → sort_number c.sorts s ≡ None → AreNoted before closures
    → AreNoted (before ++ listings_of c.sorts (Closes s names)) closures
noted_same c before closures s names none noted = subst (λ ls. AreNoted ls closures) (sym (ap (λ o. before ++ listed_under o names) none ∙ append-nil before)) noted
