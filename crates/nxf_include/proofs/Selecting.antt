-- Names that are looked over one by one, and the statements that have them.
use Rattle.std.proofs.Common.{◌≡◌, ℕ, suc, Bool, true, false, List, [], ◌∷◌, ◌++◌, append_assoc, Option, None, Some, Ok, Err, arith, get_or, drop, length, ◌<◌, refl, sym, ap, ◌∙◌, drop-cons}
use Rattle.std.proofs.Math.Bool.{or_assoc, or-false}
use Rattle.std.proofs.lemmas.Map.Views.{any-filter_same}
use Rattle.std.specs.Cmp.Lexicographic.{bytes_decides}
use Rattle.std.specs.List.{filter, list_any}
use Rattle.std.specs.Prelude.{if◌then◌else◌, ◌||◌, ◌⊎◌}
use mathlib.Core.Logic.{inl, inr}
use Rattle.nxf_tree.specs.Counting.{has}
use Rattle.nxf_tree.specs.Names.{same_text}
use Rattle.nxf_tree.specs.declared.tree.Statement.{Statement}
use Rattle.nxf_tree.specs.declared.tree.Statement.TheVariants.{Annotated, Include}
use Rattle.syntax_definitions.specs.Gathered.{has_name, is_listed, first_missing, unless_missing, selected}
use Rattle.syntax_definitions.specs.declared.gather_error.GatherError.{GatherError}
use Rattle.syntax_definitions.specs.declared.gather_error.GatherError.TheVariants.{NoSuchName, Memory}

-- ---- the first name that no statement has

module _ (ss : List Statement) (names : List (List ℕ)) (i : ℕ) where
  pub missing_here : (d : List ℕ) → i < length names → list_any (has_name (get_or names i d)) ss ≡ false → first_missing (drop i names) ss ≡ Some (get_or names i d)
  missing_here d l h = ap (λ ns. first_missing ns ss) (drop-cons names i d l) ∙ ap (λ b. if b then first_missing (drop (suc i) names) ss else Some (get_or names i d)) h

  pub missing_later : (d : List ℕ) → i < length names → list_any (has_name (get_or names i d)) ss ≡ true → first_missing (drop i names) ss ≡ first_missing (drop (suc i) names) ss
  missing_later d l h = ap (λ ns. first_missing ns ss) (drop-cons names i d l) ∙ ap (λ b. if b then first_missing (drop (suc i) names) ss else Some (get_or names i d)) h

-- ---- sets of names

module _ (p q : Statement → Bool) (s : Statement) (rest all : List Statement) (is : all ≡ s ∷ rest) where
  pub kept_first : p s ≡ true → filter p all ≡ s ∷ filter p rest
  kept_first h = ap (filter p) is ∙ rw h refl

  pub kept_not : p s ≡ false → filter p all ≡ filter p rest
  kept_not h = ap (filter p) is ∙ rw h refl

  pub found_next : (old new b : Bool) → p s ≡ true → new ≡ (old || q s) → (old || list_any q (filter p all)) ≡ b → (new || list_any q (filter p rest)) ≡ b
  found_next old new b h n e =
      ap (λ a. a || list_any q (filter p rest)) n
      ∙ or_assoc old (q s) (list_any q (filter p rest))
      ∙ ap (λ ss. old || list_any q ss) (sym (kept_first h))
      ∙ e

  pub added_next : (done now b : List Statement) → p s ≡ true → now ≡ done ++ s ∷ [] → done ++ filter p all ≡ b → now ++ filter p rest ≡ b
  added_next done now b h n e =
      ap (λ ss. ss ++ filter p rest) n
      ∙ append_assoc done (s ∷ []) (filter p rest)
      ∙ ap (λ ss. done ++ ss) (sym (kept_first h))
      ∙ e

pub none_left : (ss : List Statement) → length ss ≡ 0 → ss ≡ []
none_left [] h = refl
none_left (s ∷ ss) h = absurd (omega arith)

pub found_end : (p q : Statement → Bool) (all : List Statement) (old b : Bool) → length all ≡ 0 → (old || list_any q (filter p all)) ≡ b → old ≡ b
found_end p q all old b empty h = sym (or-false old) ∙ ap (λ ss. old || list_any q (filter p ss)) (sym (none_left all empty)) ∙ h

-- ---- a list of names loses none of the statements that have one of them

same_first : (n : List ℕ) (ns : List (List ℕ)) → has same_text n (n ∷ ns) ≡ true
same_first n ns = ap (λ b. b || has same_text n ns) ((bytes_decides n n).1 refl)

or_true : (a : Bool) → (a || true) ≡ true
or_true true = refl
or_true false = refl

named_listed : (names : List (List ℕ)) (name : List ℕ) (s : Statement) → has_name name s ≡ true → is_listed names s ≡ has same_text name names
named_listed names name (Annotated own role body) h = ap (λ x. has same_text x names) ((bytes_decides own name).0 h)
named_listed names name (Include file among) h = absurd (cc)

none_lost : (names ns : List (List ℕ)) (ss : List Statement) → ((n : List ℕ) → has same_text n ns ≡ true → has same_text n names ≡ true) → first_missing ns (filter (is_listed names) ss) ≡ first_missing ns ss
none_lost names [] ss h = refl
none_lost names (n ∷ ns) ss h =
    let listed : has same_text n names ≡ true = h n (same_first n ns) in
    let any : list_any (has_name n) (filter (is_listed names) ss) ≡ list_any (has_name n) ss = any-filter_same (has_name n) (is_listed names) true (λ s k. named_listed names n s k ∙ listed) ss in
    ap (λ b. if b then first_missing ns (filter (is_listed names) ss) else Some n) any
    ∙ ap (λ o. if list_any (has_name n) ss then o else Some n)
    (none_lost names ns ss (λ m k. h m (ap (λ b. same_text n m || b) k ∙ or_true (same_text n m))))

missing_kept : (names : List (List ℕ)) (ss : List Statement) → first_missing names (filter (is_listed names) ss) ≡ first_missing names ss
missing_kept names ss = none_lost names names ss (λ n h. h)

-- ---- what an include with a list brings

module _ (file : List ℕ) (names : Option (List (List ℕ))) (ns : List (List ℕ)) (ss : List Statement) (is : names ≡ Some ns) where
  pub selected_ok : first_missing ns (filter (is_listed ns) ss) ≡ None → selected file names ss ≡ Ok (filter (is_listed ns) ss)
  selected_ok h = ap (λ o. selected file o ss) is ∙ ap (λ o. unless_missing file o (filter (is_listed ns) ss)) (sym (missing_kept ns ss) ∙ h)

  pub selected_not : (name : List ℕ) (e : GatherError) → first_missing ns (filter (is_listed ns) ss) ≡ Some name → (e ≡ NoSuchName file name) ⊎ (e ≡ Memory) → (selected file names ss ≡ Err e) ⊎ (e ≡ Memory)
  selected_not name e h (inl k) = inl (ap (λ o. selected file o ss) is ∙ ap (λ o. unless_missing file o (filter (is_listed ns) ss)) (sym (missing_kept ns ss) ∙ h) ∙ ap Err (sym k))
  selected_not name e h (inr k) = inr k
