-- The variable of a level, looked up among names that stand beside their values, the innermost first: an inner binder of the same name hides the outer.
use Rattle.std.proofs.Common.{◌≡◌, ℕ, zero, suc, ◌<◌, Bool, true, false, List, [], ◌∷◌, ◌++◌, length, get_or, refl, sym, ap, ◌∙◌, arith}
use Rattle.std.specs.Prelude.{◌||◌, if◌then◌else◌, slice_get, Option, None, Some}
use Rattle.std.specs.Option.{option_or, unwrap_or}
use Rattle.std.proofs.lemmas.Option.{slice_get-get_or}
use Rattle.nxf_tree.specs.declared.tree.SortName.{SortName}
use Rattle.nxf_tree.specs.Names.{same_text}
use Rattle.nxf_tree.specs.Counting.{has}
use Rattle.nxf_tree.specs.Kripke.{Env, look}
use Rattle.nxf_tree.specs.Sorting.{Bound, bound_sort}
use Rattle.name_laws.proofs.Spelling.{same_text-refl}
use Rattle.numbered_definitions.specs.NamedForm.{variable}
use Rattle.evaluation_laws.specs.EvaluationLaws.{inside_out}

-- one level more
pub longer : {A : Type 0} (xs : List A) (x : A) → length (xs ++ x ∷ []) ≡ suc (length xs)
longer [] x = refl
longer (y ∷ xs) x = ap suc (longer xs x)

pub both-longer : {A B : Type 0} (xs : List A) (ys : List B) (x : A) (y : B) → length xs ≡ length ys → length (xs ++ x ∷ []) ≡ length (ys ++ y ∷ [])
both-longer xs ys x y h = longer xs x ∙ ap suc h ∙ sym (longer ys y)

module _ {B : Type 0} where
  pub inside_out-push : (xs : List (List ℕ)) (ys : List B) (x : List ℕ) (y : B) → length xs ≡ length ys → inside_out (xs ++ x ∷ []) (ys ++ y ∷ []) ≡ (x, y) ∷ inside_out xs ys
  inside_out-push [] [] x y h = refl
  inside_out-push [] (b ∷ ys) x y h = absurd (omega (arith, h))
  inside_out-push (a ∷ xs) [] x y h = absurd (omega (arith, h))
  inside_out-push (a ∷ xs) (b ∷ ys) x y h = ap (λ l. l ++ (a, b) ∷ []) (inside_out-push xs ys x y (omega (arith, h)))

  -- what the first line of a name has
  abbrev pub seek : List (List ℕ × B) → List ℕ → Option B
  seek [] x = None
  seek (b ∷ bs) x = if same_text b.0 x then Some b.1 else seek bs x

  seek-append : (l r : List (List ℕ × B)) (x : List ℕ) → seek (l ++ r) x ≡ option_or (seek l x) (seek r x)
  seek-append [] r x = refl
  seek-append (b ∷ l) r x = by (same_text b.0 x) (seek-append l r x)
    where
      by : (c : Bool) → seek (l ++ r) x ≡ option_or (seek l x) (seek r x) → (if c then Some b.1 else seek (l ++ r) x) ≡ option_or (if c then Some b.1 else seek l x) (seek r x)
      by true h = refl
      by false h = h

  seek-none : (xs : List (List ℕ)) (ys : List B) (x : List ℕ) → has same_text x xs ≡ false → seek (inside_out xs ys) x ≡ None
  seek-none [] ys x h = refl
  seek-none (a ∷ xs) [] x h = refl
  seek-none (a ∷ xs) (y ∷ ys) x h =
      let parts = neither (same_text a x) (has same_text x xs) h in
      seek-append (inside_out xs ys) ((a, y) ∷ []) x
      ∙ (λ i. option_or (seek-none xs ys x parts.1 i) (if parts.0 i then Some y else None))
    where
      neither : (b c : Bool) → b || c ≡ false → (b ≡ false) × (c ≡ false)
      neither true c e = absurd cc
      neither false c e = (refl, e)

  -- the variable of a level has what stands at the level
  pub level-found : (xs : List (List ℕ)) (ys : List B) (k : ℕ) (x : List ℕ) → variable xs k ≡ Some x → length xs ≡ length ys → (slice_get ys k ≡ seek (inside_out xs ys) x) × (k < length ys)
  level-found [] ys k x h l = absurd cc
  level-found (a ∷ xs) [] k x h l = absurd (omega (arith, l))
  level-found (a ∷ xs) (y ∷ ys) zero x h l = (by (has same_text a xs) refl h, omega arith)
    where
      by : (b : Bool) → has same_text a xs ≡ b → (if b then None else Some a) ≡ Some x → Some y ≡ seek (inside_out (a ∷ xs) (y ∷ ys)) x
      by true p e = absurd cc
      by false p e =
          let is : a ≡ x = cc in
          let absent : has same_text x xs ≡ false = ap (λ z. has same_text z xs) (sym is) ∙ p in
          let own : same_text a x ≡ true = ap (λ z. same_text z x) is ∙ same_text-refl x in
          sym (seek-append (inside_out xs ys) ((a, y) ∷ []) x
          ∙ (λ i. option_or (seek-none xs ys x absent i) (if own i then Some y else None)))
  level-found (a ∷ xs) (y ∷ ys) (suc k) x h l =
      let later = level-found xs ys k x h (omega (arith, l)) in
      let there : slice_get ys k ≡ Some (get_or ys k y) = slice_get-get_or ys k y later.1 in
      let found : seek (inside_out xs ys) x ≡ Some (get_or ys k y) = sym later.0 ∙ there in
      (there ∙ sym (seek-append (inside_out xs ys) ((a, y) ∷ []) x ∙ ap (λ o. option_or o (seek ((a, y) ∷ []) x)) found), omega (arith, later.1))

pub look-sought : (e : Env) (x : List ℕ) → look e x ≡ unwrap_or (seek e x) 0
look-sought [] x = refl
look-sought (b ∷ e) x = by (same_text b.0 x) (look-sought e x)
  where
    by : (c : Bool) → look e x ≡ unwrap_or (seek e x) 0 → (if c then b.1 else look e x) ≡ unwrap_or (if c then Some b.1 else seek e x) 0
    by true h = refl
    by false h = h

pub bound_sort-sought : (b : Bound) (x : List ℕ) → bound_sort b x ≡ seek b x
bound_sort-sought [] x = refl
bound_sort-sought (a ∷ b) x = ap (λ o. if same_text a.0 x then Some a.1 else o) (bound_sort-sought b x)

-- the value of the variable of a level
pub level-value : (xs : List (List ℕ)) (e : List ℕ) (k : ℕ) (x : List ℕ) → variable xs k ≡ Some x → length xs ≡ length e → get_or e k 0 ≡ look (inside_out xs e) x
level-value xs e k x h l =
    let found = level-found xs e k x h l in
    let there : slice_get e k ≡ Some (get_or e k 0) = slice_get-get_or e k 0 found.1 in
    sym (look-sought (inside_out xs e) x ∙ ap (λ o. unwrap_or o 0) (sym found.0 ∙ there))

-- the sort of the variable of a level
pub level-sort : (xs : List (List ℕ)) (ss : List SortName) (k : ℕ) (x : List ℕ) → variable xs k ≡ Some x → length xs ≡ length ss → (bound_sort (inside_out xs ss) x ≡ slice_get ss k) × (k < length ss)
level-sort xs ss k x h l =
    let found = level-found xs ss k x h l in
    (bound_sort-sought (inside_out xs ss) x ∙ sym found.0, found.1)
