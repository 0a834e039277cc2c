-- Values of sorts, and the sorts of well-sorted sides and rows.
use Rattle.std.proofs.Common.{◌≡◌, ℕ, zero, suc, ◌<◌, Bool, true, false, List, [], ◌∷◌, ◌++◌, length, get_or, refl, sym, ap, subst, arith}
use Rattle.std.specs.Prelude.{if◌then◌else◌, slice_get, Option, None, Some}
use Rattle.std.specs.Option.{option_map, is_none}
use Rattle.std.specs.List.{All as Each}
use Rattle.nxf_tree.specs.declared.tree.SortName.{SortName}
use Rattle.nxf_tree.specs.Sorting.{is_sort, have_one_sort}
use Rattle.name_laws.proofs.Apart.{sort-true}
use Rattle.name_laws.proofs.Spelling.{true-false}
use Rattle.fin_struct.specs.Places.{InRange}
use Rattle.fin_struct.specs.Cells.{CellTable, bound_of, cell}
use Rattle.fin_struct.specs.RowLists.{IsFilled}
use Rattle.fin_struct.proofs.CallerLemmas.{place_below}

-- a row in range has a cell below the table's bound
pub cell-below : (table : CellTable) (row : List ℕ) → IsFilled table → InRange table.sizes row → cell table row < bound_of table.values
cell-below table row f h = f.below _ (omega (arith, f.count, place_below table.sizes row h))

-- values of sorts, from the outside in
module _ (size : SortName → ℕ) where
  abbrev pub InSorts : List SortName → List ℕ → Type 0
  InSorts [] [] = Unit {0}
  InSorts [] (a ∷ e) = ⊥
  InSorts (s ∷ ss) [] = ⊥
  InSorts (s ∷ ss) (a ∷ e) = (a < size s) × InSorts ss e

  pub InSorts-length : (ss : List SortName) (e : List ℕ) → InSorts ss e → length ss ≡ length e
  InSorts-length [] [] h = refl
  InSorts-length [] (a ∷ e) h = absurd h
  InSorts-length (s ∷ ss) [] h = absurd h
  InSorts-length (s ∷ ss) (a ∷ e) h = ap suc (InSorts-length ss e h.1)

  pub InSorts-at : (ss : List SortName) (e : List ℕ) (k : ℕ) (s : SortName) → InSorts ss e → slice_get ss k ≡ Some s → get_or e k 0 < size s
  InSorts-at [] [] k s h e = absurd cc
  InSorts-at [] (a ∷ rest) k s h e = absurd h
  InSorts-at (r ∷ ss) [] k s h e = absurd h
  InSorts-at (r ∷ ss) (a ∷ rest) zero s h e = let is : r ≡ s = cc in subst (λ q. a < size q) is h.0
  InSorts-at (r ∷ ss) (a ∷ rest) (suc k) s h e = InSorts-at ss rest k s h.1 e

  pub InSorts-push : (ss : List SortName) (e : List ℕ) (s : SortName) (a : ℕ) → InSorts ss e → a < size s → InSorts (ss ++ s ∷ []) (e ++ a ∷ [])
  InSorts-push [] [] s a h l = (l, tt)
  InSorts-push [] (b ∷ e) s a h l = absurd h
  InSorts-push (r ∷ ss) [] s a h l = absurd h
  InSorts-push (r ∷ ss) (b ∷ e) s a h l = (h.0, InSorts-push ss e s a h.1 l)

-- sorts of two sides
pub record OneSort (o p : Option SortName) : Type 0 where
  pub sort : SortName
  pub left : o ≡ Some sort
  pub right : p ≡ Some sort

pub is_sort-some : (s : SortName) (o : Option SortName) → is_sort s o ≡ true → o ≡ Some s
is_sort-some s None h = absurd (true-false (sym h))
is_sort-some s (Some r) h = ap Some (sym (sort-true s r h))

pub one-sort : (o p : Option SortName) → have_one_sort o p ≡ true → OneSort o p
one-sort None p h = absurd (true-false (sym h))
one-sort (Some s) p h = record { sort = s; left = refl; right = is_sort-some s p h }

pub no-gives : (f : ℕ → SortName) (gives : Option ℕ) → is_none (option_map f gives) ≡ true → gives ≡ None
no-gives f None h = refl
no-gives f (Some k) h = absurd (true-false (sym h))

pub fit-chosen : {P : Type 0} (c : Bool) (o : Option SortName) (s : SortName) → (if c then o else None) ≡ Some s → (c ≡ true → o ≡ Some s → P) → P
fit-chosen true o s h k = k refl h
fit-chosen false o s h k = absurd cc

-- one more before those that have a property
pub all-more : {A : Type 0} (P : A → Type 0) (x : A) (xs : List A) → P x → Each P xs → Each P (x ∷ xs)
all-more P x xs p q zero d l = p
all-more P x xs p q (suc k) d l = q k d (omega (arith, l))
