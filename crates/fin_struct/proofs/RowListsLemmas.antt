-- The lists of rows against the cells.
use Rattle.std.proofs.Common.{◌≡◌, ℕ, zero, suc, ◌+◌, ◌*◌, ◌%◌, ◌/◌, ◌-◌, ◌<◌, inl, inr, false, if◌then◌else◌, nat_eq, List, [], ◌∷◌, map, length, get_or, Option, None, Some, refl, sym, ◌∙◌, ap, ap₂, arith}
use Rattle.std.proofs.lemmas.Nat.{div_below, mod_below, div-add-mod'}
use Rattle.std.proofs.lemmas.Bool.{cases_Bool, cases_lt}
use Rattle.std.proofs.lemmas.List.{same_lists, length-append, length-map, get_or-map, get_or_append_left, get_or-append-add, get_or-append_right}
use Rattle.nxf_tree.specs.Names.{same_text}
use Rattle.nxf_tree.specs.Rows.{Table, Shape, numbers_below, in_front, all_rows, has_row, those_in, value_of_row, beside, AllBelow, IsTableOf}
use Rattle.name_laws.proofs.Spelling.{same_text-refl, same_text-true, never}
use Rattle.fin_struct.specs.Places.{rows_count, InRange, place}
use Rattle.fin_struct.specs.Cells.{CellTable, bound_of, cell}
use Rattle.fin_struct.specs.RowLists.{marked, true_rows, rows_of, listed, entry, IsFilled, ListsTell, ListsFit, ListsDetermine}
use Rattle.fin_struct.proofs.PlacesLemmas.{place_below}

-- the row at a place
abbrev pub row_at : List ℕ → ℕ → List ℕ
row_at [] k = []
row_at (size ∷ sizes) k = (k / rows_count sizes) ∷ row_at sizes (k % rows_count sizes)

some_rows : (k size rows : ℕ) → k < size * rows → 0 < rows
some_rows k size zero h = absurd (grind arith)
some_rows k size (suc rows) h = omega arith

-- a place in the table is that of its row, which is in range
pub row_at-in_range : (sizes : List ℕ) (k : ℕ) → k < rows_count sizes → InRange sizes (row_at sizes k)
row_at-in_range [] k h = tt
row_at-in_range (size ∷ sizes) k h =
    let pos = some_rows k size (rows_count sizes) h in
    (div_below k (rows_count sizes) size pos h, row_at-in_range sizes (k % rows_count sizes) (mod_below k (rows_count sizes) pos))

pub place-row_at : (sizes : List ℕ) (k : ℕ) → k < rows_count sizes → place sizes (row_at sizes k) ≡ k
place-row_at [] k h = omega arith
place-row_at (size ∷ sizes) k h =
    let pos = some_rows k size (rows_count sizes) h in
    let ih = place-row_at sizes (k % rows_count sizes) (mod_below k (rows_count sizes) pos) in
    omega (arith, ih, div-add-mod' k (rows_count sizes))

length-numbers_below : (n : ℕ) → length (numbers_below n) ≡ n
length-numbers_below zero = refl
length-numbers_below (suc n) = omega (arith, length-append (numbers_below n) (n ∷ []), length-numbers_below n)

numbers_below-at : (n i : ℕ) → i < n → get_or (numbers_below n) i 0 ≡ i
numbers_below-at zero i h = absurd (omega arith)
numbers_below-at (suc n) i h = elim (cases_lt i n) [
  | inl before ↦ get_or_append_left (numbers_below n) (n ∷ []) 0 i (omega (arith, length-numbers_below n)) ∙ numbers_below-at n i before
  | inr last ↦
      let same : i ≡ n = omega arith in
      let none : i - n ≡ 0 = omega arith in
      get_or-append_right (numbers_below n) (n ∷ []) n i 0 (length-numbers_below n) last ∙ (rw none (sym same))
]

length-in_front : (xs : List ℕ) (rows : List (List ℕ)) → length (in_front xs rows) ≡ length xs * length rows
length-in_front [] rows = omega arith
length-in_front (x ∷ xs) rows =
    omega (arith, length-append (map (λ row. x ∷ row) rows) (in_front xs rows), length-map rows (λ row. x ∷ row), length-in_front xs rows)

in_front-at : (xs : List ℕ) (rows : List (List ℕ)) (i p : ℕ) → i < length xs → p < length rows → get_or (in_front xs rows) (i * length rows + p) [] ≡ get_or xs i 0 ∷ get_or rows p []
in_front-at [] rows i p h k = absurd (omega arith)
in_front-at (x ∷ xs) rows zero p h k =
    let e : 0 * length rows + p ≡ p = omega arith in
    (rw e (get_or_append_left (map (λ row. x ∷ row) rows) (in_front xs rows) [] p (omega (arith, length-map rows (λ row. x ∷ row)))
    ∙ get_or-map (λ row. x ∷ row) rows p [] [] k))
in_front-at (x ∷ xs) rows (suc i) p h k =
    let e : suc i * length rows + p ≡ length (map (λ row. x ∷ row) rows) + (i * length rows + p) = omega (arith, length-map rows (λ row. x ∷ row)) in
    (rw e (get_or-append-add (map (λ row. x ∷ row) rows) (in_front xs rows) (i * length rows + p) [] ∙ in_front-at xs rows i p (omega arith) k))

pub length-all_rows : (sizes : List ℕ) → length (all_rows sizes) ≡ rows_count sizes
length-all_rows [] = refl
length-all_rows (size ∷ sizes) =
    length-in_front (numbers_below size) (all_rows sizes) ∙ ap₂ ◌*◌ (length-numbers_below size) (length-all_rows sizes)

-- in the list of all rows, a row stands at its place
pub all_rows-at : (sizes row : List ℕ) → InRange sizes row → get_or (all_rows sizes) (place sizes row) [] ≡ row
all_rows-at [] [] h = refl
all_rows-at [] (x ∷ row) h = absurd h
all_rows-at (size ∷ sizes) [] h = absurd h
all_rows-at (size ∷ sizes) (x ∷ row) h =
    let len = length-all_rows sizes in
    let at = in_front-at (numbers_below size) (all_rows sizes) x (place sizes row) (omega (arith, length-numbers_below size, h.0)) (omega (arith, len, place_below sizes row h.1)) in
    (rw (sym len) at) ∙ ap₂ ◌∷◌ (numbers_below-at size x h.0) (all_rows-at sizes row h.1)

-- a row that stands once in a list, at place k
pub record Once (rows : List (List ℕ)) (row : List ℕ) (k : ℕ) : Type 0 where
  pub below : k < length rows
  pub only : (j : ℕ) → j < length rows → get_or rows j [] ≡ row → j ≡ k
  pub here : get_or rows k [] ≡ row

later : (r : List ℕ) (rows : List (List ℕ)) (row : List ℕ) (k : ℕ) → Once (r ∷ rows) row (suc k) → Once rows row k
later r rows row k o = record { below = omega (arith, o.below); only = λ j h e. omega (arith, o.only (suc j) (omega arith) e); here = o.here }

not_first : (r : List ℕ) (rows : List (List ℕ)) (row : List ℕ) (k : ℕ) → Once (r ∷ rows) row (suc k) → r ≡ row → ⊥
not_first r rows row k o e = absurd (omega (arith, o.only 0 (omega arith) e))

value_once : (rows : List (List ℕ)) (cells row : List ℕ) (k : ℕ) → length cells ≡ length rows → Once rows row k → value_of_row row (beside rows cells) ≡ get_or cells k 0
value_once [] cells row k len o = absurd (omega (arith, o.below))
value_once (r ∷ rows) [] row k len o = absurd (omega arith)
value_once (r ∷ rows) (c ∷ cells) row zero len o = (rw (o.here, same_text-refl row) refl)
value_once (r ∷ rows) (c ∷ cells) row (suc k) len o =
    let other = never (same_text r row) (λ e. not_first r rows row k o (same_text-true r row e)) in
    (rw other (value_once rows cells row k (omega arith) (later r rows row k o)))

absent : (rows : List (List ℕ)) (cells row : List ℕ) → ((j : ℕ) → j < length rows → get_or rows j [] ≡ row → ⊥) → has_row row (marked rows cells) ≡ false
absent [] cells row none = refl
absent (r ∷ rows) [] row none = refl
absent (r ∷ rows) (c ∷ cells) row none =
    let rest = absent rows cells row (λ j h e. none (suc j) (omega arith) e) in
    let other = never (same_text r row) (λ e. none 0 (omega arith) (same_text-true r row e)) in
    elim (cases_Bool (nat_eq c 1)) [
      | inl is_one ↦ (rw (is_one, other, rest) refl)
      | inr is_zero ↦ (rw (is_zero, rest) refl)
    ]

has_once : (rows : List (List ℕ)) (cells row : List ℕ) (k : ℕ) → length cells ≡ length rows → Once rows row k → has_row row (marked rows cells) ≡ nat_eq (get_or cells k 0) 1
has_once [] cells row k len o = absurd (omega (arith, o.below))
has_once (r ∷ rows) [] row k len o = absurd (omega arith)
has_once (r ∷ rows) (c ∷ cells) row zero len o = elim (cases_Bool (nat_eq c 1)) [
  | inl is_one ↦ (rw (is_one, o.here, same_text-refl row) refl)
  | inr is_zero ↦ (rw is_zero (absent rows cells row (λ j h e. absurd (omega (arith, o.only (suc j) (omega arith) e)))))
]
has_once (r ∷ rows) (c ∷ cells) row (suc k) len o =
    let rest = has_once rows cells row k (omega arith) (later r rows row k o) in
    let other = never (same_text r row) (λ e. not_first r rows row k o (same_text-true r row e)) in
    elim (cases_Bool (nat_eq c 1)) [
      | inl is_one ↦ (rw (is_one, other) rest)
      | inr is_zero ↦ (rw is_zero rest)
    ]

-- a row in range stands once in the list of all rows
pub once : (sizes row : List ℕ) → InRange sizes row → Once (all_rows sizes) row (place sizes row)
once sizes row h =
    let len = length-all_rows sizes in
    record {
      below = omega (arith, len, place_below sizes row h);
      only = λ j below e.
          let in_count : j < rows_count sizes = omega (arith, len) in
          let at = place-row_at sizes j in_count in
          let is = ap (λ (i : ℕ). get_or (all_rows sizes) i []) (sym at) ∙ all_rows-at sizes (row_at sizes j) (row_at-in_range sizes j in_count) in
          sym at ∙ ap (place sizes) (sym is ∙ e);
      here = all_rows-at sizes row h;
    }

-- the rows of a table say what its cells say
pub true_row-cell : (table : CellTable) (row : List ℕ) → IsFilled table → InRange table.sizes row → has_row row (true_rows table) ≡ nat_eq (cell table row) 1
true_row-cell table row f h =
    has_once (all_rows table.sizes) table.cells row (place table.sizes row) (omega (arith, f.count, length-all_rows table.sizes)) (once table.sizes row h)

pub value_row-cell : (table : CellTable) (row : List ℕ) → IsFilled table → InRange table.sizes row → value_of_row row (beside (all_rows table.sizes) table.cells) ≡ cell table row
value_row-cell table row f h =
    value_once (all_rows table.sizes) table.cells row (place table.sizes row) (omega (arith, f.count, length-all_rows table.sizes)) (once table.sizes row h)

small_bit : (c : ℕ) → c < 2 → (if nat_eq c 1 then 1 else 0) ≡ c
small_bit zero h = refl
small_bit (suc zero) h = refl
small_bit (suc (suc c)) h = absurd (omega arith)

tell_of : (values : Option ℕ) (sizes cells row : List ℕ) → length cells ≡ rows_count sizes → ((k : ℕ) → k < length cells → get_or cells k 0 < bound_of values) → InRange sizes row → entry (rows_of values (all_rows sizes) cells) row ≡ get_or cells (place sizes row) 0
tell_of None sizes cells row len below h =
    let has = has_once (all_rows sizes) cells row (place sizes row) (omega (arith, len, length-all_rows sizes)) (once sizes row h) in
    (rw has (small_bit (get_or cells (place sizes row) 0) (below (place sizes row) (omega (arith, len, place_below sizes row h)))))
tell_of (Some size) sizes cells row len below h =
    value_once (all_rows sizes) cells row (place sizes row) (omega (arith, len, length-all_rows sizes)) (once sizes row h)

pub lists-tell : ListsTell
lists-tell table row filled h = tell_of table.values table.sizes table.cells row filled.count filled.below h

those_marked : (list rows : List (List ℕ)) (cells : List ℕ) → length cells ≡ length rows → ((j : ℕ) → j < length rows → has_row (get_or rows j []) list ≡ nat_eq (get_or cells j 0) 1) → marked rows cells ≡ those_in list rows
those_marked list [] cells len h = refl
those_marked list (row ∷ rows) [] len h = absurd (omega arith)
those_marked list (row ∷ rows) (c ∷ cells) len h =
    let rest = those_marked list rows cells (omega arith) (λ j below. h (suc j) (omega arith)) in
    let first : has_row row list ≡ nat_eq c 1 = h 0 (omega arith) in
    (rw (first, rest) refl)

firsts : (rows : List (List ℕ)) (cells : List ℕ) → length cells ≡ length rows → map (λ (x : List ℕ × ℕ). x.0) (beside rows cells) ≡ rows
firsts [] cells len = refl
firsts (row ∷ rows) [] len = absurd (omega arith)
firsts (row ∷ rows) (c ∷ cells) len = ap (λ rest. row ∷ rest) (firsts rows cells (omega arith))

seconds : (bound : ℕ) (rows : List (List ℕ)) (cells : List ℕ) → ((k : ℕ) → k < length cells → get_or cells k 0 < bound) → AllBelow bound (map (λ (x : List ℕ × ℕ). x.1) (beside rows cells))
seconds bound [] cells below = tt
seconds bound (row ∷ rows) [] below = tt
seconds bound (row ∷ rows) (c ∷ cells) below = (below 0 (omega arith), seconds bound rows cells (λ k h. below (suc k) (omega arith)))

fit_of : (values : Option ℕ) (sizes cells : List ℕ) → length cells ≡ rows_count sizes → ((k : ℕ) → k < length cells → get_or cells k 0 < bound_of values) → IsTableOf sizes values (rows_of values (all_rows sizes) cells)
fit_of None sizes cells len below =
    let long : length cells ≡ length (all_rows sizes) = omega (arith, len, length-all_rows sizes) in
    those_marked (marked (all_rows sizes) cells) (all_rows sizes) cells long (λ j h.
    let in_count : j < rows_count sizes = omega (arith, length-all_rows sizes) in
    let at = place-row_at sizes j in_count in
    let in_range = row_at-in_range sizes j in_count in
    let is = ap (λ (i : ℕ). get_or (all_rows sizes) i []) (sym at) ∙ all_rows-at sizes (row_at sizes j) in_range in
    let has = has_once (all_rows sizes) cells (row_at sizes j) (place sizes (row_at sizes j)) long (once sizes (row_at sizes j) in_range) in
    ap (λ (row : List ℕ). has_row row (marked (all_rows sizes) cells)) is ∙ has ∙ ap (λ (i : ℕ). nat_eq (get_or cells i 0) 1) at)
fit_of (Some size) sizes cells len below = record {
  total = firsts (all_rows sizes) cells (omega (arith, len, length-all_rows sizes));
  below = seconds size (all_rows sizes) cells below;
}

pub lists-fit : ListsFit
lists-fit table filled = fit_of table.values table.sizes table.cells filled.count filled.below

any_default : (xs : List ℕ) (j d : ℕ) → j < length xs → get_or xs j d ≡ get_or xs j 0
any_default [] j d h = absurd (omega arith)
any_default (x ∷ xs) zero d h = refl
any_default (x ∷ xs) (suc j) d h = any_default xs j d (omega arith)

in_other : (sizes others row : List ℕ) → sizes ≡ others → InRange sizes row → InRange others row
in_other sizes others row e h = rw e at h

same_cell : (table other : CellTable) → IsFilled table → IsFilled other → table.sizes ≡ other.sizes → listed table ≡ listed other → (j : ℕ) → j < rows_count table.sizes → get_or table.cells j 0 ≡ get_or other.cells j 0
same_cell table other f g sizes lists j h =
    let in_range = row_at-in_range table.sizes j h in
    let at = place-row_at table.sizes j h in
    let mine = lists-tell table (row_at table.sizes j) f in_range in
    let theirs = lists-tell other (row_at table.sizes j) g (in_other table.sizes other.sizes (row_at table.sizes j) sizes in_range) in
    let same_place : place other.sizes (row_at table.sizes j) ≡ j = ap (λ (s : List ℕ). place s (row_at table.sizes j)) (sym sizes) ∙ at in
    ap (λ (i : ℕ). get_or table.cells i 0) (sym at)
    ∙ sym mine
    ∙ ap (λ (t : Table). entry t (row_at table.sizes j)) lists
    ∙ theirs
    ∙ ap (λ (i : ℕ). get_or other.cells i 0) same_place

same_table : (table other : CellTable) → table.sizes ≡ other.sizes → table.values ≡ other.values → table.cells ≡ other.cells → table ≡ other
same_table table other sizes values cells =
    ap (λ (z : List ℕ). record { sizes = z; values = table.values; cells = table.cells }) sizes
    ∙ ap (λ (z : Option ℕ). record { sizes = other.sizes; values = z; cells = table.cells }) values
    ∙ ap (λ (z : List ℕ). record { sizes = other.sizes; values = other.values; cells = z }) cells

pub lists-determine : ListsDetermine
lists-determine table other f g shapes lists =
    let sizes = ap (λ (s : Shape). s.sizes) shapes in
    let counts : rows_count table.sizes ≡ rows_count other.sizes = ap rows_count sizes in
    let cells = same_lists table.cells other.cells (f.count ∙ counts ∙ sym g.count) (λ j d below.
    let in_count : j < rows_count table.sizes = omega (arith, f.count) in
    any_default table.cells j d below
    ∙ same_cell table other f g sizes lists j in_count
    ∙ sym (any_default other.cells j d (omega (arith, g.count, counts)))) in
    same_table table other sizes (ap (λ (s : Shape). s.values) shapes) cells
