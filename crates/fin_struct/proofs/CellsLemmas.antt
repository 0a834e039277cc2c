-- The cells of one table within the flat list.
use Rattle.std.proofs.Common.{◌≡◌, ℕ, zero, suc, ◌+◌, ◌-◌, ◌<◌, ◌≤◌, inl, inr, List, [], ◌∷◌, ◌++◌, length, take, drop, set, get_or, replicate, ◌≢◌, refl, sym, ◌∙◌, ap, ap₂, arith}
use Rattle.std.proofs.lemmas.Grind.{common_steps, get_or-set_at}
use Rattle.std.proofs.lemmas.Bool.{cases_eq}
use Rattle.std.proofs.lemmas.List.{get_or-set_same, length-take-le, length-drop, get_or-replicate, length-replicate, same_lists, take-replicate}
use Rattle.fin_struct.proofs.PlacesLemmas.{place_injective}
use Rattle.std.proofs.lemmas.List.{get_or-drop, get_or-take, get_or-set_other, drop-drop, drop-set-lt, drop-set-add, take-set-le}
use Rattle.std.proofs.Math.Seq.{take-set-lt}
use Rattle.fin_struct.specs.declared.grid.GridShape.{GridShape}
use Rattle.fin_struct.specs.Places.{rows_count, place, InRange}
use Rattle.fin_struct.specs.Cells.{CellTable, bound_of, SameShapes, AllPositive, blank_tables, no_table, cell, with_cell, sizes_at, values_at, start_of, table_at, shape_rows, total_rows, tables_of, starts_of, Bounded}

pub length-tables_of : (shapes : List GridShape) (cells : List ℕ) → length (tables_of shapes cells) ≡ length shapes
length-tables_of [] cells = refl
length-tables_of (shape ∷ shapes) cells = ap suc (length-tables_of shapes _)

pub length-starts_of : (at : ℕ) (shapes : List GridShape) → length (starts_of at shapes) ≡ length shapes
length-starts_of at [] = refl
length-starts_of at (shape ∷ shapes) = ap suc (length-starts_of (at + shape_rows shape) shapes)

pub starts_of-at : (at : ℕ) (shapes : List GridShape) (t : ℕ) → t < length shapes → get_or (starts_of at shapes) t 0 ≡ at + start_of shapes t
starts_of-at at [] t h = absurd (omega arith)
starts_of-at at (shape ∷ shapes) zero h = omega arith
starts_of-at at (shape ∷ shapes) (suc t) h = omega (arith, starts_of-at (at + shape_rows shape) shapes t (omega arith))

-- table t, cut from the flat list
abbrev pub table_in : List GridShape → List ℕ → ℕ → CellTable
table_in shapes cells t = record { sizes = sizes_at shapes t; values = values_at shapes t; cells = take (rows_count (sizes_at shapes t)) (drop (start_of shapes t) cells) }

pub sizes_at-read : (shapes : List GridShape) (t : ℕ) (d : GridShape) → t < length shapes → (get_or shapes t d).sizes.items ≡ sizes_at shapes t
sizes_at-read [] t d h = absurd (omega arith)
sizes_at-read (shape ∷ shapes) zero d h = refl
sizes_at-read (shape ∷ shapes) (suc t) d h = sizes_at-read shapes t d (omega arith)

pub tables_of-at : (shapes : List GridShape) (cells : List ℕ) (t : ℕ) → t < length shapes → table_at (tables_of shapes cells) t ≡ table_in shapes cells t
tables_of-at [] cells t h = absurd (omega arith)
tables_of-at (shape ∷ shapes) cells zero h = refl
tables_of-at (shape ∷ shapes) cells (suc t) h =
    tables_of-at shapes (drop (shape_rows shape) cells) t (omega arith)
    ∙ ap (λ xs. record { sizes = sizes_at shapes t; values = values_at shapes t; cells = take (rows_count (sizes_at shapes t)) xs }) (drop-drop (start_of shapes t) (shape_rows shape) cells)

pub start_below : (shapes : List GridShape) (t : ℕ) → t < length shapes → start_of shapes t + rows_count (sizes_at shapes t) ≤ total_rows shapes
start_below [] t h = absurd (omega arith)
start_below (shape ∷ shapes) zero h = omega arith
start_below (shape ∷ shapes) (suc t) h = omega (arith, start_below shapes t (omega arith))

pub bounded_at : (shapes : List GridShape) (cells : List ℕ) (t : ℕ) (p : ℕ) → t < length shapes → Bounded shapes cells → p < rows_count (sizes_at shapes t) → get_or cells (start_of shapes t + p) 0 < bound_of (values_at shapes t)
bounded_at [] cells t p h b below = absurd (omega arith)
bounded_at (shape ∷ shapes) cells zero p h b below = let e : 0 + p ≡ p = omega arith in (rw e (b.0 p below))
bounded_at (shape ∷ shapes) cells (suc t) p h b below =
    let ih = bounded_at shapes (drop (shape_rows shape) cells) t p (omega arith) b.1 below in
    let e : shape_rows shape + start_of shapes t + p ≡ shape_rows shape + (start_of shapes t + p) = omega arith in
    (rw e (rw get_or-drop at ih))

drop-set_front : (cells : List ℕ) (n p v : ℕ) → p < n → drop n (set cells p v) ≡ drop n cells
drop-set_front cells n p v below = drop-set-lt n cells p v below

-- writing a cell of table t
pub tables_of-set : (shapes : List GridShape) (cells : List ℕ) (t : ℕ) (p v : ℕ) → t < length shapes → p < rows_count (sizes_at shapes t)
    → tables_of shapes (set cells (start_of shapes t + p) v) ≡ set (tables_of shapes cells) t (record { sizes = sizes_at shapes t; values = values_at shapes t; cells = set (take (rows_count (sizes_at shapes t)) (drop (start_of shapes t) cells)) p v })
tables_of-set [] cells t p v h below = absurd (omega arith)
tables_of-set (shape ∷ shapes) cells zero p v h below =
    let e : 0 + p ≡ p = omega arith in
    (rw (e, take-set-lt (shape_rows shape) cells p v below, drop-set_front cells (shape_rows shape) p v below) refl)
tables_of-set (shape ∷ shapes) cells (suc t) p v h below =
    let R = shape_rows shape in
    let S = start_of shapes t in
    let e : R + S + p ≡ R + (S + p) = omega arith in
    (rw (e, take-set-le R cells (R + (S + p)) v (omega arith), drop-set-add R cells (S + p) v, tables_of-set shapes (drop R cells) t p v (omega arith) below, drop-drop S R cells) refl)

bounded_write : (cells : List ℕ) (n bound p v : ℕ) → v < bound → ((k : ℕ) → k < n → get_or cells k 0 < bound) → (k : ℕ) → k < n → get_or (set cells p v) k 0 < bound
bounded_write cells n bound p v small b k below = grind (arith, common_steps, b k below)

unwritten : (cells : List ℕ) (n bound p v : ℕ) → ((k : ℕ) → k < n → get_or cells k 0 < bound) → (k : ℕ) → k < n → get_or (set cells (n + p) v) k 0 < bound
unwritten cells n bound p v b k below = let ne : k ≢ n + p = omega arith in (rw (get_or-set_other cells (n + p) k v 0 ne) (b k below))

pub bounded_set : (shapes : List GridShape) (cells : List ℕ) (t : ℕ) (p v : ℕ) → t < length shapes → p < rows_count (sizes_at shapes t) → v < bound_of (values_at shapes t) → Bounded shapes cells → Bounded shapes (set cells (start_of shapes t + p) v)
bounded_set [] cells t p v h below small b = absurd (omega arith)
bounded_set (shape ∷ shapes) cells zero p v h below small b =
    let e : 0 + p ≡ p = omega arith in
    (rw (e, drop-set_front cells (shape_rows shape) p v below) (bounded_write cells (shape_rows shape) (bound_of shape.values) p v small b.0, b.1))
bounded_set (shape ∷ shapes) cells (suc t) p v h below small b =
    let R = shape_rows shape in
    let S = start_of shapes t in
    let e : R + S + p ≡ R + (S + p) = omega arith in
    (rw (e, drop-set-add R cells (S + p) v) (unwritten cells R (bound_of shape.values) (S + p) v b.0, bounded_set shapes (drop R cells) t p v (omega arith) below small b.1))

-- what a read of start t gives
pub start_read : (shapes : List GridShape) (starts : List ℕ) (t : ℕ) → t < length shapes → starts ≡ starts_of 0 shapes → get_or starts t 0 ≡ start_of shapes t
start_read shapes starts t below kept = ap (λ (xs : List ℕ). get_or xs t 0) kept ∙ starts_of-at 0 shapes t below ∙ (let e : 0 + start_of shapes t ≡ start_of shapes t = omega arith in e)

-- a caller's table t, as the fields have it
pub record Seen (shapes : List GridShape) (cells : List ℕ) (tables : List CellTable) (t : ℕ) : Type 0 where
  pub below : t < length shapes
  pub is : table_at tables t ≡ table_in shapes cells t

pub seen : (shapes : List GridShape) (cells : List ℕ) (tables : List CellTable) (t : ℕ) → tables_of shapes cells ≡ tables → t < length tables → Seen shapes cells tables t
seen shapes cells tables t view_is h =
    let e = ap length view_is in
    let below : t < length shapes = omega (arith, length-tables_of shapes cells) in
    record { below = below; is = ap (λ (ts : List CellTable). table_at ts t) (sym view_is) ∙ tables_of-at shapes cells t below }

-- the tables after a write of one cell
pub written : (shapes : List GridShape) (cells : List ℕ) (tables : List CellTable) (t : ℕ) (row : List ℕ) (v : ℕ) → tables_of shapes cells ≡ tables → Seen shapes cells tables t → place (sizes_at shapes t) row < rows_count (sizes_at shapes t)
    → tables_of shapes (set cells (start_of shapes t + place (sizes_at shapes t) row) v) ≡ set tables t (with_cell (table_at tables t) row v)
written shapes cells tables t row v view_is s in_table =
    tables_of-set shapes cells t (place (sizes_at shapes t) row) v s.below in_table
    ∙ ap₂ (λ (ts : List CellTable) (x : CellTable). set ts t (with_cell x row v)) view_is (sym s.is)

pub cell_in : (shapes : List GridShape) (cells : List ℕ) (t : ℕ) (row : List ℕ) → place (sizes_at shapes t) row < rows_count (sizes_at shapes t) → get_or cells (start_of shapes t + place (sizes_at shapes t) row) 0 ≡ cell (table_in shapes cells t) row
cell_in shapes cells t row in_table =
    (rw (get_or-take (rows_count (sizes_at shapes t)) (drop (start_of shapes t) cells) (place (sizes_at shapes t) row) 0 in_table, get_or-drop) refl)

-- a write shows at its row
pub written_there : (tables : List CellTable) (t : ℕ) (row : List ℕ) (v : ℕ) → t < length tables → place (table_at tables t).sizes row < length (table_at tables t).cells → cell (table_at (set tables t (with_cell (table_at tables t) row v)) t) row ≡ v
written_there tables t row v below in_cells =
    let e = get_or-set_same tables t (with_cell (table_at tables t) row v) no_table below in
    (rw e (get_or-set_same _ _ v 0 in_cells))

other_row : (table : CellTable) (row r : List ℕ) (v : ℕ) → InRange table.sizes row → InRange table.sizes r → (r ≡ row → ⊥) → cell (with_cell table row v) r ≡ cell table r
other_row table row r v h k ne = get_or-set_other table.cells (place table.sizes row) (place table.sizes r) v 0 (λ e. ne (place_injective table.sizes r row k h e))

-- and at no other row, nor in another table
pub written_alone : (tables : List CellTable) (t : ℕ) (row : List ℕ) (v : ℕ) → t < length tables → InRange (table_at tables t).sizes row → (u : ℕ) (r : List ℕ) → InRange (table_at tables u).sizes r → ((u ≡ t) × (r ≡ row) → ⊥)
    → cell (table_at (set tables t (with_cell (table_at tables t) row v)) u) r ≡ cell (table_at tables u) r
written_alone tables t row v below in_t u r in_u ne = elim (cases_eq u t) [
  | inl same ↦
      let e = get_or-set_at tables t u (with_cell (table_at tables t) row v) no_table same below in
      let in_r = rw same at in_u in
      (rw e (rw same (other_row (table_at tables t) row r v in_t in_r (λ x. ne (same, x)))))
  | inr other ↦ ap (λ (x : CellTable). cell x r) (get_or-set_other tables t u (with_cell (table_at tables t) row v) no_table other)
]

pub written_shapes : (tables : List CellTable) (t : ℕ) (row : List ℕ) (v : ℕ) (u : ℕ) → t < length tables
    → ((table_at (set tables t (with_cell (table_at tables t) row v)) u).sizes ≡ (table_at tables u).sizes) × ((table_at (set tables t (with_cell (table_at tables t) row v)) u).values ≡ (table_at tables u).values)
written_shapes tables t row v u below = elim (cases_eq u t) [
  | inl same ↦
      let e = get_or-set_at tables t u (with_cell (table_at tables t) row v) no_table same below in
      (rw (e, same) (refl, refl))
  | inr other ↦
      let e = get_or-set_other tables t u (with_cell (table_at tables t) row v) no_table other in
      (rw e (refl, refl))
]

-- a table has as many cells as rows
pub length_in : (shapes : List GridShape) (cells : List ℕ) (t : ℕ) → t < length shapes → length cells ≡ total_rows shapes → length (table_in shapes cells t).cells ≡ rows_count (sizes_at shapes t)
length_in shapes cells t below len = length-take-le (rows_count (sizes_at shapes t)) (drop (start_of shapes t) cells) (omega (arith, length-drop (start_of shapes t) cells, start_below shapes t below))

abbrev zeros : ℕ → List ℕ
zeros n = replicate n 0

zeros_at : (k n i d : ℕ) → i < k + n - k → get_or (drop k (zeros (k + n))) i d ≡ get_or (zeros n) i d
zeros_at k n i d h = (rw (get_or-drop, get_or-replicate {A = ℕ} (k + n) (k + i) 0 d (omega arith), get_or-replicate {A = ℕ} n i 0 d (omega arith)) refl)

drop_zeros : (k n : ℕ) → drop k (zeros (k + n)) ≡ zeros n
drop_zeros k n = same_lists _ _ (simp (length-drop, length-replicate) (omega arith)) (λ i d h. zeros_at k n i d (simp (length-drop, length-replicate) at h))

-- zeros are below every bound
pub bounded_blank : (shapes : List GridShape) → AllPositive shapes → Bounded shapes (replicate (total_rows shapes) 0)
bounded_blank [] p = tt
bounded_blank (shape ∷ shapes) p =
    (λ k below. (rw (get_or-replicate {A = ℕ} (shape_rows shape + total_rows shapes) k 0 0 (omega arith)) p.0), (rw (drop_zeros (shape_rows shape) (total_rows shapes)) (bounded_blank shapes p.1)))

-- zeros, cut into tables
pub tables_of-blank : (shapes : List GridShape) → tables_of shapes (replicate (total_rows shapes) 0) ≡ blank_tables shapes
tables_of-blank [] = refl
tables_of-blank (shape ∷ shapes) =
    (rw (take-replicate {X = ℕ} (shape_rows shape) (shape_rows shape + total_rows shapes) 0 (omega arith), drop_zeros (shape_rows shape) (total_rows shapes), tables_of-blank shapes) refl)

pub same_tables_of : (xs ys : List GridShape) (cells : List ℕ) → SameShapes xs ys → tables_of xs cells ≡ tables_of ys cells
same_tables_of [] [] cells h = refl
same_tables_of [] (y ∷ ys) cells h = absurd h
same_tables_of (x ∷ xs) [] cells h = absurd h
same_tables_of (x ∷ xs) (y ∷ ys) cells h = (rw (h.0.0, h.0.1, same_tables_of xs ys (drop (shape_rows y) cells) h.1) refl)

pub same_starts_of : (xs ys : List GridShape) (at : ℕ) → SameShapes xs ys → starts_of at xs ≡ starts_of at ys
same_starts_of [] [] at h = refl
same_starts_of [] (y ∷ ys) at h = absurd h
same_starts_of (x ∷ xs) [] at h = absurd h
same_starts_of (x ∷ xs) (y ∷ ys) at h = (rw (h.0.0, same_starts_of xs ys (at + shape_rows y) h.1) refl)

pub same_total : (xs ys : List GridShape) → SameShapes xs ys → total_rows xs ≡ total_rows ys
same_total [] [] h = refl
same_total [] (y ∷ ys) h = absurd h
same_total (x ∷ xs) [] h = absurd h
same_total (x ∷ xs) (y ∷ ys) h = (rw (h.0.0, same_total xs ys h.1) refl)

pub same_bounded : (xs ys : List GridShape) (cells : List ℕ) → SameShapes xs ys → Bounded ys cells → Bounded xs cells
same_bounded [] [] cells h b = tt
same_bounded [] (y ∷ ys) cells h b = absurd h
same_bounded (x ∷ xs) [] cells h b = absurd h
same_bounded (x ∷ xs) (y ∷ ys) cells h b = (rw (h.0.0, h.0.1) (b.0, same_bounded xs ys (drop (shape_rows y) cells) h.1 b.1))

pub SameShapes-push : (xs ys : List GridShape) (x y : GridShape) → SameShapes xs ys → x.sizes.items ≡ y.sizes.items → x.values ≡ y.values → SameShapes (xs ++ x ∷ []) (ys ++ y ∷ [])
SameShapes-push [] [] x y h e f = ((e, f), tt)
SameShapes-push [] (z ∷ ys) x y h e f = absurd h
SameShapes-push (z ∷ xs) [] x y h e f = absurd h
SameShapes-push (w ∷ xs) (z ∷ ys) x y h e f = (h.0, SameShapes-push xs ys x y h.1 e f)
