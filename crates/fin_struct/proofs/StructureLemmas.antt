-- Structures as contracts see them, against those of the definitions.
use Rattle.std.proofs.Common.{◌≡◌, ℕ, zero, suc, ◌+◌, ◌<◌, ◌≤◌, inl, inr, List, [], ◌∷◌, map, length, set, get_or, Option, None, Some, refl, sym, ◌∙◌, ap, arith, length-set}
use Rattle.std.specs.Option.{option_map}
use Rattle.std.proofs.lemmas.Bool.{cases_eq}
use Rattle.std.proofs.lemmas.Grind.{get_or-set_at}
use Rattle.std.proofs.lemmas.List.{get_or-set_other, length-replicate, get_or-replicate}
use Rattle.nxf_tree.specs.declared.tree.ClassicalSignature.{ClassicalSignature}
use Rattle.nxf_tree.specs.declared.tree.TableEntry.{TableEntry}
use Rattle.nxf_tree.specs.Rows.{Shape, size_at, AreSizes, AreTables}
use Rattle.nxf_tree.specs.Structures.{table_shapes}
use Rattle.classical_signature_laws.specs.ClassicalSignatures.{GivesBelow, HasSorts}
use Rattle.fin_struct.specs.declared.grid.GridShape.{GridShape}
use Rattle.fin_struct.specs.Places.{rows_count, place, InRange}
use Rattle.fin_struct.specs.Cells.{CellTable, bound_of, grid_shape, no_table, cell, with_cell, table_at, total_rows, shape_rows, blank_tables, AllPositive}
use Rattle.fin_struct.specs.RowLists.{entry, listed, shape_of, IsFilled, AreFilled, shapes_of, blank, blanks}
use Rattle.fin_struct.specs.Limits.{cells_in, cells_of, IsWithin}
use Rattle.fin_struct.specs.StructureTables.{StructureTables, IsStructure, IsFor, blank_structure, StructureLaw}
use Rattle.fin_struct.proofs.RowListsLemmas.{lists-fit, lists-tell}

pub filled_tail : (table : CellTable) (tables : List CellTable) → AreFilled (table ∷ tables) → AreFilled tables
filled_tail table tables f t h = f (suc t) (omega arith)

pub are-tables : (tables : List CellTable) → AreFilled tables → AreTables (shapes_of tables) (map listed tables)
are-tables [] f = tt
are-tables (table ∷ tables) f = (lists-fit table (f 0 (omega arith)), are-tables tables (filled_tail table tables f))

pub structure-law : StructureLaw
structure-law csig view s o = record {
  actual = s.actual_in;
  sizes = o.sorts;
  tables = rw o.shapes at (are-tables view.tables s.filled);
}

-- each size is at least 1
pub size_positive : {A : Type 0} (sorts : List A) (sizes : List ℕ) (k : ℕ) → AreSizes sorts sizes → k < length sorts → 0 < size_at sizes k
size_positive [] sizes k h below = absurd (omega arith)
size_positive (sort ∷ sorts) [] k h below = absurd h
size_positive (sort ∷ sorts) (size ∷ sizes) zero h below = h.0
size_positive (sort ∷ sorts) (size ∷ sizes) (suc k) h below = size_positive sorts sizes k h.1 (omega arith)

-- each shape has room for the number 0
abbrev pub Positive : List Shape → Type 0
Positive [] = Unit {0}
Positive (shape ∷ shapes) = (0 < bound_of shape.values) × Positive shapes

values_positive : (n : ℕ) (sizes : List ℕ) (gives : Option ℕ) → ((k : ℕ) → k < n → 0 < size_at sizes k) → GivesBelow n gives → 0 < bound_of (option_map (size_at sizes) gives)
values_positive n sizes None p h = omega arith
values_positive n sizes (Some sort) p h = p sort h

tables_positive : (n : ℕ) (sizes : List ℕ) (entries : List TableEntry) → ((k : ℕ) → k < n → 0 < size_at sizes k) → ((t : ℕ) (d : TableEntry) → t < length entries → GivesBelow n (get_or entries t d).gives) → Positive (table_shapes sizes entries)
tables_positive n sizes [] p h = tt
tables_positive n sizes (entry ∷ entries) p h =
    (values_positive n sizes entry.gives p (h 0 entry (omega arith)), tables_positive n sizes entries p (λ t d below. h (suc t) d (omega arith)))

pub positive-classical : (csig : ClassicalSignature) (sizes : List ℕ) → HasSorts csig → AreSizes csig.sorts sizes → Positive (table_shapes sizes csig.tables)
positive-classical csig sizes has h = tables_positive (length csig.sorts) sizes csig.tables (λ k below. size_positive csig.sorts sizes k h below) has.values

pub all_positive : (shapes : List GridShape) (others : List Shape) → map grid_shape shapes ≡ others → Positive others → AllPositive shapes
all_positive [] others e p = tt
all_positive (shape ∷ shapes) others e p =
    let q = rw (sym e) at p in
    (q.0, all_positive shapes (map grid_shape shapes) refl q.1)

pub total_cells : (shapes : List GridShape) → total_rows shapes ≡ cells_in (map grid_shape shapes)
total_cells [] = refl
total_cells (shape ∷ shapes) = ap (λ n. shape_rows shape + n) (total_cells shapes)

pub blanks_made : (shapes : List GridShape) → blank_tables shapes ≡ blanks (map grid_shape shapes)
blanks_made [] = refl
blanks_made (shape ∷ shapes) = ap (λ rest. blank (grid_shape shape) ∷ rest) (blanks_made shapes)

pub shapes_blank : (shapes : List Shape) → shapes_of (blanks shapes) ≡ shapes
shapes_blank [] = refl
shapes_blank (shape ∷ shapes) = ap (λ rest. shape ∷ rest) (shapes_blank shapes)

blank_filled : (shape : Shape) → 0 < bound_of shape.values → IsFilled (blank shape)
blank_filled shape p = record {
  count = length-replicate _ _;
  below = λ k h. (rw (get_or-replicate {A = ℕ} (rows_count shape.sizes) k 0 0 (omega (arith, length-replicate {A = ℕ} (rows_count shape.sizes) 0))) p);
}

pub blanks_filled : (shapes : List Shape) → Positive shapes → AreFilled (blanks shapes)
blanks_filled [] p t h = absurd (omega arith)
blanks_filled (shape ∷ shapes) p zero h = blank_filled shape p.0
blanks_filled (shape ∷ shapes) p (suc t) h = blanks_filled shapes p.1 t (omega arith)

-- a table stays filled where a cell is written
write_filled : (table : CellTable) (row : List ℕ) (v : ℕ) → IsFilled table → v < bound_of table.values → IsFilled (with_cell table row v)
write_filled table row v f small = record {
  count = length-set _ _ _ ∙ f.count;
  below = λ k h. elim (cases_eq k (place table.sizes row)) [
    | inl same ↦ (rw (get_or-set_at table.cells (place table.sizes row) k v 0 same (omega (arith, length-set table.cells (place table.sizes row) v))) small)
    | inr other ↦ (rw (get_or-set_other table.cells (place table.sizes row) k v 0 other) (f.below k (omega (arith, length-set table.cells (place table.sizes row) v))))
  ];
}

pub written_filled : (tables : List CellTable) (t : ℕ) (row : List ℕ) (v : ℕ) → t < length tables → AreFilled tables → v < bound_of (table_at tables t).values → AreFilled (set tables t (with_cell (table_at tables t) row v))
written_filled tables t row v below f small u h =
    let len = length-set tables t (with_cell (table_at tables t) row v) in
    elim (cases_eq u t) [
      | inl same ↦ (rw (get_or-set_at tables t u (with_cell (table_at tables t) row v) no_table same below) (write_filled (table_at tables t) row v (f t below) small))
      | inr other ↦ (rw (get_or-set_other tables t u (with_cell (table_at tables t) row v) no_table other) (f u (omega (arith, len))))
    ]

-- and no shape changes
pub written_shapes_of : (tables : List CellTable) (t : ℕ) (row : List ℕ) (v : ℕ) → shapes_of (set tables t (with_cell (table_at tables t) row v)) ≡ shapes_of tables
written_shapes_of [] t row v = refl
written_shapes_of (table ∷ tables) zero row v = refl
written_shapes_of (table ∷ tables) (suc t) row v = ap (λ rest. shape_of table ∷ rest) (written_shapes_of tables t row v)

-- what is read from a table is what its list has
pub read_listed : (tables others : List CellTable) (t : ℕ) (row : List ℕ) (v : ℕ) → tables ≡ others → AreFilled tables → t < length others → InRange (table_at others t).sizes row → v ≡ cell (table_at tables t) row → v ≡ entry (listed (table_at others t)) row
read_listed tables others t row v e f below h read =
    let f2 = rw e at f in
    let read2 = rw e at read in
    read2 ∙ sym (lists-tell (table_at others t) row (f2 t below) h)

abbrev pub structure_view : ℕ → List ℕ → List CellTable → StructureTables
structure_view actual sizes tables = record { actual = actual; sizes = sizes; tables = tables }

-- a structure stays one where a cell is written
pub written_structure : (actual : ℕ) (sizes : List ℕ) (tables new : List CellTable) (now : StructureTables) (t : ℕ) (row : List ℕ) (v : ℕ) → IsStructure (structure_view actual sizes tables) → structure_view actual sizes tables ≡ now → t < length now.tables → v < bound_of (table_at now.tables t).values → new ≡ set tables t (with_cell (table_at tables t) row v) → IsStructure (structure_view actual sizes new)
written_structure actual sizes tables new now t row v s view_is below small e =
    let back : now.tables ≡ tables = sym (ap (λ (view : StructureTables). view.tables) view_is) in
    let below2 = rw back at below in
    let small2 = rw back at small in
    let shapes : shapes_of new ≡ shapes_of tables = ap shapes_of e ∙ written_shapes_of tables t row v in
    record {
      actual_in = s.actual_in;
      within = rw shapes s.within;
      filled = rw e (written_filled tables t row v below2 s.filled small2);
    }

-- the structure with all cells 0
pub blank_fits : (csig : ClassicalSignature) (sizes : List ℕ) (view : StructureTables) → view ≡ blank_structure csig sizes → HasSorts csig → AreSizes csig.sorts sizes → IsWithin (size_at sizes 0) (cells_of csig sizes) → IsStructure view
blank_fits csig sizes view e has h within =
    let shapes = shapes_blank (table_shapes sizes csig.tables) in
    let few : cells_in (table_shapes sizes csig.tables) ≤ 4194304 = omega (arith, within.few_cells) in
    let small : cells_in (shapes_of (blanks (table_shapes sizes csig.tables))) ≤ 4194304 = (rw shapes few) in
    let made : IsStructure (blank_structure csig sizes) = record {
      actual_in = size_positive csig.sorts sizes 0 h has.some_sort;
      within = record { few_worlds = within.few_worlds; few_cells = small };
      filled = blanks_filled (table_shapes sizes csig.tables) (positive-classical csig sizes has h);
    } in
    (rw e made)

pub blank_is_for : (csig : ClassicalSignature) (sizes : List ℕ) (view : StructureTables) → view ≡ blank_structure csig sizes → AreSizes csig.sorts sizes → IsFor csig view
blank_is_for csig sizes view e h =
    let made : IsFor csig (blank_structure csig sizes) = record { sorts = h; shapes = shapes_blank (table_shapes sizes csig.tables) } in
    (rw e made)

pub made_blank : (csig : ClassicalSignature) (sizes items : List ℕ) (tables : List CellTable) (shapes : List GridShape) → items ≡ sizes → tables ≡ blank_tables shapes → map grid_shape shapes ≡ table_shapes sizes csig.tables → structure_view 0 items tables ≡ blank_structure csig sizes
made_blank csig sizes items tables shapes e f g =
    ap (λ (z : List ℕ). structure_view 0 z tables) e
    ∙ ap (λ (z : List CellTable). structure_view 0 sizes z) (f ∙ blanks_made shapes ∙ ap blanks g)

pub small_total : (csig : ClassicalSignature) (sizes : List ℕ) (shapes : List GridShape) → map grid_shape shapes ≡ table_shapes sizes csig.tables → IsWithin (size_at sizes 0) (cells_of csig sizes) → total_rows shapes ≤ 4194304
small_total csig sizes shapes e within =
    let total = total_cells shapes ∙ ap cells_in e in
    omega (arith, total, within.few_cells)
