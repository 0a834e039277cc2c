-- The Kripke structure with nothing written, and the tables of its classical signature.
use Rattle.std.proofs.Common.{◌≡◌, ℕ, zero, suc, ◌+◌, ◌<◌, ◌≤◌, Bool, true, false, List, [], ◌∷◌, ◌++◌, map, length, min, get_or, Option, None, Some, refl, sym, ◌∙◌, ap, inl, inr, arith}
use Rattle.std.specs.Prelude.{if◌then◌else◌}
use Rattle.std.specs.Option.{option_map}
use Rattle.std.proofs.lemmas.Bool.{cases_Bool}
use Rattle.std.proofs.lemmas.List.{length-map, length-append, get_or-map, get_or_append_left, get_or-append-add}
use Rattle.nxf_tree.specs.declared.tree.Signature.{Signature}
use Rattle.nxf_tree.specs.declared.tree.IndexEntry.{IndexEntry}
use Rattle.nxf_tree.specs.declared.tree.SortEntry.{SortEntry}
use Rattle.nxf_tree.specs.declared.tree.SymbolEntry.{SymbolEntry}
use Rattle.nxf_tree.specs.declared.tree.TableEntry.{TableEntry}
use Rattle.nxf_tree.specs.Names.{user_sort}
use Rattle.nxf_tree.specs.Signature.{constant_regime, takes_world, sort_names, existence_sorts}
use Rattle.nxf_tree.specs.Rows.{Shape, size_at, AreSizes}
use Rattle.nxf_tree.specs.Structures.{relation_shapes, existence_shapes, symbol_shape, symbol_shapes, table_shape, table_shapes}
use Rattle.nxf_tree.specs.ClassicalSignature.{classical_signature_of, relation_entries, existence_entries, symbol_entries}
use Rattle.nxf_tree.specs.WellFormed.{IsWellFormed}
use Rattle.classical_signature_laws.proofs.ClassicalSorts.{is-classical, has-sorts}
use Rattle.fin_struct.specs.declared.grid.GridShape.{GridShape}
use Rattle.fin_struct.specs.Cells.{CellTable, no_table, table_at, grid_shape, blank_tables, total_rows, AllPositive}
use Rattle.fin_struct.specs.RowLists.{shape_of, shapes_of, blanks, AreFilled}
use Rattle.fin_struct.specs.Limits.{cells_in, cells_of, IsWithin}
use Rattle.fin_struct.specs.KripkeTables.{IsKripke, IsKripkeFor, AreNumbered, pairs_shape, numbers_from, kripke_shapes, with_tables, blank_kripke, others_of}
use Rattle.fin_struct.proofs.StructureLemmas.{Positive, positive-classical, all_positive, total_cells, blanks_made, shapes_blank, blanks_filled}
use Rattle.fin_struct.proofs.KripkeTableLemmas.{existence-count}

-- the tables of the classical signature have the shapes of those of the Kripke structure
relations-there : (n : ℕ) (ns : List ℕ) (entries : List IndexEntry) → table_shapes (n ∷ ns) (relation_entries entries) ≡ relation_shapes n entries
relations-there n ns [] = refl
relations-there n ns (entry ∷ entries) = ap (λ (rest : List Shape). pairs_shape n n ∷ rest) (relations-there n ns entries)

existence-there : (n : ℕ) (ns : List ℕ) (k : ℕ) (entries : List SortEntry) → table_shapes (n ∷ ns) (existence_entries k entries) ≡ existence_shapes n ns k entries
existence-there n ns k [] = refl
existence-there n ns k (entry ∷ entries) = elim (cases_Bool (constant_regime entry.regime)) [
  | inl constant ↦ (rw constant (existence-there n ns (suc k) entries))
  | inr varying ↦ (rw varying (ap (λ (rest : List Shape). pairs_shape n (size_at ns k) ∷ rest) (existence-there n ns (suc k) entries)))
]

sizes-up : (n : ℕ) (ns args : List ℕ) → map (size_at (n ∷ ns)) (map suc args) ≡ map (size_at ns) args
sizes-up n ns [] = refl
sizes-up n ns (k ∷ args) = ap (λ (rest : List ℕ). size_at ns k ∷ rest) (sizes-up n ns args)

values-up : (n : ℕ) (ns : List ℕ) (gives : Option ℕ) → option_map (size_at (n ∷ ns)) (option_map suc gives) ≡ option_map (size_at ns) gives
values-up n ns None = refl
values-up n ns (Some k) = refl

row-up : (b : Bool) (n : ℕ) (ns args : List ℕ) → map (size_at (n ∷ ns)) (if b then 0 ∷ map suc args else map suc args) ≡ (if b then n ∷ map (size_at ns) args else map (size_at ns) args)
row-up true n ns args = ap (λ (rest : List ℕ). n ∷ rest) (sizes-up n ns args)
row-up false n ns args = sizes-up n ns args

symbols-there : (n : ℕ) (ns : List ℕ) (entries : List SymbolEntry) → table_shapes (n ∷ ns) (symbol_entries entries) ≡ symbol_shapes n ns entries
symbols-there n ns [] = refl
symbols-there n ns (entry ∷ entries) =
    λ i. record { sizes = row-up (takes_world entry) n ns entry.args i; values = values-up n ns entry.gives i } ∷ symbols-there n ns entries i

shapes-append : (sizes : List ℕ) (xs ys : List TableEntry) → table_shapes sizes (xs ++ ys) ≡ table_shapes sizes xs ++ table_shapes sizes ys
shapes-append sizes [] ys = refl
shapes-append sizes (x ∷ xs) ys = ap (λ (rest : List Shape). table_shape sizes x ∷ rest) (shapes-append sizes xs ys)

pub classical-shapes : (sig : Signature) (n : ℕ) (ns : List ℕ) → table_shapes (n ∷ ns) (classical_signature_of sig).tables ≡ kripke_shapes sig n ns
classical-shapes sig n ns =
    shapes-append (n ∷ ns) (relation_entries sig.indexes) (existence_entries 0 sig.sorts ++ symbol_entries sig.symbols)
    ∙ (λ i. relations-there n ns sig.indexes i ++ shapes-append (n ∷ ns) (existence_entries 0 sig.sorts) (symbol_entries sig.symbols) i)
    ∙ (λ i. relation_shapes n sig.indexes ++ (existence-there n ns 0 sig.sorts i ++ symbols-there n ns sig.symbols i))

-- the count of cells
pub classical-cells : (sig : Signature) (sizes : List ℕ) → AreSizes (classical_signature_of sig).sorts sizes → cells_of (classical_signature_of sig) sizes ≡ min (cells_in (kripke_shapes sig (size_at sizes 0) (others_of sizes))) 18446744073709551615
classical-cells sig [] h = absurd h
classical-cells sig (n ∷ ns) h = ap (λ (shapes : List Shape). min (cells_in shapes) 18446744073709551615) (classical-shapes sig n ns)

pub sizes-under : {A B : Type 0} (f : A → B) (xs : List A) (ns : List ℕ) → AreSizes (map f xs) ns → AreSizes xs ns
sizes-under f [] [] h = tt
sizes-under f [] (n ∷ ns) h = absurd h
sizes-under f (x ∷ xs) [] h = absurd h
sizes-under f (x ∷ xs) (n ∷ ns) h = (h.0, sizes-under f xs ns h.1)

-- the numbers of the tables of existence
pub numbered : (entries : List SortEntry) (from : ℕ) → AreNumbered from (from + length (existence_sorts entries)) (numbers_from from entries)
numbered [] from = omega arith
numbered (entry ∷ entries) from = elim (cases_Bool (constant_regime entry.regime)) [
  | inl constant ↦ (rw constant (numbered entries from))
  | inr varying ↦
      let e : suc from + length (existence_sorts entries) ≡ from + suc (length (existence_sorts entries)) = omega arith in
      let rest = rw e at (numbered entries (suc from)) in
      (rw varying (refl, rest))
]

record ShapeAt (shapes : List Shape) (from t : ℕ) (shape : Shape) : Type 0 where
  pub place : ℕ
  pub at : t ≡ from + place
  pub below : place < length shapes
  pub is : get_or shapes place (shape_of no_table) ≡ shape

existence-at : (w : ℕ) (sizes : List ℕ) (entries : List SortEntry) (k from s t : ℕ) → get_or (numbers_from from entries) s None ≡ Some t → ShapeAt (existence_shapes w sizes k entries) from t (pairs_shape w (size_at sizes (k + s)))
existence-at w sizes [] k from s t e = absurd cc
existence-at w sizes (entry ∷ entries) k from zero t e = elim (cases_Bool (constant_regime entry.regime)) [
  | inl constant ↦ let none = rw constant at e in absurd (cc none)
  | inr varying ↦
      let number = rw varying at e in
      let same : from ≡ t = cc number in
      let last : k ≡ k + 0 = omega arith in
      (rw varying (record { place = 0; at = omega (arith, same); below = omega arith; is = ap (λ (j : ℕ). pairs_shape w (size_at sizes j)) last }))
]
existence-at w sizes (entry ∷ entries) k from (suc s) t e =
    let next : suc k + s ≡ k + suc s = omega arith in
    elim (cases_Bool (constant_regime entry.regime)) [
      | inl constant ↦
          let number = rw constant at e in
          let there = rw next at (existence-at w sizes entries (suc k) from s t number) in
          (rw constant there)
      | inr varying ↦
          let number = rw varying at e in
          let there = rw next at (existence-at w sizes entries (suc k) (suc from) s t number) in
          (rw varying (record { place = suc there.place; at = omega (arith, there.at); below = omega (arith, there.below); is = there.is }))
    ]

pairs-at : (n : ℕ) (entries : List IndexEntry) (i : ℕ) (d : Shape) → i < length entries → get_or (relation_shapes n entries) i d ≡ pairs_shape n n
pairs-at n [] i d h = absurd (omega arith)
pairs-at n (entry ∷ entries) zero d h = refl
pairs-at n (entry ∷ entries) (suc i) d h = pairs-at n entries i d (omega arith)

table-shape : (tables : List CellTable) (t : ℕ) → t < length tables → shape_of (table_at tables t) ≡ get_or (shapes_of tables) t (shape_of no_table)
table-shape tables t h = sym (get_or-map shape_of tables t no_table (shape_of no_table) h)

-- tables in the shapes of a signature make a structure
pub tables-are-kripke : (sig : Signature) (n actual : ℕ) (ns : List ℕ) (tables : List CellTable) → shapes_of tables ≡ kripke_shapes sig n ns → actual < n → IsWithin n (cells_in (shapes_of tables)) → AreFilled tables → IsKripke (with_tables sig n actual ns tables)
tables-are-kripke sig n actual ns tables shapes in_worlds within filled =
    let front = relation_shapes n sig.indexes in
    let middle = existence_shapes n ns 0 sig.sorts in
    let last = symbol_shapes n ns sig.symbols in
    let none = shape_of no_table in
    let fronts : length front ≡ length sig.indexes = length-map sig.indexes (λ (e : IndexEntry). pairs_shape n n) in
    let count : length tables ≡ length (front ++ (middle ++ last)) = sym (length-map tables shape_of) ∙ ap length shapes in
    let there : (t : ℕ) → t < length tables → shape_of (table_at tables t) ≡ get_or (front ++ (middle ++ last)) t none = λ t h. table-shape tables t h ∙ ap (λ (ss : List Shape). get_or ss t none) shapes in
    record {
      actual_in = in_worlds;
      within = within;
      filled = filled;
      relations = λ i below.
          let in_front : i < length front = omega (arith, fronts) in
          there i (omega (arith, count, length-append front (middle ++ last)))
          ∙ get_or_append_left front (middle ++ last) none i in_front
          ∙ pairs-at n sig.indexes i none below;
      numbered = numbered sig.sorts (length sig.indexes);
      existing = λ s t e.
          let found = existence-at n ns sig.sorts 0 (length sig.indexes) s t e in
          let sort : 0 + s ≡ s = omega arith in
          let is = rw sort at found.is in
          let at : t ≡ length front + found.place = omega (arith, found.at, fronts) in
          there t (omega (arith, count, at, found.below, length-append front (middle ++ last), length-append middle last))
          ∙ ap (λ (j : ℕ). get_or (front ++ (middle ++ last)) j none) at
          ∙ get_or-append-add front (middle ++ last) found.place none
          ∙ get_or_append_left middle last none found.place found.below
          ∙ is;
      symbols = omega (arith, count, fronts, length-append front (middle ++ last), length-append middle last, existence-count n ns 0 sig.sorts, length-map sig.symbols takes_world, length-map sig.symbols (symbol_shape n ns));
    }

-- the structure with nothing written is one
pub blank-is-kripke : (sig : Signature) (n : ℕ) (ns : List ℕ) → IsWellFormed sig → AreSizes (classical_signature_of sig).sorts (n ∷ ns) → IsWithin n (cells_in (kripke_shapes sig n ns)) → IsKripke (blank_kripke sig n ns)
blank-is-kripke sig n ns well h within =
    let positive : Positive (kripke_shapes sig n ns) = rw (classical-shapes sig n ns) at (positive-classical (classical_signature_of sig) (n ∷ ns) (has-sorts sig (classical_signature_of sig) (is-classical sig well)) h) in
    let same = shapes_blank (kripke_shapes sig n ns) in
    tables-are-kripke sig n 0 ns (blanks (kripke_shapes sig n ns)) same h.0 (rw same within) (blanks_filled (kripke_shapes sig n ns) positive)

pub blank-is-for : (sig : Signature) (n : ℕ) (ns : List ℕ) → AreSizes (classical_signature_of sig).sorts (n ∷ ns) → IsKripkeFor sig (blank_kripke sig n ns)
blank-is-for sig n ns h = record {
  sorts = sizes-under (λ (e : SortEntry). e.name) sig.sorts ns (sizes-under user_sort (sort_names sig.sorts) ns h.1);
  indexes = refl;
  existence = refl;
  world_first = refl;
  shapes = shapes_blank (kripke_shapes sig n ns);
}

-- the parts that are made are those of the structure with nothing written
pub made-kripke : (sig : Signature) (n : ℕ) (ns items : List ℕ) (indexes : ℕ) (existence : List (Option ℕ)) (first : ℕ) (columns : List Bool) (tables : List CellTable) (shapes : List GridShape)
    → items ≡ ns → indexes ≡ length sig.indexes → existence ≡ numbers_from (length sig.indexes) sig.sorts → first ≡ length sig.indexes + length (existence_sorts sig.sorts) → columns ≡ map takes_world sig.symbols
    → tables ≡ blank_tables shapes → map grid_shape shapes ≡ kripke_shapes sig n ns
    → blank_kripke sig n ns ≡ record { worlds = n; actual = 0; sizes = items; indexes = indexes; existence = existence; first_symbol = first; world_first = columns; tables = tables }
made-kripke sig n ns items indexes existence first columns tables shapes a b c d e f g =
    let all : blanks (kripke_shapes sig n ns) ≡ tables = sym (f ∙ blanks_made shapes ∙ ap blanks g) in
    let a2 = sym a in
    let b2 = sym b in
    let c2 = sym c in
    let d2 = sym d in
    let e2 = sym e in
    (λ i. record { worlds = n; actual = 0; sizes = a2 i; indexes = b2 i; existence = c2 i; first_symbol = d2 i; world_first = e2 i; tables = all i })

-- what the grid asks of the shapes
pub shapes-positive : (sig : Signature) (n : ℕ) (ns : List ℕ) (shapes : List GridShape) → map grid_shape shapes ≡ kripke_shapes sig n ns → IsWellFormed sig → AreSizes (classical_signature_of sig).sorts (n ∷ ns) → AllPositive shapes
shapes-positive sig n ns shapes e well h =
    all_positive shapes (kripke_shapes sig n ns) e (rw (classical-shapes sig n ns) at (positive-classical (classical_signature_of sig) (n ∷ ns) (has-sorts sig (classical_signature_of sig) (is-classical sig well)) h))

pub shapes-small : (sig : Signature) (n : ℕ) (ns : List ℕ) (shapes : List GridShape) → map grid_shape shapes ≡ kripke_shapes sig n ns → IsWithin n (cells_in (kripke_shapes sig n ns)) → total_rows shapes ≤ 4194304
shapes-small sig n ns shapes e within = omega (arith, total_cells shapes ∙ ap cells_in e, within.few_cells)
