-- The structures of the two kinds that correspond: their lists of rows are those of their tables, one after the other.
use Rattle.std.proofs.Common.{◌≡◌, ℕ, zero, suc, ◌+◌, ◌<◌, ◌≤◌, Bool, List, [], ◌∷◌, ◌++◌, map, length, take, drop, get_or, Option, None, Some, refl, sym, ◌∙◌, ap, ap₂, arith}
use Rattle.std.proofs.Math.Seq.{drop-cons}
use Rattle.nxf_tree.specs.declared.tree.Signature.{Signature}
use Rattle.nxf_tree.specs.declared.tree.SortEntry.{SortEntry}
use Rattle.nxf_tree.specs.Names.{user_sort}
use Rattle.nxf_tree.specs.Signature.{takes_world, sort_names, existence_sorts}
use Rattle.nxf_tree.specs.Rows.{Table, Rows, Shape, AreSizes, size_at, all_rows}
use Rattle.nxf_tree.specs.ClassicalSignature.{classical_signature_of}
use Rattle.nxf_tree.specs.Structures.{table_shapes, tables_with}
use Rattle.fin_struct.specs.Cells.{CellTable, no_table, table_at}
use Rattle.fin_struct.specs.RowLists.{true_rows, rows_of, listed, shapes_of}
use Rattle.fin_struct.specs.StructureTables.{StructureTables, IsStructure, IsFor}
use Rattle.fin_struct.specs.KripkeTables.{KripkeTables, IsKripke, IsKripkeFor, AreNumbered, existing_rows, numbers_from, kripke_shapes, others_of, kripke_structure}
use Rattle.fin_struct.specs.Corresponding.{Agree, lowered, lifted}
use Rattle.fin_struct.proofs.BlankKripke.{classical-shapes, sizes-under, numbered, tables-are-kripke}
use Rattle.fin_struct.proofs.KripkeLemmas.{numbers_end}
use Rattle.fin_struct.proofs.StructureLemmas.{structure_view}

-- a predicate's list
listed-rows : (table : CellTable) → table.values ≡ None → listed table ≡ Rows (true_rows table)
listed-rows table e = ap (λ (v : Option ℕ). rows_of v (all_rows table.sizes) table.cells) e

front-listed : (tables : List CellTable) (n : ℕ) → ((i : ℕ) → i < n → (table_at tables i).values ≡ None) → n ≤ length tables → map Rows (map true_rows (take n tables)) ++ map listed (drop n tables) ≡ map listed tables
front-listed [] zero none h = refl
front-listed [] (suc n) none h = absurd (omega arith)
front-listed (table ∷ tables) zero none h = refl
front-listed (table ∷ tables) (suc n) none h =
    ap₂ ◌∷◌ (sym (listed-rows table (none 0 (omega arith)))) (front-listed tables n (λ i below. none (suc i) (omega arith)) (omega arith))

existing-listed : (tables : List CellTable) (numbers : List (Option ℕ)) (from to : ℕ) → AreNumbered from to numbers → ((s t : ℕ) → get_or numbers s None ≡ Some t → (table_at tables t).values ≡ None) → to ≤ length tables
    → map Rows (existing_rows tables numbers) ++ map listed (drop to tables) ≡ map listed (drop from tables)
existing-listed tables [] from to h none whole = ap (λ (n : ℕ). map listed (drop n tables)) (sym h)
existing-listed tables (None ∷ numbers) from to h none whole = existing-listed tables numbers from to h (λ s t e. none (suc s) t e) whole
existing-listed tables (Some t ∷ numbers) from to h none whole =
    let later = existing-listed tables numbers (suc from) to h.1 (λ s u e. none (suc s) u e) whole in
    let below : from < length tables = omega (arith, numbers_end numbers (suc from) to h.1) in
    let first : Rows (true_rows (table_at tables t)) ≡ listed (table_at tables from) = sym (listed-rows (table_at tables t) (none 0 t refl)) ∙ ap (λ (n : ℕ). listed (table_at tables n)) h.0 in
    ap₂ ◌∷◌ first later ∙ ap (map listed) (sym (drop-cons tables from no_table below))

pub whole-lists : (view : KripkeTables) → IsKripke view → tables_with (kripke_structure view) ≡ map listed view.tables
whole-lists view is =
    let ends = numbers_end view.existence view.indexes view.first_symbol is.numbered in
    let whole : view.first_symbol ≤ length view.tables = omega (arith, is.symbols) in
    let rest = existing-listed view.tables view.existence view.indexes view.first_symbol is.numbered (λ s t e. ap (λ (x : Shape). x.values) (is.existing s t e)) whole in
    ap (λ (ts : List Table). map Rows (map true_rows (take view.indexes view.tables)) ++ ts) rest
    ∙ front-listed view.tables view.indexes (λ i h. ap (λ (x : Shape). x.values) (is.relations i h)) (omega (arith, ends, whole))

-- sizes of the sorts of a signature are sizes of those of its classical one
sizes-over : {A B : Type 0} (f : A → B) (xs : List A) (ns : List ℕ) → AreSizes xs ns → AreSizes (map f xs) ns
sizes-over f [] [] h = tt
sizes-over f [] (n ∷ ns) h = absurd h
sizes-over f (x ∷ xs) [] h = absurd h
sizes-over f (x ∷ xs) (n ∷ ns) h = (h.0, sizes-over f xs ns h.1)

-- the structure that a Kripke structure becomes
pub lowered-is : (kripke : KripkeTables) → IsKripke kripke → IsStructure (lowered kripke)
lowered-is kripke is = record { actual_in = is.actual_in; within = is.within; filled = is.filled }

pub lowered-agrees : (kripke : KripkeTables) → IsKripke kripke → Agree kripke (lowered kripke)
lowered-agrees kripke is = record { actual = refl; sizes = refl; tables = sym (whole-lists kripke is) }

pub lowered-for : (sig : Signature) (kripke : KripkeTables) → IsKripke kripke → IsKripkeFor sig kripke → IsFor (classical_signature_of sig) (lowered kripke)
lowered-for sig kripke is o =
    let names = sizes-over user_sort (sort_names sig.sorts) kripke.sizes (sizes-over (λ (e : SortEntry). e.name) sig.sorts kripke.sizes o.sorts) in
    record { sorts = (omega (arith, is.actual_in), names); shapes = o.shapes ∙ sym (classical-shapes sig kripke.worlds kripke.sizes) }

-- the Kripke structure that a structure for the classical signature becomes
pub record Lifts (sig : Signature) (structure : StructureTables) : Type 0 where
  pub is : IsKripke (lifted sig structure)
  pub for : IsKripkeFor sig (lifted sig structure)
  pub agrees : Agree (lifted sig structure) structure

lifts-from : (sig : Signature) (sizes : List ℕ) (structure : StructureTables) → structure.sizes ≡ sizes → IsStructure structure → IsFor (classical_signature_of sig) structure → Lifts sig structure
lifts-from sig [] structure e is o = absurd (rw e at o.sorts)
lifts-from sig (n ∷ ns) structure e is o =
    let sorts = rw e at o.sorts in
    let worlds : size_at structure.sizes 0 ≡ n = ap (λ (xs : List ℕ). size_at xs 0) e in
    let others : others_of structure.sizes ≡ ns = ap others_of e in
    let shapes : shapes_of structure.tables ≡ kripke_shapes sig (size_at structure.sizes 0) (others_of structure.sizes) =
    o.shapes
    ∙ ap (λ (xs : List ℕ). table_shapes xs (classical_signature_of sig).tables) e
    ∙ classical-shapes sig n ns
    ∙ sym (λ i. kripke_shapes sig (worlds i) (others i)) in
    let kripke : IsKripke (lifted sig structure) = tables-are-kripke sig (size_at structure.sizes 0) structure.actual (others_of structure.sizes) structure.tables shapes is.actual_in is.within is.filled in
    let elements : AreSizes sig.sorts (others_of structure.sizes) = rw others (sizes-under (λ (x : SortEntry). x.name) sig.sorts ns (sizes-under user_sort (sort_names sig.sorts) ns sorts.1)) in
    record {
      is = kripke;
      for = record { sorts = elements; indexes = refl; existence = refl; world_first = refl; shapes = shapes };
      agrees = record { actual = refl; sizes = e ∙ sym (λ i. worlds i ∷ others i); tables = sym (whole-lists (lifted sig structure) kripke) };
    }

pub lifts : (sig : Signature) (structure : StructureTables) → IsStructure structure → IsFor (classical_signature_of sig) structure → Lifts sig structure
lifts sig structure is o = lifts-from sig structure.sizes structure refl is o

-- each way undoes the other
lowered-lifted-from : (sig : Signature) (sizes : List ℕ) (structure : StructureTables) → structure.sizes ≡ sizes → IsFor (classical_signature_of sig) structure → lowered (lifted sig structure) ≡ structure
lowered-lifted-from sig [] structure e o = absurd (rw e at o.sorts)
lowered-lifted-from sig (n ∷ ns) structure e o =
    let whole : size_at structure.sizes 0 ∷ others_of structure.sizes ≡ structure.sizes = ap (λ (xs : List ℕ). size_at xs 0 ∷ others_of xs) e ∙ sym e in
    ap (λ (xs : List ℕ). structure_view structure.actual xs structure.tables) whole

pub lowered-lifted : (sig : Signature) (structure : StructureTables) → IsFor (classical_signature_of sig) structure → lowered (lifted sig structure) ≡ structure
lowered-lifted sig structure o = lowered-lifted-from sig structure.sizes structure refl o

same-end : (numbers : List (Option ℕ)) (from to other : ℕ) → AreNumbered from to numbers → AreNumbered from other numbers → to ≡ other
same-end [] from to other h k = sym h ∙ k
same-end (None ∷ numbers) from to other h k = same-end numbers from to other h k
same-end (Some t ∷ numbers) from to other h k = same-end numbers (suc from) to other h.1 k.1

pub lifted-lowered : (sig : Signature) (kripke : KripkeTables) → IsKripke kripke → IsKripkeFor sig kripke → lifted sig (lowered kripke) ≡ kripke
lifted-lowered sig kripke is o =
    let mine = rw (o.existence, o.indexes) at is.numbered in
    let first : length sig.indexes + length (existence_sorts sig.sorts) ≡ kripke.first_symbol = same-end (numbers_from (length sig.indexes) sig.sorts) (length sig.indexes) _ _ (numbered sig.sorts (length sig.indexes)) mine in
    let indexes = sym o.indexes in
    let existence = sym o.existence in
    let columns = sym o.world_first in
    (λ i. record { worlds = kripke.worlds; actual = kripke.actual; sizes = kripke.sizes; indexes = indexes i; existence = existence i; first_symbol = first i; world_first = columns i; tables = kripke.tables })

-- the parts that are made are those of the corresponding structure
pub made-lifted : (sig : Signature) (structure : StructureTables) (worlds actual : ℕ) (items : List ℕ) (indexes : ℕ) (existence : List (Option ℕ)) (first : ℕ) (columns : List Bool) (tables : List CellTable)
    → worlds ≡ size_at structure.sizes 0 → actual ≡ structure.actual → items ≡ others_of structure.sizes → indexes ≡ length sig.indexes → existence ≡ numbers_from (length sig.indexes) sig.sorts → first ≡ length sig.indexes + length (existence_sorts sig.sorts)
    → columns ≡ map takes_world sig.symbols → tables ≡ structure.tables
    → lifted sig structure ≡ record { worlds = worlds; actual = actual; sizes = items; indexes = indexes; existence = existence; first_symbol = first; world_first = columns; tables = tables }
made-lifted sig structure worlds actual items indexes existence first columns tables a b c d e f g h =
    let a2 = sym a in
    let b2 = sym b in
    let c2 = sym c in
    let d2 = sym d in
    let e2 = sym e in
    let f2 = sym f in
    let g2 = sym g in
    let h2 = sym h in
    (λ i. record { worlds = a2 i; actual = b2 i; sizes = c2 i; indexes = d2 i; existence = e2 i; first_symbol = f2 i; world_first = g2 i; tables = h2 i })

pub made-lowered : (kripke : KripkeTables) (actual : ℕ) (items : List ℕ) (tables : List CellTable) → actual ≡ kripke.actual → items ≡ kripke.worlds ∷ kripke.sizes → tables ≡ kripke.tables → lowered kripke ≡ record { actual = actual; sizes = items; tables = tables }
made-lowered kripke actual items tables a b c =
    let a2 = sym a in
    let b2 = sym b in
    let c2 = sym c in
    (λ i. record { actual = a2 i; sizes = b2 i; tables = c2 i })
