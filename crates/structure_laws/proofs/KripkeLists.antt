-- The lists of rows of a Kripke structure: it is over its signature, and they determine it.
use Rattle.std.proofs.Common.{◌≡◌, ℕ, zero, suc, ◌+◌, List, [], ◌∷◌, ◌++◌, map, length, take, get_or, Option, None, Some, refl, sym, ◌∙◌, ap, arith}
use Rattle.std.proofs.lemmas.List.{length-map, length-take-le}
use Rattle.nxf_tree.specs.declared.tree.IndexEntry.{IndexEntry}
use Rattle.nxf_tree.specs.Rows.{Table, Rows, Shape, AreTables}
use Rattle.nxf_tree.specs.Structures.{KripkeStructure, relation_shapes, existence_shapes, symbol_shapes, tables_with}
use Rattle.fin_struct.specs.Cells.{CellTable}
use Rattle.fin_struct.specs.RowLists.{true_rows, listed, shapes_of}
use Rattle.fin_struct.specs.KripkeTables.{AreNumbered, existing_rows, kripke_shapes, kripke_structure}
use Rattle.structure_laws.specs.KripkeLaws.{KripkeLaw, KripkesDetermine, OwnTablesLaw}
use Rattle.fin_struct.proofs.CallerLemmas.{are-tables, whole-lists, numbers_end, numbers_in}
use Rattle.structure_laws.proofs.EqualStructures.{same_tables}
use Rattle.structure_laws.proofs.KripkeNames.{numbers-shapes}

existing-count : (tables : List CellTable) (numbers : List (Option ℕ)) (from to : ℕ) → AreNumbered from to numbers → from + length (existing_rows tables numbers) ≡ to
existing-count tables [] from to h = omega (arith, h)
existing-count tables (None ∷ numbers) from to h = existing-count tables numbers from to h
existing-count tables (Some t ∷ numbers) from to h = omega (arith, existing-count tables numbers (suc from) to h.1)

-- tables in two parts
are-split : (xs ys : List Shape) (ts us : List Table) → length ts ≡ length xs → AreTables (xs ++ ys) (ts ++ us) → AreTables xs ts × AreTables ys us
are-split [] ys [] us e h = (tt, h)
are-split [] ys (t ∷ ts) us e h = absurd (omega arith)
are-split (x ∷ xs) ys [] us e h = absurd (omega arith)
are-split (x ∷ xs) ys (t ∷ ts) us e h =
    let rest = are-split xs ys ts us (omega arith) h.1 in
    ((h.0, rest.0), rest.1)

pub kripke-law : KripkeLaw
kripke-law sig view is o =
    let K = kripke_structure view in
    let n = view.worlds in
    let ends = numbers_end view.existence view.indexes view.first_symbol is.numbered in
    let all : AreTables (kripke_shapes sig n view.sizes) (tables_with K) = rw (whole-lists view is) (rw o.shapes at (are-tables view.tables is.filled)) in
    let front : length (take view.indexes view.tables) ≡ view.indexes = length-take-le view.indexes view.tables (omega (arith, ends, is.symbols)) in
    let shapes : length (relation_shapes n sig.indexes) ≡ length sig.indexes = length-map sig.indexes (λ (e : IndexEntry). record { sizes = n ∷ n ∷ []; values = None }) in
    let first : length (map Rows K.relations) ≡ length (relation_shapes n sig.indexes) = length-map K.relations Rows ∙ length-map (take view.indexes view.tables) true_rows ∙ front ∙ o.indexes ∙ sym shapes in
    let numbered = rw (o.existence, o.indexes) at is.numbered in
    let second : length (map Rows K.existing) ≡ length (existence_shapes n view.sizes 0 sig.sorts) = length-map K.existing Rows ∙ omega (arith, o.indexes, existing-count view.tables view.existence view.indexes view.first_symbol is.numbered, numbers-shapes n view.sizes sig.sorts 0 (length sig.indexes) view.first_symbol numbered) in
    let p = are-split (relation_shapes n sig.indexes) (existence_shapes n view.sizes 0 sig.sorts ++ symbol_shapes n view.sizes sig.symbols) (map Rows K.relations) (map Rows K.existing ++ K.symbols) first all in
    let q = are-split (existence_shapes n view.sizes 0 sig.sorts) (symbol_shapes n view.sizes sig.symbols) (map Rows K.existing) K.symbols second p.1 in
    record { actual = is.actual_in; sizes = o.sorts; relations = p.0; existing = q.0; symbols = q.1 }

pub kripkes-determine : KripkesDetermine
kripkes-determine sig view other is it o q e =
    let worlds : view.worlds ≡ other.worlds = ap (λ (K : KripkeStructure). K.worlds) e in
    let actual : view.actual ≡ other.actual = ap (λ (K : KripkeStructure). K.actual) e in
    let sizes : view.sizes ≡ other.sizes = ap (λ (K : KripkeStructure). K.sizes) e in
    let lists : map listed view.tables ≡ map listed other.tables = sym (whole-lists view is) ∙ ap tables_with e ∙ whole-lists other it in
    let shapes : shapes_of view.tables ≡ shapes_of other.tables = o.shapes ∙ (λ i. kripke_shapes sig (worlds i) (sizes i)) ∙ sym q.shapes in
    let tables = same_tables view.tables other.tables is.filled it.filled shapes lists in
    let indexes = o.indexes ∙ sym q.indexes in
    let existence = o.existence ∙ sym q.existence in
    let columns = o.world_first ∙ sym q.world_first in
    let mine = rw (o.existence, o.indexes) at is.numbered in
    let theirs = rw (q.existence, q.indexes) at it.numbered in
    let first : view.first_symbol ≡ other.first_symbol = sym (numbers-shapes 0 [] sig.sorts 0 (length sig.indexes) view.first_symbol mine) ∙ numbers-shapes 0 [] sig.sorts 0 (length sig.indexes) other.first_symbol theirs in
    (λ i. record { worlds = worlds i; actual = actual i; sizes = sizes i; indexes = indexes i; existence = existence i; first_symbol = first i; world_first = columns i; tables = tables i })

-- different sorts have different tables
own-number : (numbers : List (Option ℕ)) (from to s r t : ℕ) → AreNumbered from to numbers → get_or numbers s None ≡ Some t → get_or numbers r None ≡ Some t → s ≡ r
own-number [] from to s r t h e f = absurd cc
own-number (None ∷ numbers) from to zero r t h e f = absurd cc
own-number (None ∷ numbers) from to (suc s) zero t h e f = absurd cc
own-number (None ∷ numbers) from to (suc s) (suc r) t h e f = ap suc (own-number numbers from to s r t h e f)
own-number (Some u ∷ numbers) from to zero zero t h e f = refl
own-number (Some u ∷ numbers) from to zero (suc r) t h e f =
    let same : u ≡ t = cc in
    absurd (omega (arith, h.0, (numbers_in numbers (suc from) to r t h.1 f).0))
own-number (Some u ∷ numbers) from to (suc s) zero t h e f =
    let same : u ≡ t = cc in
    absurd (omega (arith, h.0, (numbers_in numbers (suc from) to s t h.1 e).0))
own-number (Some u ∷ numbers) from to (suc s) (suc r) t h e f = ap suc (own-number numbers (suc from) to s r t h.1 e f)

pub own-tables : OwnTablesLaw
own-tables view is = record {
  existing = λ s t e. numbers_in view.existence view.indexes view.first_symbol s t is.numbered e;
  different = λ s r t e f. own-number view.existence view.indexes view.first_symbol s r t is.numbered e f;
}
