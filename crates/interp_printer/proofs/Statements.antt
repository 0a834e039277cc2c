-- The statements of the first sorts, and those of the first tables.
use Rattle.std.proofs.Common.{◌≡◌, ℕ, zero, suc, ◌+◌, ◌<◌, List, [], ◌∷◌, ◌++◌, length, take, get_or, refl, sym, ap, ◌∙◌, append-nil, arith}
use Rattle.std.specs.Prelude.{flat_map}
use Rattle.std.proofs.lemmas.Grind.{flat_map-append}
use Rattle.std.proofs.lemmas.List.{length-map}
use Rattle.nxf_tree.specs.declared.tree.SortName.{SortName}
use Rattle.nxf_tree.specs.declared.tree.TableEntry.{TableEntry}
use Rattle.nxf_tree.specs.declared.tree.Statement.{Statement}
use Rattle.nxf_tree.specs.Rows.{Shape, AreSizes, numbers_below, beside, size_at}
use Rattle.nxf_tree.specs.Structures.{table_shape, table_shapes}
use Rattle.nxf_tree.specs.Text.{statement_text}
use Rattle.fin_struct.specs.Cells.{CellTable, no_table, table_at}
use Rattle.fin_struct.specs.RowLists.{shape_of, shapes_of}
use Rattle.interpretation_text_definitions.specs.InterpretationText.{sort_statements, table_statements}
use Rattle.interp_printer.proofs.Appending.{two_put, numbers_more, beside_more}

abbrev pub first_sorts : List SortName → List ℕ → ℕ → List Statement
first_sorts sorts sizes n = flat_map (λ k. sort_statements sorts k (size_at sizes k)) (numbers_below n)

abbrev pub first_tables : List SortName → List TableEntry → List CellTable → ℕ → List Statement
first_tables sorts entries tables n = flat_map (λ p. table_statements sorts p.0 p.1) (beside (take n entries) (take n tables))

-- ---- one more

flat_more : {A : Type 0} (f : A → List Statement) (xs : List A) (x : A) → flat_map statement_text (flat_map f (xs ++ x ∷ [])) ≡ flat_map statement_text (flat_map f xs) ++ flat_map statement_text (f x)
flat_more f xs x =
    ap (flat_map statement_text) (flat_map-append f xs (x ∷ []) ∙ ap (λ last. flat_map f xs ++ last) (append-nil (f x)))
    ∙ flat_map-append statement_text (flat_map f xs) (f x)

pub size_is : (sizes : List ℕ) (k : ℕ) → size_at sizes k ≡ get_or sizes k 0
size_is [] k = refl
size_is (size ∷ sizes) zero = refl
size_is (size ∷ sizes) (suc k) = size_is sizes k

pub sort_put : (sorts : List SortName) (sizes : List ℕ) (n size : ℕ) (old mid new : List ℕ) → size ≡ get_or sizes n 0
    → mid ≡ old ++ flat_map statement_text (first_sorts sorts sizes n) → new ≡ mid ++ flat_map statement_text (sort_statements sorts n size)
    → new ≡ old ++ flat_map statement_text (first_sorts sorts sizes (n + 1))
sort_put sorts sizes n size old mid new is e f =
    let each = λ (k : ℕ). sort_statements sorts k (size_at sizes k) in
    two_put old (flat_map statement_text (first_sorts sorts sizes n)) (flat_map statement_text (each n)) mid new e
    (f ∙ ap (λ k. mid ++ flat_map statement_text (sort_statements sorts n k)) (is ∙ sym (size_is sizes n)))
    ∙ ap (λ text. old ++ text) (sym (flat_more each (numbers_below n) n) ∙ ap (λ ks. flat_map statement_text (flat_map each ks)) (sym (numbers_more n)))

pub table_put : (sorts : List SortName) (entries : List TableEntry) (tables : List CellTable) (n : ℕ) (entry : TableEntry) (table : CellTable) (old mid new : List ℕ)
    → n < length entries → n < length tables → entry ≡ get_or entries n entry → table ≡ get_or tables n no_table
    → mid ≡ old ++ flat_map statement_text (first_tables sorts entries tables n) → new ≡ mid ++ flat_map statement_text (table_statements sorts entry table)
    → new ≡ old ++ flat_map statement_text (first_tables sorts entries tables (n + 1))
table_put sorts entries tables n entry table old mid new p q is there e f =
    let each = λ (p : TableEntry × CellTable). table_statements sorts p.0 p.1 in
    let pairs = beside (take n entries) (take n tables) in
    two_put old (flat_map statement_text (first_tables sorts entries tables n)) (flat_map statement_text (table_statements sorts entry table)) mid new e f
    ∙ ap (λ text. old ++ text) (sym (flat_more each pairs (entry, table))
    ∙ ap (λ ps. flat_map statement_text (flat_map each ps)) ((λ i. pairs ++ (is i, there i) ∷ []) ∙ sym (beside_more entries tables n entry no_table p q)))

-- ---- as many as there are

pub sizes_long : {A : Type 0} (xs : List A) (sizes : List ℕ) → AreSizes xs sizes → length sizes ≡ length xs
sizes_long [] [] h = refl
sizes_long [] (size ∷ sizes) h = absurd h
sizes_long (x ∷ xs) [] h = absurd h
sizes_long (x ∷ xs) (size ∷ sizes) h = ap suc (sizes_long xs sizes h.1)

pub tables_long : (sizes : List ℕ) (entries : List TableEntry) (tables : List CellTable) → shapes_of tables ≡ table_shapes sizes entries → length tables ≡ length entries
tables_long sizes entries tables e = sym (length-map tables shape_of) ∙ ap length e ∙ length-map entries (table_shape sizes)

-- a table has a size for each argument
pub columns_long : (sizes : List ℕ) (entries : List TableEntry) (tables : List CellTable) (n : ℕ) (entry : TableEntry) → shapes_of tables ≡ table_shapes sizes entries → n < length entries
    → entry ≡ get_or entries n entry → length (table_at tables n).sizes ≡ length entry.args
columns_long sizes [] tables n entry e p is = absurd (omega arith)
columns_long sizes (first ∷ entries) [] n entry e p is = absurd cc
columns_long sizes (first ∷ entries) (table ∷ tables) zero entry e p is =
    let same : shape_of table ≡ table_shape sizes first = cc in
    ap (λ (s : Shape). length s.sizes) same ∙ length-map first.args (size_at sizes) ∙ ap (λ (f : TableEntry). length f.args) (sym is)
columns_long sizes (first ∷ entries) (table ∷ tables) (suc n) entry e p is =
    let rest : shapes_of tables ≡ table_shapes sizes entries = cc in
    columns_long sizes entries tables n entry rest (omega arith) is
