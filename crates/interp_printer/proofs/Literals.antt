-- The literals of the first rows of a table.
use Rattle.std.proofs.Common.{◌≡◌, ℕ, zero, suc, ◌+◌, ◌<◌, ◌≤◌, ◌⊎◌, inl, inr, Bool, true, false, cond, List, [], ◌∷◌, ◌++◌, map, length, take, drop, get_or, Option, None, Some, refl, sym, ap, ◌∙◌, add-one, arith}
use Rattle.std.specs.Prelude.{nat_eq}
use Rattle.std.proofs.lemmas.List.{length-map, map-append}
use Rattle.nxf_tree.specs.declared.tree.SortName.{SortName}
use Rattle.nxf_tree.specs.declared.tree.TableEntry.{TableEntry}
use Rattle.nxf_tree.specs.declared.tree.Formula.{Formula, Atom}
use Rattle.nxf_tree.specs.declared.tree.Term.{Term}
use Rattle.nxf_tree.specs.Shapes.{Not1}
use Rattle.nxf_tree.specs.Rows.{AllBelow, all_rows, beside}
use Rattle.nxf_tree.specs.Text.{has_brackets, in_brackets, formula_text, unit_text}
use Rattle.fin_struct.specs.Places.{rows_count}
use Rattle.fin_struct.specs.Cells.{CellTable}
use Rattle.fin_struct.proofs.CallerLemmas.{InRange-length, all_rows-at, length-all_rows, place-row_at, row_at, row_at-in_range}
use Rattle.interpretation_text_definitions.specs.InterpretationText.{element, literal, row_elements, literals}
use Rattle.interp_printer.proofs.Appending.{beside_more, beside_count}

-- each number is below the bound
pub below_at : (bound : ℕ) (xs : List ℕ) (i d : ℕ) → AllBelow bound xs → i < length xs → get_or xs i d < bound
below_at bound [] i d h k = absurd (omega arith)
below_at bound (x ∷ xs) zero d h k = h.0
below_at bound (x ∷ xs) (suc i) d h k = below_at bound xs i d h.1 (omega arith)

-- the elements of a row, one more by one more
pub elements_more : (sorts : List SortName) (args row : List ℕ) (i d e : ℕ) → i < length args → i < length row
    → row_elements sorts (take (i + 1) args) (take (i + 1) row) ≡ row_elements sorts (take i args) (take i row) ++ element sorts (get_or args i d) (get_or row i e) ∷ []
elements_more sorts args row i d e p q =
    let f = λ (p : ℕ × ℕ). element sorts p.0 p.1 in
    ap (map f) (beside_more args row i d e p q) ∙ map-append f (beside (take i args) (take i row)) ((get_or args i d, get_or row i e) ∷ [])

pub elements_count : (sorts : List SortName) (args row : List ℕ) (i : ℕ) → i ≤ length args → i ≤ length row → length (row_elements sorts (take i args) (take i row)) ≡ i
elements_count sorts args row i p q = length-map (beside (take i args) (take i row)) (λ (p : ℕ × ℕ). element sorts p.0 p.1) ∙ beside_count args row i p q

pub row_some : (sorts : List SortName) (args row : List ℕ) → length row ≡ length args → (row ≡ [] → ⊥) → 0 < length (row_elements sorts args row)
row_some sorts args [] long some = absurd (some refl)
row_some sorts [] (x ∷ row) long some = absurd (omega arith)
row_some sorts (a ∷ args) (x ∷ row) long some = omega arith

-- a row's literal
abbrev pub literal_of : List SortName → TableEntry → List ℕ → ℕ → Formula
literal_of sorts entry row cell = literal sorts entry.name (row_elements sorts entry.args row) entry.gives cell

abbrev pub first_literals : List SortName → TableEntry → CellTable → ℕ → List Formula
first_literals sorts entry table n =
    map (λ p. literal sorts entry.name (row_elements sorts entry.args p.0) entry.gives p.1) (beside (take n (all_rows table.sizes)) (take n table.cells))

pub literals_more : (sorts : List SortName) (entry : TableEntry) (table : CellTable) (n : ℕ) (d : List ℕ) (e : ℕ) → n < length (all_rows table.sizes) → n < length table.cells
    → first_literals sorts entry table (n + 1) ≡ first_literals sorts entry table n ++ literal_of sorts entry (get_or (all_rows table.sizes) n d) (get_or table.cells n e) ∷ []
literals_more sorts entry table n d e p q =
    let f = λ (p : List ℕ × ℕ). literal sorts entry.name (row_elements sorts entry.args p.0) entry.gives p.1 in
    ap (map f) (beside_more (all_rows table.sizes) table.cells n d e p q) ∙ map-append f (beside (take n (all_rows table.sizes)) (take n table.cells)) ((get_or (all_rows table.sizes) n d, get_or table.cells n e) ∷ [])

pub literals_count : (sorts : List SortName) (entry : TableEntry) (table : CellTable) (n : ℕ) → n ≤ length (all_rows table.sizes) → n ≤ length table.cells → length (first_literals sorts entry table n) ≡ n
literals_count sorts entry table n p q =
    length-map (beside (take n (all_rows table.sizes)) (take n table.cells)) (λ (p : List ℕ × ℕ). literal sorts entry.name (row_elements sorts entry.args p.0) entry.gives p.1)
    ∙ beside_count (all_rows table.sizes) table.cells n p q

-- what is still to come begins with what stands at the place
pub next_here : {A : Type 0} (xs : List A) (i : ℕ) (d x : A) (rest : List A) → drop i xs ≡ x ∷ rest → (i < length xs) × (get_or xs i d ≡ x)
next_here [] zero d x rest e = absurd cc
next_here [] (suc i) d x rest e = absurd cc
next_here (y ∷ xs) zero d x rest e = (omega arith, cc)
next_here (y ∷ xs) (suc i) d x rest e = let h = next_here xs i d x rest e in (omega arith, h.1)

pub passed_one : {A : Type 0} (xs : List A) (i : ℕ) → drop 1 (drop i xs) ≡ drop (i + 1) xs
passed_one xs i = step xs i ∙ ap (λ k. drop k xs) (sym (add-one i))
  where
    step : {A : Type 0} (xs : List A) (i : ℕ) → drop 1 (drop i xs) ≡ drop (suc i) xs
    step [] zero = refl
    step [] (suc i) = refl
    step (y ∷ xs) zero = refl
    step (y ∷ xs) (suc i) = step xs i

pub none_here : {A : Type 0} (xs : List A) (i : ℕ) → drop i xs ≡ [] → length xs ≤ i
none_here [] i e = omega arith
none_here (y ∷ xs) zero e = absurd cc
none_here (y ∷ xs) (suc i) e = omega (arith, none_here xs i e)

-- nothing is left out of two lists side by side where one of them is whole
all_beside : {N A : Type 0} (ns : List N) (xs : List A) (n : ℕ) → (length ns ≤ n) ⊎ (length xs ≤ n) → beside (take n ns) (take n xs) ≡ beside ns xs
all_beside [] xs zero h = refl
all_beside [] xs (suc n) h = refl
all_beside (y ∷ ns) [] zero h = refl
all_beside (y ∷ ns) [] (suc n) h = refl
all_beside (y ∷ ns) (x ∷ xs) zero h = absurd (elim h [ inl a ↦ omega arith | inr b ↦ omega arith ])
all_beside (y ∷ ns) (x ∷ xs) (suc n) h = ap (λ rest. (y, x) ∷ rest) (all_beside ns xs n (elim h [ inl a ↦ inl (omega arith) | inr b ↦ inr (omega arith) ]))

-- a row has a number for each size
pub row_long : (sizes : List ℕ) (n : ℕ) → n < length (all_rows sizes) → length (get_or (all_rows sizes) n []) ≡ length sizes
row_long sizes n h =
    let below : n < rows_count sizes = omega (arith, length-all_rows sizes) in
    let inside = row_at-in_range sizes n below in
    let is : get_or (all_rows sizes) n [] ≡ row_at sizes n = ap (λ k. get_or (all_rows sizes) k []) (sym (place-row_at sizes n below)) ∙ all_rows-at sizes (row_at sizes n) inside in
    ap length is ∙ sym (InRange-length sizes (row_at sizes n) inside)

-- no literal has brackets
pub literal_alone : (sorts : List SortName) (name : List ℕ) (terms : List Term) (gives : Option ℕ) (cell : ℕ) → has_brackets (literal sorts name terms gives cell) ≡ false
literal_alone sorts name terms None cell = signed (nat_eq cell 1)
  where
    signed : (b : Bool) → has_brackets (cond b (Atom name terms) (Not1 (Atom name terms))) ≡ false
    signed true = refl
    signed false = refl
literal_alone sorts name terms (Some sort) cell = refl

-- a literal is the same text as a part
pub literal_unit : (sorts : List SortName) (entry : TableEntry) (row other : List ℕ) (cell value : ℕ) (text : List ℕ) → row ≡ other → cell ≡ value
    → text ++ formula_text (literal_of sorts entry row cell) ≡ text ++ unit_text (literal_of sorts entry other value)
literal_unit sorts entry row other cell value text e f =
    ap (λ rest. text ++ rest)
    (ap (λ b. in_brackets b (formula_text (literal_of sorts entry row cell))) (sym (literal_alone sorts entry.name (row_elements sorts entry.args row) entry.gives cell))
    ∙ (λ i. unit_text (literal_of sorts entry (e i) (f i))))

-- one literal alone has no brackets
pub alone : (sorts : List SortName) (entry : TableEntry) (table : CellTable) (f : Formula) → literals sorts entry table ≡ f ∷ [] → has_brackets f ≡ false
alone sorts entry table f e = by_rows (beside (all_rows table.sizes) table.cells) e
  where
    by_rows : (ps : List (List ℕ × ℕ)) → map (λ (p : List ℕ × ℕ). literal sorts entry.name (row_elements sorts entry.args p.0) entry.gives p.1) ps ≡ f ∷ [] → has_brackets f ≡ false
    by_rows [] e = absurd cc
    by_rows (p ∷ ps) e =
        let is : literal sorts entry.name (row_elements sorts entry.args p.0) entry.gives p.1 ≡ f = cc in
        ap has_brackets (sym is) ∙ literal_alone sorts entry.name (row_elements sorts entry.args p.0) entry.gives p.1

-- all rows were passed, or all cells
pub all_passed : (sorts : List SortName) (entry : TableEntry) (table : CellTable) (n : ℕ) → (length (all_rows table.sizes) ≤ n) ⊎ (length table.cells ≤ n) → first_literals sorts entry table n ≡ literals sorts entry table
all_passed sorts entry table n h = ap (map (λ (p : List ℕ × ℕ). literal sorts entry.name (row_elements sorts entry.args p.0) entry.gives p.1)) (all_beside (all_rows table.sizes) table.cells n h)
