-- The tables of a structure over a signature fit their labels: predicates and functions where these are, with rows of the right length.
use Rattle.std.proofs.Common.{◌≡◌, ℕ, suc, Bool, true, false, cond, List, [], ◌∷◌, ◌++◌, map, length, Option, None, Some, refl, sym, ap, subst, ◌∙◌}
use Rattle.std.proofs.lemmas.List.{length-map}
use Rattle.nxf_tree.specs.declared.tree.Signature.{Signature}
use Rattle.nxf_tree.specs.declared.tree.SortEntry.{SortEntry}
use Rattle.nxf_tree.specs.declared.tree.SymbolEntry.{SymbolEntry}
use Rattle.nxf_tree.specs.declared.tree.IndexEntry.{IndexEntry}
use Rattle.nxf_tree.specs.declared.tree.SortName.{SortName}
use Rattle.nxf_tree.specs.Signature.{constant_regime, existence_sorts, takes_world, sort_at}
use Rattle.nxf_tree.specs.Rows.{Table, Rows, Values, IsTableOf, AreTables, all_rows, in_front, those_in, has_row, numbers_below, size_at}
use Rattle.nxf_tree.specs.Structures.{KripkeStructure, IsOver, relation_shapes, existence_shapes, symbol_shape, symbol_shapes, tables_with}
use Rattle.kripke_text_definitions.specs.KripkeText as text
use Rattle.kripke_text_definitions.specs.KripkeText.{Label, Access, Exists, Symbol}
use Rattle.kripke_text_laws.specs.steps.Labels.{row_length, has_values}

-- each row has so many numbers
abbrev pub HaveLength : ℕ → List (List ℕ) → Type 0
HaveLength n [] = Unit {0}
HaveLength n (row ∷ rows) = (length row ≡ n) × HaveLength n rows

have-append : (n : ℕ) (xs ys : List (List ℕ)) → HaveLength n xs → HaveLength n ys → HaveLength n (xs ++ ys)
have-append n [] ys h k = k
have-append n (x ∷ xs) ys h k = (h.0, have-append n xs ys h.1 k)

have-map : (n x : ℕ) (rows : List (List ℕ)) → HaveLength n rows → HaveLength (suc n) (map (λ row. x ∷ row) rows)
have-map n x [] h = tt
have-map n x (row ∷ rows) h = (ap suc h.0, have-map n x rows h.1)

have-front : (n : ℕ) (xs : List ℕ) (rows : List (List ℕ)) → HaveLength n rows → HaveLength (suc n) (in_front xs rows)
have-front n [] rows h = tt
have-front n (x ∷ xs) rows h = have-append (suc n) (map (λ row. x ∷ row) rows) (in_front xs rows) (have-map n x rows h) (have-front n xs rows h)

pub all_have : (sizes : List ℕ) → HaveLength (length sizes) (all_rows sizes)
all_have [] = (refl, tt)
all_have (size ∷ sizes) = have-front (length sizes) (numbers_below size) (all_rows sizes) (all_have sizes)

those_by : (n : ℕ) (list : List (List ℕ)) (row : List ℕ) (rows : List (List ℕ)) (t : Bool) → length row ≡ n → HaveLength n (those_in list rows) → HaveLength n (cond t (row ∷ those_in list rows) (those_in list rows))
those_by n list row rows true h k = (h, k)
those_by n list row rows false h k = k

those_have : (n : ℕ) (list rows : List (List ℕ)) → HaveLength n rows → HaveLength n (those_in list rows)
those_have n list [] h = tt
those_have n list (row ∷ rows) h = those_by n list row rows (has_row row list) h.0 (those_have n list rows h.1)

-- a table of the label's kind, with rows of its length
abbrev pub Fits : Label → Table → Type 0
Fits label (Rows rows) = (has_values label ≡ false) × HaveLength (row_length label) rows
Fits label (Values rows) = (has_values label ≡ true) × HaveLength (row_length label) (map (λ row. row.0) rows)

abbrev pub AllFit : List Label → List Table → Type 0
AllFit [] [] = Unit {0}
AllFit [] (table ∷ tables) = ⊥
AllFit (label ∷ labels) [] = ⊥
AllFit (label ∷ labels) (table ∷ tables) = Fits label table × AllFit labels tables

fit-append : (labels others : List Label) (tables more : List Table) → AllFit labels tables → AllFit others more → AllFit (labels ++ others) (tables ++ more)
fit-append [] others [] more h k = k
fit-append [] others (t ∷ tables) more h k = absurd h
fit-append (l ∷ labels) others [] more h k = absurd h
fit-append (l ∷ labels) others (t ∷ tables) more h k = (h.0, fit-append labels others tables more h.1 k)

-- of a shape with the label's length and kind
abbrev has_bound : Option ℕ → Bool
has_bound None = false
has_bound (Some bound) = true

fits_of : (label : Label) (sizes : List ℕ) (bound : Option ℕ) (table : Table) → length sizes ≡ row_length label → has_values label ≡ has_bound bound → IsTableOf sizes bound table → Fits label table
fits_of label sizes None (Rows rows) len kind is =
    let have = those_have (length sizes) rows (all_rows sizes) (all_have sizes) in
    (kind, subst (λ (n : ℕ). HaveLength n rows) len (subst (λ (r : List (List ℕ)). HaveLength (length sizes) r) (sym is) have))
fits_of label sizes None (Values rows) len kind is = absurd is
fits_of label sizes (Some bound) (Rows rows) len kind is = absurd is
fits_of label sizes (Some bound) (Values rows) len kind is =
    (kind, subst (λ (n : ℕ). HaveLength n (map (λ (row : List ℕ × ℕ). row.0) rows)) len (subst (λ (r : List (List ℕ)). HaveLength (length sizes) r) (sym is.total) (all_have sizes)))

relations_fit : (worlds : ℕ) (entries : List IndexEntry) (tables : List (List (List ℕ))) → AreTables (relation_shapes worlds entries) (map Rows tables) → AllFit (map (λ (entry : IndexEntry). Access entry.name) entries) (map Rows tables)
relations_fit worlds [] [] h = tt
relations_fit worlds [] (t ∷ tables) h = absurd h
relations_fit worlds (e ∷ entries) [] h = absurd h
relations_fit worlds (e ∷ entries) (t ∷ tables) h = (fits_of (Access e.name) (worlds ∷ worlds ∷ []) None (Rows t) refl refl h.0, relations_fit worlds entries tables h.1)

existing_by : (worlds : ℕ) (sizes : List ℕ) (k : ℕ) (e : SortEntry) (entries : List SortEntry) (t : Bool) (tables : List (List (List ℕ))) → ((more : List (List (List ℕ))) → AreTables (existence_shapes worlds sizes (suc k) entries) (map Rows more) → AllFit (map Exists (existence_sorts entries)) (map Rows more)) → AreTables (cond t (existence_shapes worlds sizes (suc k) entries) (record { sizes = worlds ∷ size_at sizes k ∷ []; values = None } ∷ existence_shapes worlds sizes (suc k) entries)) (map Rows tables) → AllFit (map Exists (cond t (existence_sorts entries) (e.name ∷ existence_sorts entries))) (map Rows tables)
existing_by worlds sizes k e entries true tables ih h = ih tables h
existing_by worlds sizes k e entries false [] ih h = absurd h
existing_by worlds sizes k e entries false (t ∷ tables) ih h = (fits_of (Exists e.name) (worlds ∷ size_at sizes k ∷ []) None (Rows t) refl refl h.0, ih tables h.1)

existing_fit : (worlds : ℕ) (sizes : List ℕ) (k : ℕ) (entries : List SortEntry) (tables : List (List (List ℕ))) → AreTables (existence_shapes worlds sizes k entries) (map Rows tables) → AllFit (map Exists (existence_sorts entries)) (map Rows tables)
existing_fit worlds sizes k [] [] h = tt
existing_fit worlds sizes k [] (t ∷ tables) h = absurd h
existing_fit worlds sizes k (e ∷ entries) tables h = existing_by worlds sizes k e entries (constant_regime e.regime) tables (λ more. existing_fit worlds sizes (suc k) entries more) h

symbol_length : (sorts : List SortEntry) (worlds : ℕ) (sizes : List ℕ) (name : List ℕ) (t : Bool) (args : List ℕ) (gives : Option SortName) → length (cond t (worlds ∷ map (size_at sizes) args) (map (size_at sizes) args)) ≡ row_length (Symbol name t (map (sort_at sorts) args) gives)
symbol_length sorts worlds sizes name true args gives = ap suc (length-map args (size_at sizes) ∙ sym (length-map args (sort_at sorts)))
symbol_length sorts worlds sizes name false args gives = length-map args (size_at sizes) ∙ sym (length-map args (sort_at sorts))

open_map : {A B : Type 0} → (A → B) → Option A → Option B
open_map f None = None
open_map f (Some x) = Some (f x)

symbol_kind : (sorts : List SortEntry) (worlds : ℕ) (sizes : List ℕ) (entry : SymbolEntry) (gives : Option ℕ) → entry.gives ≡ gives → has_values (text.symbol_label sorts entry) ≡ has_bound (symbol_shape worlds sizes entry).values
symbol_kind sorts worlds sizes entry None e = rw e refl
symbol_kind sorts worlds sizes entry (Some s) e = rw e refl

symbols_fit : (sorts : List SortEntry) (worlds : ℕ) (sizes : List ℕ) (entries : List SymbolEntry) (tables : List Table) → AreTables (symbol_shapes worlds sizes entries) tables → AllFit (map (text.symbol_label sorts) entries) tables
symbols_fit sorts worlds sizes [] [] h = tt
symbols_fit sorts worlds sizes [] (t ∷ tables) h = absurd h
symbols_fit sorts worlds sizes (e ∷ entries) [] h = absurd h
symbols_fit sorts worlds sizes (e ∷ entries) (t ∷ tables) h =
    let shape = symbol_shape worlds sizes e in
    (fits_of (text.symbol_label sorts e) shape.sizes shape.values t (symbol_length sorts worlds sizes e.name (takes_world e) e.args _) (symbol_kind sorts worlds sizes e e.gives refl) h.0, symbols_fit sorts worlds sizes entries tables h.1)

pub tables_fit : (sig : Signature) (K : KripkeStructure) → IsOver sig K → AllFit (text.labels_of sig) (tables_with K)
tables_fit sig K over =
    fit-append _ _ _ _ (relations_fit K.worlds sig.indexes K.relations over.relations)
    (fit-append _ _ _ _ (existing_fit K.worlds K.sizes 0 sig.sorts K.existing over.existing) (symbols_fit sig.sorts K.worlds K.sizes sig.symbols K.symbols over.symbols))
