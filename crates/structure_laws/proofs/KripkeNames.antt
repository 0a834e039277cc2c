-- What the names of a signature stand for in a Kripke structure.
use Rattle.std.proofs.Common.{◌≡◌, ℕ, zero, suc, ◌+◌, ◌<◌, ◌≤◌, Bool, true, false, List, [], ◌∷◌, ◌++◌, length, take, drop, get_or, Option, None, Some, refl, sym, ◌∙◌, ap, inl, inr, arith, length-drop}
use Rattle.std.specs.Prelude.{◌||◌, if◌then◌else◌, slice_get}
use Rattle.std.specs.Option.{IsSome, option_map}
use Rattle.std.proofs.lemmas.Bool.{cases_Bool}
use Rattle.std.proofs.lemmas.Option.{slice_get-map, slice_get-get_or, get_or_from_slice_get, slice_get_within}
use Rattle.std.proofs.lemmas.List.{get_or-take, get_or-drop, get_or-map, get_or-append-add, length-map, length-take-le}
use Rattle.nxf_tree.specs.declared.tree.Signature.{Signature}
use Rattle.nxf_tree.specs.declared.tree.SortEntry.{SortEntry}
use Rattle.nxf_tree.specs.declared.tree.SortName.{SortName}
use Rattle.nxf_tree.specs.declared.tree.SymbolEntry.{SymbolEntry}
use Rattle.nxf_tree.specs.declared.tree.IndexEntry.{IndexEntry}
use Rattle.nxf_tree.specs.Names.{same_text}
use Rattle.nxf_tree.specs.Signature.{same_sort, constant_regime, flexible_designation, is_flexible, world_in_front, takes_world, sort_names, existence_sorts, index_names, symbol_names}
use Rattle.nxf_tree.specs.Rows.{Table, Rows, Shape, size_at, has_row, is_true_row, value_at_row, AreSizes, beside, under}
use Rattle.nxf_tree.specs.Structures.{relation_shapes, existence_shapes, symbol_shape, symbol_shapes, kripke_model}
use Rattle.nxf_tree.specs.WellFormed.{HasDifferentNames}
use Rattle.name_laws.proofs.Found.{found-law}
use Rattle.classical_syntax.proofs.CallerLemmas.{is_constant-place, is_flexible-place}
use Rattle.fin_struct.specs.Places.{InRange}
use Rattle.fin_struct.specs.Cells.{CellTable, no_table, table_at}
use Rattle.fin_struct.specs.RowLists.{true_rows, listed, shape_of, IsFilled}
use Rattle.fin_struct.specs.KripkeTables.{KripkeTables, IsKripke, IsKripkeFor, AreNumbered, numbers_from, relation_table, related_in, existence_number, exists_in, stands_in, takes_world_in, symbol_number, symbol_table, symbol_row, value_in, predicate_in, existing_rows, kripke_structure}
use Rattle.structure_laws.specs.KripkeLaws.{PlacesLaw, NamesLaw}
use Rattle.fin_struct.proofs.CallerLemmas.{true_row-cell, numbers_end, relation_in, existence_in, symbol_in, holds-listed, value-listed}

-- how many tables of existence there are
pub length-numbers_from : (entries : List SortEntry) (from : ℕ) → length (numbers_from from entries) ≡ length entries
length-numbers_from [] from = refl
length-numbers_from (entry ∷ entries) from = elim (cases_Bool (constant_regime entry.regime)) [
  | inl constant ↦ (rw constant (ap suc (length-numbers_from entries from)))
  | inr varying ↦ (rw varying (ap suc (length-numbers_from entries (suc from))))
]

pub numbers-shapes : (worlds : ℕ) (sizes : List ℕ) (entries : List SortEntry) (k from to : ℕ) → AreNumbered from to (numbers_from from entries) → from + length (existence_shapes worlds sizes k entries) ≡ to
numbers-shapes worlds sizes [] k from to h = omega (arith, h)
numbers-shapes worlds sizes (entry ∷ entries) k from to h = elim (cases_Bool (constant_regime entry.regime)) [
  | inl constant ↦
      let later = rw constant at h in
      (rw constant (numbers-shapes worlds sizes entries (suc k) from to later))
  | inr varying ↦
      let later = rw varying at h in
      let rest = numbers-shapes worlds sizes entries (suc k) (suc from) to later.1 in
      (rw varying (omega (arith, rest)))
]

constant-number : (entries : List SortEntry) (from s : ℕ) (entry : SortEntry) → slice_get entries s ≡ Some entry → constant_regime entry.regime ≡ true → get_or (numbers_from from entries) s None ≡ None
constant-number [] from s entry h is = absurd cc
constant-number (first ∷ entries) from zero entry h is =
    let same : first ≡ entry = cc in
    let constant : constant_regime first.regime ≡ true = ap (λ (e : SortEntry). constant_regime e.regime) same ∙ is in
    (rw constant refl)
constant-number (first ∷ entries) from (suc s) entry h is = elim (cases_Bool (constant_regime first.regime)) [
  | inl constant ↦ (rw constant (constant-number entries from s entry h is))
  | inr varying ↦ (rw varying (constant-number entries (suc from) s entry h is))
]

varying-number : (entries : List SortEntry) (from s : ℕ) (entry : SortEntry) → slice_get entries s ≡ Some entry → constant_regime entry.regime ≡ false → IsSome (get_or (numbers_from from entries) s None)
varying-number [] from s entry h is = absurd cc
varying-number (first ∷ entries) from zero entry h is =
    let same : first ≡ entry = cc in
    let varying : constant_regime first.regime ≡ false = ap (λ (e : SortEntry). constant_regime e.regime) same ∙ is in
    (rw varying refl)
varying-number (first ∷ entries) from (suc s) entry h is = elim (cases_Bool (constant_regime first.regime)) [
  | inl constant ↦ (rw constant (varying-number entries from s entry h is))
  | inr varying ↦ (rw varying (varying-number entries (suc from) s entry h is))
]

-- the shape of a symbol's table
abbrev no_shape : Shape
no_shape = shape_of no_table

symbol-shape-at : (sig : Signature) (view : KripkeTables) (y : ℕ) (entry : SymbolEntry) → IsKripke view → IsKripkeFor sig view → slice_get sig.symbols y ≡ Some entry → shape_of (symbol_table view y) ≡ symbol_shape view.worlds view.sizes entry
symbol-shape-at sig view y entry is o h =
    let n = view.worlds in
    let front = relation_shapes n sig.indexes in
    let middle = existence_shapes n view.sizes 0 sig.sorts in
    let last = symbol_shapes n view.sizes sig.symbols in
    let numbered : AreNumbered (length sig.indexes) view.first_symbol (numbers_from (length sig.indexes) sig.sorts) = rw (sym o.existence, sym o.indexes) is.numbered in
    let fronts : length front ≡ length sig.indexes = length-map sig.indexes (λ (e : IndexEntry). record { sizes = n ∷ n ∷ []; values = None }) in
    let first : length front + length middle ≡ view.first_symbol = omega (arith, fronts, numbers-shapes n view.sizes sig.sorts 0 (length sig.indexes) view.first_symbol numbered) in
    let in_symbols : y < length sig.symbols = slice_get_within sig.symbols y entry h in
    let count : length view.world_first ≡ length sig.symbols = ap length o.world_first ∙ length-map sig.symbols takes_world in
    let below : symbol_number view y < length view.tables = symbol_in view y is (omega (arith, count)) in
    let at : view.first_symbol + y ≡ length front + (length middle + y) = omega arith in
    sym (get_or-map shape_of view.tables (symbol_number view y) no_table no_shape below)
    ∙ ap (λ (ss : List Shape). get_or ss (symbol_number view y) no_shape) o.shapes
    ∙ ap (λ (k : ℕ). get_or (front ++ (middle ++ last)) k no_shape) at
    ∙ get_or-append-add front (middle ++ last) (length middle + y) no_shape
    ∙ get_or-append-add middle last y no_shape
    ∙ get_or-map (symbol_shape n view.sizes) sig.symbols y entry no_shape in_symbols
    ∙ ap (symbol_shape n view.sizes) (get_or_from_slice_get sig.symbols y entry entry h)

world-first-at : (sig : Signature) (view : KripkeTables) (y : ℕ) (entry : SymbolEntry) → IsKripkeFor sig view → slice_get sig.symbols y ≡ Some entry → takes_world_in view y ≡ takes_world entry
world-first-at sig view y entry o h =
    ap (λ (bs : List Bool). get_or bs y false) o.world_first
    ∙ get_or-map takes_world sig.symbols y entry false (slice_get_within sig.symbols y entry h)
    ∙ ap takes_world (get_or_from_slice_get sig.symbols y entry entry h)

pub places-law : PlacesLaw
places-law sig view is o = record {
  sorts = ap length o.existence ∙ length-numbers_from sig.sorts (length sig.indexes);
  constant = λ s entry h constant. ap (λ (ns : List (Option ℕ)). get_or ns s None) o.existence ∙ constant-number sig.sorts (length sig.indexes) s entry h constant;
  varying = λ s entry h varying. rw (sym o.existence) at (varying-number sig.sorts (length sig.indexes) s entry h varying);
  symbols = ap length o.world_first ∙ length-map sig.symbols takes_world;
  world_first = λ y entry h. world-first-at sig view y entry o h;
  shapes = λ y entry h. symbol-shape-at sig view y entry is o h;
}

-- the lists of the structure, by number
relations-at : (view : KripkeTables) (i : ℕ) → IsKripke view → i < view.indexes → slice_get (kripke_structure view).relations i ≡ Some (true_rows (relation_table view i))
relations-at view i is h =
    let whole : view.indexes ≤ length view.tables = omega (arith, is.symbols, numbers_end view.existence view.indexes view.first_symbol is.numbered) in
    slice_get-map true_rows (take view.indexes view.tables) i
    ∙ ap (option_map true_rows) (slice_get-get_or (take view.indexes view.tables) i no_table (omega (arith, length-take-le view.indexes view.tables whole)))
    ∙ ap (λ (t : CellTable). Some (true_rows t)) (get_or-take view.indexes view.tables i no_table h)

symbols-at : (view : KripkeTables) (y : ℕ) → IsKripke view → y < length view.world_first → slice_get (kripke_structure view).symbols y ≡ Some (listed (symbol_table view y))
symbols-at view y is h =
    slice_get-map listed (drop view.first_symbol view.tables) y
    ∙ ap (option_map listed) (slice_get-get_or (drop view.first_symbol view.tables) y no_table (omega (arith, is.symbols, length-drop view.first_symbol view.tables)))
    ∙ ap (λ (t : CellTable). Some (listed t)) (get_or-drop view.first_symbol view.tables y no_table)

-- a name and a list that stand at one place
record Beside (names : List SortName) (lists : List (List (List ℕ))) (name : SortName) (list : List (List ℕ)) : Type 0 where
  pub at : ℕ
  pub name_at : slice_get names at ≡ Some name
  pub list_at : slice_get lists at ≡ Some list

existing-at : (tables : List CellTable) (entries : List SortEntry) (from s t : ℕ) (entry : SortEntry) → slice_get entries s ≡ Some entry → get_or (numbers_from from entries) s None ≡ Some t → Beside (existence_sorts entries) (existing_rows tables (numbers_from from entries)) entry.name (true_rows (table_at tables t))
existing-at tables [] from s t entry h e = absurd cc
existing-at tables (first ∷ entries) from zero t entry h e = elim (cases_Bool (constant_regime first.regime)) [
  | inl constant ↦ let none = rw constant at e in absurd (cc none)
  | inr varying ↦
      let number = rw varying at e in
      let same : first ≡ entry = cc in
      (rw varying (record { at = 0; name_at = ap (λ (x : SortEntry). Some x.name) same; list_at = ap (λ (n : Option ℕ). slice_get (existing_rows tables (n ∷ [])) 0) number }))
]
existing-at tables (first ∷ entries) from (suc s) t entry h e = elim (cases_Bool (constant_regime first.regime)) [
  | inl constant ↦
      let number = rw constant at e in
      let later = existing-at tables entries from s t entry h number in
      (rw constant later)
  | inr varying ↦
      let number = rw varying at e in
      let later = existing-at tables entries (suc from) s t entry h number in
      (rw varying (record { at = suc later.at; name_at = later.name_at; list_at = later.list_at }))
]

-- the sizes, by number
pub size-there : {A : Type 0} (sorts : List A) (sizes : List ℕ) (s : ℕ) (x : A) → AreSizes sorts sizes → slice_get sorts s ≡ Some x → slice_get sizes s ≡ Some (size_at sizes s)
size-there [] sizes s x h e = absurd cc
size-there (y ∷ sorts) [] s x h e = absurd h
size-there (y ∷ sorts) (size ∷ sizes) zero x h e = refl
size-there (y ∷ sorts) (size ∷ sizes) (suc s) x h e = size-there sorts sizes s x h.1 e

-- each list under its name
related-name : (sig : Signature) (view : KripkeTables) (i : ℕ) (entry : IndexEntry) (w v : ℕ) → HasDifferentNames sig → IsKripke view → IsKripkeFor sig view → slice_get sig.indexes i ≡ Some entry → w < view.worlds → v < view.worlds
    → (kripke_model sig (kripke_structure view)).related entry.name w v ≡ related_in view i w v
related-name sig view i entry w v d is o h from to =
    let in_indexes : i < view.indexes = omega (arith, o.indexes, slice_get_within sig.indexes i entry h) in
    let name : slice_get (index_names sig.indexes) i ≡ Some entry.name = slice_get-map (λ (e : IndexEntry). e.name) sig.indexes i ∙ ap (option_map (λ (e : IndexEntry). e.name)) h in
    let found = (found-law sig d).relations (kripke_structure view).relations i entry.name (true_rows (relation_table view i)) name (relations-at view i is in_indexes) in
    let p = relation_in view i w v is in_indexes from to in
    ap (has_row (w ∷ v ∷ [])) found ∙ true_row-cell (relation_table view i) (w ∷ v ∷ []) (is.filled i p.table_in) p.row_in

size-name : (sig : Signature) (view : KripkeTables) (s : ℕ) (entry : SortEntry) → HasDifferentNames sig → IsKripkeFor sig view → slice_get sig.sorts s ≡ Some entry
    → (kripke_model sig (kripke_structure view)).size entry.name ≡ size_at view.sizes s
size-name sig view s entry d o h =
    let name : slice_get (sort_names sig.sorts) s ≡ Some entry.name = slice_get-map (λ (e : SortEntry). e.name) sig.sorts s ∙ ap (option_map (λ (e : SortEntry). e.name)) h in
    (found-law sig d).sizes view.sizes s entry.name (size_at view.sizes s) name (size-there sig.sorts view.sizes s entry o.sorts h)

-- existence in a sort that has a table, and in one that has none
present-number : (sig : Signature) (view : KripkeTables) (s : ℕ) (entry : SortEntry) (w a : ℕ) → HasDifferentNames sig → IsKripke view → IsKripkeFor sig view → slice_get sig.sorts s ≡ Some entry → w < view.worlds → a < size_at view.sizes s
    → (t : Option ℕ) → existence_number view s ≡ t → constant_regime entry.regime ≡ false → IsSome t
    → has_row (w ∷ a ∷ []) (under same_sort [] (beside (existence_sorts sig.sorts) (kripke_structure view).existing) entry.name) ≡ stands_in view.tables t (w ∷ a ∷ [])
present-number sig view s entry w a d is o h world element None number varying some = absurd cc
present-number sig view s entry w a d is o h world element (Some t) number varying some =
    let numbers = ap (λ (ns : List (Option ℕ)). get_or ns s None) (sym o.existence) ∙ number in
    let there = existing-at view.tables sig.sorts (length sig.indexes) s t entry h numbers in
    let list : slice_get (kripke_structure view).existing there.at ≡ Some (true_rows (table_at view.tables t)) = ap (λ (ns : List (Option ℕ)). slice_get (existing_rows view.tables ns) there.at) o.existence ∙ there.list_at in
    let found = (found-law sig d).existing (kripke_structure view).existing there.at entry.name (true_rows (table_at view.tables t)) there.name_at list in
    let p = existence_in view s t w a is number world element in
    ap (has_row (w ∷ a ∷ [])) found ∙ true_row-cell (table_at view.tables t) (w ∷ a ∷ []) (is.filled t p.table_in) p.row_in

present-name : (sig : Signature) (view : KripkeTables) (s : ℕ) (entry : SortEntry) (w a : ℕ) → HasDifferentNames sig → IsKripke view → IsKripkeFor sig view → slice_get sig.sorts s ≡ Some entry → w < view.worlds → a < size_at view.sizes s
    → (kripke_model sig (kripke_structure view)).present entry.name w a ≡ exists_in view s w a
present-name sig view s entry w a d is o h world element =
    let places = places-law sig view is o in
    let rows = has_row (w ∷ a ∷ []) (under same_sort [] (beside (existence_sorts sig.sorts) (kripke_structure view).existing) entry.name) in
    let by_regime = is_constant-place sig d s entry h in
    elim (cases_Bool (constant_regime entry.regime)) [
      | inl constant ↦
          ap (λ b. b || rows) (by_regime ∙ constant)
          ∙ sym (ap (λ (t : Option ℕ). stands_in view.tables t (w ∷ a ∷ [])) (places.constant s entry h constant))
      | inr varying ↦
          ap (λ b. b || rows) (by_regime ∙ varying)
          ∙ present-number sig view s entry w a d is o h world element (existence_number view s) refl varying (places.varying s entry h varying)
    ]

symbol-name : (sig : Signature) (y : ℕ) (entry : SymbolEntry) → slice_get sig.symbols y ≡ Some entry → slice_get (symbol_names sig.symbols) y ≡ Some entry.name
symbol-name sig y entry h = slice_get-map (λ (e : SymbolEntry). e.name) sig.symbols y ∙ ap (option_map (λ (e : SymbolEntry). e.name)) h

-- the table of a symbol under its name
symbol-found : (sig : Signature) (view : KripkeTables) (y : ℕ) (entry : SymbolEntry) → HasDifferentNames sig → IsKripke view → IsKripkeFor sig view → slice_get sig.symbols y ≡ Some entry
    → under same_text (Rows []) (beside (symbol_names sig.symbols) (kripke_structure view).symbols) entry.name ≡ listed (symbol_table view y)
symbol-found sig view y entry d is o h =
    let count = (places-law sig view is o).symbols in
    let below : y < length view.world_first = omega (arith, count, slice_get_within sig.symbols y entry h) in
    (found-law sig d).symbols (kripke_structure view).symbols y entry.name (listed (symbol_table view y)) (symbol-name sig y entry h) (symbols-at view y is below)

symbol-filled : (sig : Signature) (view : KripkeTables) (y : ℕ) (entry : SymbolEntry) → IsKripke view → IsKripkeFor sig view → slice_get sig.symbols y ≡ Some entry → IsFilled (symbol_table view y)
symbol-filled sig view y entry is o h =
    let count = (places-law sig view is o).symbols in
    is.filled (symbol_number view y) (symbol_in view y is (omega (arith, count, slice_get_within sig.symbols y entry h)))

holds-name : (sig : Signature) (view : KripkeTables) (y : ℕ) (entry : SymbolEntry) (w : ℕ) (args : List ℕ) → HasDifferentNames sig → IsKripke view → IsKripkeFor sig view → slice_get sig.symbols y ≡ Some entry → entry.gives ≡ None → InRange (symbol_table view y).sizes (w ∷ args)
    → (kripke_model sig (kripke_structure view)).holds entry.name w args ≡ predicate_in view y w args
holds-name sig view y entry w args d is o h none in_row =
    let shape = ap (λ (s : Shape). s.values) (symbol-shape-at sig view y entry is o h) in
    let predicate : (symbol_table view y).values ≡ None = shape ∙ ap (option_map (size_at view.sizes)) none in
    ap (λ (t : Table). is_true_row t (w ∷ args)) (symbol-found sig view y entry d is o h)
    ∙ holds-listed (symbol_table view y) (w ∷ args) predicate (symbol-filled sig view y entry is o h) in_row

-- a function's rows have a world in front where it is flexible
function-front : (gives : Option ℕ) (entry : SymbolEntry) → entry.gives ≡ gives → IsSome gives → takes_world entry ≡ flexible_designation entry.designation
function-front None entry e some = absurd cc
function-front (Some n) entry e some = ap (λ (g : Option ℕ). world_in_front g entry.designation) e

pub some-size : (gives : Option ℕ) (f : ℕ → ℕ) → IsSome gives → IsSome (option_map f gives)
some-size None f some = some
some-size (Some n) f some = refl

value-name : (sig : Signature) (view : KripkeTables) (y : ℕ) (entry : SymbolEntry) (w : ℕ) (args : List ℕ) → HasDifferentNames sig → IsKripke view → IsKripkeFor sig view → slice_get sig.symbols y ≡ Some entry → IsSome entry.gives → InRange (symbol_table view y).sizes (symbol_row view y w args)
    → (kripke_model sig (kripke_structure view)).value entry.name w args ≡ value_in view y w args
value-name sig view y entry w args d is o h some in_row =
    let shape = ap (λ (s : Shape). s.values) (symbol-shape-at sig view y entry is o h) in
    let function : IsSome (symbol_table view y).values = rw shape (some-size entry.gives (size_at view.sizes) some) in
    let front : is_flexible sig entry.name ≡ takes_world_in view y = is_flexible-place sig d y entry h ∙ sym (function-front entry.gives entry refl some) ∙ sym (world-first-at sig view y entry o h) in
    ap (λ (t : Table). value_at_row t (if is_flexible sig entry.name then w ∷ args else args)) (symbol-found sig view y entry d is o h)
    ∙ ap (λ b. value_at_row (listed (symbol_table view y)) (if b then w ∷ args else args)) front
    ∙ value-listed (symbol_table view y) (symbol_row view y w args) function (symbol-filled sig view y entry is o h) in_row

pub names-law : NamesLaw
names-law sig view d is o = record {
  size = λ s entry h. size-name sig view s entry d o h;
  related = λ i entry w v h from to. related-name sig view i entry w v d is o h from to;
  present = λ s entry w a h world element. present-name sig view s entry w a d is o h world element;
  value = λ y entry w args h some in_row. value-name sig view y entry w args d is o h some in_row;
  holds = λ y entry w args h none in_row. holds-name sig view y entry w args d is o h none in_row;
}
