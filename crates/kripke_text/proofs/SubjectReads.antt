-- What the calls of a structure need and say at the rows of its tables.
use Rattle.std.proofs.Common.{◌≡◌, ℕ, zero, suc, ◌<◌, ◌≤◌, Bool, true, false, cond, List, [], ◌∷◌, map, length, get_or, Option, None, Some, Result, Ok, Err, refl, sym, ap, subst, ◌∙◌, arith}
use Rattle.std.specs.Prelude.{nat_eq, IsSome, IfOk, slice_get}
use Rattle.std.proofs.lemmas.List.{length-map}
use Rattle.std.specs.Option.{option_map}
use Rattle.std.proofs.lemmas.Option.{slice_get-get_or}
use Rattle.nxf_tree.specs.declared.tree.Signature.{Signature}
use Rattle.nxf_tree.specs.declared.tree.SortEntry.{SortEntry}
use Rattle.nxf_tree.specs.declared.tree.SymbolEntry.{SymbolEntry}
use Rattle.nxf_tree.specs.declared.tree.SortName.TheVariants.{Individual}
use Rattle.nxf_tree.specs.declared.tree.Regime.TheVariants.{Constant}
use Rattle.nxf_tree.specs.declared.tree.SortName.{SortName}
use Rattle.nxf_tree.specs.Signature.{constant_regime, takes_world, world_in_front, sort_at}
use Rattle.nxf_tree.specs.Sorting.{in_range}
use Rattle.nxf_tree.specs.Rows.{Shape, size_at}
use Rattle.nxf_tree.specs.Structures.{symbol_shape}
use Rattle.fin_struct.specs.Places.{InRange, rows_count}
use Rattle.fin_struct.specs.Cells.{CellTable, cell, table_at}
use Rattle.fin_struct.specs.RowLists.{shape_of, IsFilled}
use Rattle.fin_struct.proofs.CallerLemmas.{InRange-length, numbers_end}
use Rattle.structure_laws.proofs.KripkeLists.{own-tables}
use Rattle.fin_struct.specs.KripkeTables.{KripkeTables, IsKripke, IsKripkeFor, existence_number, place_or_zero, stands_in, exists_in, symbol_table, symbol_row, takes_world_in}
use Rattle.structure_laws.proofs.FirstFaultLemmas.{regime_at-place}
use Rattle.structure_laws.proofs.KripkeNames.{places-law}
use Rattle.kripke_text.specs.steps.Lines.{shown}
use Rattle.kripke_text_definitions.specs.KripkeText as text
use Rattle.kripke_text_laws.specs.steps.Labels.{row_length}
use Rattle.kripke_text.specs.steps.Subjects.{no_symbol, symbol_at, label_of, number_of, table_of, IsIn}
use Rattle.kripke_text.specs.declared.subject.Subject.{Subject}
use Rattle.kripke_text.specs.declared.subject.Subject.TheVariants.{Relation, Existence, Symbol}
use Rattle.kripke_text.proofs.RowPlaces.{pair_parts, rows_few}

-- a row of a table of pairs
pub record PairRow (table : CellTable) (m n : ℕ) (row : List ℕ) : Type 0 where
  pub long : length row ≡ 2
  pub first : get_or row 0 0 < m
  pub second : get_or row 1 0 < n
  pub parts : row ≡ get_or row 0 0 ∷ get_or row 1 0 ∷ []
  pub values : table.values ≡ None

pair_row : (table : CellTable) (m n : ℕ) (row : List ℕ) → shape_of table ≡ record { sizes = m ∷ n ∷ []; values = None } → InRange table.sizes row → PairRow table m n row
pair_row table m n row shape h =
    let p = pair_parts m n table.sizes row (ap (λ (s : Shape). s.sizes) shape) h in
    record { long = p.0; first = p.1; second = p.2; parts = p.3; values = ap (λ (s : Shape). s.values) shape }

-- a sort that isn't constant has its table
pub record HasTable (view : KripkeTables) (s : ℕ) : Type 0 where
  pub t : ℕ
  pub number : existence_number view s ≡ Some t
  pub sort_in : s < length view.existence
  pub varying : IsSome (existence_number view s)

some_number : (view : KripkeTables) (s : ℕ) (o : Option ℕ) → existence_number view s ≡ o → s < length view.existence → IsSome (existence_number view s) → IsSome o → HasTable view s
some_number view s None e h v k = absurd cc
some_number view s (Some t) e h v k = record { t = t; number = e; sort_in = h; varying = v }

no_sort : SortEntry
no_sort = record { name = Individual; regime = Constant }

pub has_table : (sig : Signature) (view : KripkeTables) (s : ℕ) → IsKripke view → IsKripkeFor sig view → IsIn sig (Existence s) → HasTable view s
has_table sig view s is for_sig h =
    let places = places-law sig view is for_sig in
    let entry = get_or sig.sorts s no_sort in
    let there : slice_get sig.sorts s ≡ Some entry = slice_get-get_or sig.sorts s no_sort h.0 in
    let v = places.varying s entry there (ap constant_regime (sym (regime_at-place sig.sorts s entry there)) ∙ h.1) in
    some_number view s (existence_number view s) refl (omega (arith, places.sorts, h.0)) v v

pub existence_row : (view : KripkeTables) (s : ℕ) (row : List ℕ) → IsKripke view → HasTable view s → InRange (table_of view (Existence s)).sizes row → PairRow (table_of view (Existence s)) view.worlds (size_at view.sizes s) row
existence_row view s row is has r =
    let same : table_at view.tables (place_or_zero (existence_number view s)) ≡ table_at view.tables has.t = ap (λ (o : Option ℕ). table_at view.tables (place_or_zero o)) has.number in
    pair_row (table_of view (Existence s)) view.worlds (size_at view.sizes s) row (ap shape_of same ∙ is.existing s has.t has.number) r

pub existence_has : (sig : Signature) (view : KripkeTables) (subject : Subject) (s : ℕ) → IsKripke view → IsKripkeFor sig view → subject ≡ Existence s → IsIn sig subject → HasTable view s
existence_has sig view subject s is for_sig e h = has_table sig view s is for_sig (subst (IsIn sig) e h)

pub existence_pair : (sig : Signature) (view : KripkeTables) (subject : Subject) (s : ℕ) (row : List ℕ) → IsKripke view → IsKripkeFor sig view → subject ≡ Existence s → IsIn sig subject → InRange (table_of view subject).sizes row → PairRow (table_of view (Existence s)) view.worlds (size_at view.sizes s) row
existence_pair sig view subject s row is for_sig e h r =
    existence_row view s row is (existence_has sig view subject s is for_sig e h) (subst (λ (x : Subject). InRange (table_of view x).sizes row) e r)

-- the world and the element in such a row
pub record ExistenceRow (view : KripkeTables) (s w a : ℕ) : Type 0 where
  pub sort_in : s < length view.existence
  pub varying : IsSome (existence_number view s)
  pub world_in : w < view.worlds
  pub element_in : a < size_at view.sizes s

pub existence_entry : (sig : Signature) (view : KripkeTables) (subject : Subject) (s w a : ℕ) (row : List ℕ) → IsKripke view → IsKripkeFor sig view → subject ≡ Existence s → IsIn sig subject → InRange (table_of view subject).sizes row → w ∷ a ∷ [] ≡ row → ExistenceRow view s w a
existence_entry sig view subject s w a row is for_sig e h r same =
    let has = existence_has sig view subject s is for_sig e h in
    let pair = existence_pair sig view subject s row is for_sig e h r in
    record {
      sort_in = has.sort_in;
      varying = has.varying;
      world_in = subst (λ (x : List ℕ). get_or x 0 0 < view.worlds) (sym same) pair.first;
      element_in = subst (λ (x : List ℕ). get_or x 1 0 < size_at view.sizes s) (sym same) pair.second;
    }

pub existence_sizes : (view : KripkeTables) (s : ℕ) → IsKripke view → HasTable view s → (table_of view (Existence s)).sizes ≡ view.worlds ∷ size_at view.sizes s ∷ []
existence_sizes view s is has =
    ap (λ (o : Option ℕ). (table_at view.tables (place_or_zero o)).sizes) has.number ∙ ap (λ (x : Shape). x.sizes) (is.existing s has.t has.number)

-- ---- what is said of rows

pub value_said : (table : CellTable) (size v : ℕ) (row whole : List ℕ) → table.values ≡ Some size → row ≡ whole → v ≡ cell table row → Some v ≡ shown table.values (cell table whole)
value_said table size v row whole values same e =
    ap Some (e ∙ ap (cell table) same) ∙ ap (λ (o : Option ℕ). shown o (cell table whole)) (sym values)

pub truth_said : (table : CellTable) (r : Bool) (o : Option ℕ) (row whole : List ℕ) → table.values ≡ None → row ≡ whole → r ≡ nat_eq (cell table row) 1 → o ≡ cond r (Some 0) None → o ≡ shown table.values (cell table whole)
truth_said table r o row whole values same e f =
    f
    ∙ ap (λ (b : Bool). cond b (Some 0) None) (e ∙ ap (λ (x : List ℕ). nat_eq (cell table x) 1) same)
    ∙ ap (λ (v : Option ℕ). shown v (cell table whole)) (sym values)

pub exists_said : (view : KripkeTables) (s w a : ℕ) (r : Bool) → (has : HasTable view s) → r ≡ exists_in view s w a → r ≡ nat_eq (cell (table_of view (Existence s)) (w ∷ a ∷ [])) 1
exists_said view s w a r has e =
    e
    ∙ ap (λ (o : Option ℕ). stands_in view.tables o (w ∷ a ∷ [])) has.number
    ∙ ap (λ (o : Option ℕ). nat_eq (cell (table_at view.tables (place_or_zero o)) (w ∷ a ∷ [])) 1) (sym has.number)

-- ---- symbols

pub record SymbolThere (sig : Signature) (view : KripkeTables) (y : ℕ) : Type 0 where
  pub symbol_in : y < length view.world_first
  pub world_first : takes_world_in view y ≡ takes_world (symbol_at sig y)
  pub shape : shape_of (symbol_table view y) ≡ symbol_shape view.worlds view.sizes (symbol_at sig y)

pub symbol_there : (sig : Signature) (view : KripkeTables) (y : ℕ) → IsKripke view → IsKripkeFor sig view → y < length sig.symbols → SymbolThere sig view y
symbol_there sig view y is for_sig h =
    let places = places-law sig view is for_sig in
    let there : slice_get sig.symbols y ≡ Some (symbol_at sig y) = slice_get-get_or sig.symbols y no_symbol h in
    record { symbol_in = omega (arith, places.symbols, h); world_first = places.world_first y (symbol_at sig y) there; shape = places.shapes y (symbol_at sig y) there }

-- the row of these arguments at the world
pub row_there : (sig : Signature) (view : KripkeTables) (y w : ℕ) (row args : List ℕ) → SymbolThere sig view y → row ≡ cond (takes_world (symbol_at sig y)) (w ∷ args) args → symbol_row view y w args ≡ row
row_there sig view y w row args s e = ap (λ (b : Bool). cond b (w ∷ args) args) s.world_first ∙ sym e

-- the size of a function's values
pub values_there : (sig : Signature) (view : KripkeTables) (y : ℕ) (gives : Option ℕ) → SymbolThere sig view y → (symbol_at sig y).gives ≡ gives → (symbol_table view y).values ≡ option_map (size_at view.sizes) gives
values_there sig view y gives s e = ap (λ (x : Shape). x.values) s.shape ∙ ap (option_map (size_at view.sizes)) e

-- the same by the symbol's entry
entry_values : (sig : Signature) (view : KripkeTables) (y : ℕ) (entry : SymbolEntry) (gives : Option ℕ) → IsKripke view → IsKripkeFor sig view → y < length sig.symbols → entry ≡ symbol_at sig y → entry.gives ≡ gives → (symbol_table view y).values ≡ option_map (size_at view.sizes) gives
entry_values sig view y entry gives is for_sig h e given = values_there sig view y gives (symbol_there sig view y is for_sig h) (ap (λ (x : SymbolEntry). x.gives) (sym e) ∙ given)

pub function_values : (sig : Signature) (view : KripkeTables) (y sort : ℕ) (entry : SymbolEntry) → IsKripke view → IsKripkeFor sig view → y < length sig.symbols → entry ≡ symbol_at sig y → entry.gives ≡ Some sort → (symbol_table view y).values ≡ Some (size_at view.sizes sort)
function_values sig view y sort entry = entry_values sig view y entry (Some sort)

pub predicate_values : (sig : Signature) (view : KripkeTables) (y : ℕ) (entry : SymbolEntry) → IsKripke view → IsKripkeFor sig view → y < length sig.symbols → entry ≡ symbol_at sig y → entry.gives ≡ None → (symbol_table view y).values ≡ None
predicate_values sig view y entry = entry_values sig view y entry None

pub some_values : (o : Option ℕ) (n : ℕ) → o ≡ Some n → IsSome o
some_values None n e = absurd cc
some_values (Some m) n e = refl

-- a predicate's row has a world
world_of : (entry : SymbolEntry) → entry.gives ≡ None → takes_world entry ≡ true
world_of entry e = ap (λ (o : Option ℕ). world_in_front o entry.designation) e

pub predicate_row : (sig : Signature) (y w : ℕ) (row args : List ℕ) → row ≡ cond (takes_world (symbol_at sig y)) (w ∷ args) args → (symbol_at sig y).gives ≡ None → w ∷ args ≡ row
predicate_row sig y w row args e gives = sym (e ∙ ap (λ (b : Bool). cond b (w ∷ args) args) (world_of (symbol_at sig y) gives))

world_room_by : (b : Bool) (n : ℕ) (sizes others row : List ℕ) → b ≡ true → sizes ≡ cond b (n ∷ others) others → InRange sizes row → 0 < length row
world_room_by true n sizes others row b e h = let l = ap length e in omega (arith, l, InRange-length sizes row h)
world_room_by false n sizes others row b e h = absurd cc

-- a row with a world in front has room for it
pub world_room : (sig : Signature) (view : KripkeTables) (y : ℕ) (row : List ℕ) → SymbolThere sig view y → takes_world (symbol_at sig y) ≡ true → InRange (symbol_table view y).sizes row → 0 < length row
world_room sig view y row s b h = world_room_by (takes_world (symbol_at sig y)) view.worlds (symbol_table view y).sizes _ row b (ap (λ (x : Shape). x.sizes) s.shape) h

-- ---- every table

-- a table has its number among the tables
pub number_in : (sig : Signature) (view : KripkeTables) (subject : Subject) → IsKripke view → IsKripkeFor sig view → IsIn sig subject → number_of view subject < length view.tables
number_in sig view (Relation i) is for_sig h = omega (arith, is.symbols, numbers_end view.existence view.indexes view.first_symbol is.numbered, for_sig.indexes, h)
number_in sig view (Existence s) is for_sig h =
    let has = has_table sig view s is for_sig h in
    let own = (own-tables view is).existing s has.t has.number in
    let number : place_or_zero (existence_number view s) ≡ has.t = ap place_or_zero has.number in
    omega (arith, is.symbols, own.1, number)
number_in sig view (Symbol y) is for_sig h =
    let there = symbol_there sig view y is for_sig h in
    omega (arith, is.symbols, there.symbol_in)

pub table_filled : (sig : Signature) (view : KripkeTables) (subject : Subject) → IsKripke view → IsKripkeFor sig view → IsIn sig subject → IsFilled (table_of view subject)
table_filled sig view subject is for_sig h = is.filled (number_of view subject) (number_in sig view subject is for_sig h)

pub table_few : (sig : Signature) (view : KripkeTables) (subject : Subject) → IsKripke view → IsKripkeFor sig view → IsIn sig subject → rows_count (table_of view subject).sizes ≤ 4194304
table_few sig view subject is for_sig h =
    omega (arith, rows_few view.tables (number_of view subject) (number_in sig view subject is for_sig h), is.within.few_cells)

symbol_columns : (sorts : List SortEntry) (sizes : List ℕ) (worlds : ℕ) (name : List ℕ) (b : Bool) (args : List ℕ) (gives : Option SortName) → length (cond b (worlds ∷ map (size_at sizes) args) (map (size_at sizes) args)) ≡ row_length (text.Symbol name b (map (sort_at sorts) args) gives)
symbol_columns sorts sizes worlds name true args gives = ap suc (length-map args (size_at sizes) ∙ sym (length-map args (sort_at sorts)))
symbol_columns sorts sizes worlds name false args gives = length-map args (size_at sizes) ∙ sym (length-map args (sort_at sorts))

-- a table has as many columns as its label says
pub table_columns : (sig : Signature) (view : KripkeTables) (subject : Subject) → IsKripke view → IsKripkeFor sig view → IsIn sig subject → length (table_of view subject).sizes ≡ row_length (label_of sig subject)
table_columns sig view (Relation i) is for_sig h = ap (λ (x : Shape). length x.sizes) (is.relations i (omega (arith, for_sig.indexes, h)))
table_columns sig view (Existence s) is for_sig h = ap length (existence_sizes view s is (has_table sig view s is for_sig h))
table_columns sig view (Symbol y) is for_sig h =
    let there = symbol_there sig view y is for_sig h in
    let entry = symbol_at sig y in
    ap (λ (x : Shape). length x.sizes) there.shape ∙ symbol_columns sig.sorts view.sizes view.worlds entry.name (takes_world entry) entry.args (option_map (sort_at sig.sorts) entry.gives)

-- a sort below their number is in range
pub sort_in : (sorts : List SortEntry) (s : ℕ) → s < length sorts → in_range sorts s ≡ true
sort_in [] s h = absurd (omega arith)
sort_in (e ∷ sorts) zero h = refl
sort_in (e ∷ sorts) (suc s) h = sort_in sorts s (omega arith)

pub if_ok : {T E : Type 0} → (r : Result T E) (P Q : T → Type 0) → ((x : T) → P x → Q x) → IfOk r P → IfOk r Q
if_ok (Ok x) P Q f h = f x h
if_ok (Err e) P Q f h = h
