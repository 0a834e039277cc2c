-- Kripke structures as contracts see them: the places of their tables, and what a write of one cell keeps.
use Rattle.std.proofs.Common.{◌≡◌, ℕ, zero, suc, ◌<◌, ◌≤◌, Bool, true, false, nat_eq, List, [], ◌∷◌, length, set, get_or, Option, None, Some, sym, ◌∙◌, ap, subst, arith, length-set}
use Rattle.std.specs.Option.{IsSome}
use Rattle.std.proofs.lemmas.List.{get_or_read}
use Rattle.nxf_tree.specs.Rows.{Shape, size_at, has_row, is_true_row, value_at_row, all_rows}
use Rattle.fin_struct.specs.Places.{place, InRange}
use Rattle.fin_struct.specs.Cells.{CellTable, bound_of, cell, with_cell, table_at}
use Rattle.fin_struct.specs.RowLists.{true_rows, bit_of, rows_of, listed, shape_of, shapes_of, IsFilled}
use Rattle.fin_struct.specs.KripkeTables.{KripkeTables, IsKripke, AreNumbered, pairs_shape, relation_table, existence_number, symbol_number, symbol_table}
use Rattle.fin_struct.proofs.CellsLemmas.{written_shapes}
use Rattle.fin_struct.proofs.RowListsLemmas.{true_row-cell, value_row-cell}
use Rattle.fin_struct.proofs.StructureLemmas.{written_filled, written_shapes_of}

-- tables of existence stand between those of the relations and those of the symbols
pub numbers_end : (numbers : List (Option ℕ)) (from to : ℕ) → AreNumbered from to numbers → from ≤ to
numbers_end [] from to h = omega (arith, h)
numbers_end (None ∷ numbers) from to h = numbers_end numbers from to h
numbers_end (Some t ∷ numbers) from to h = omega (arith, numbers_end numbers (suc from) to h.1)

pub numbers_in : (numbers : List (Option ℕ)) (from to s t : ℕ) → AreNumbered from to numbers → get_or numbers s None ≡ Some t → (from ≤ t) × (t < to)
numbers_in [] from to s t h e = absurd cc
numbers_in (None ∷ numbers) from to zero t h e = absurd cc
numbers_in (None ∷ numbers) from to (suc s) t h e = numbers_in numbers from to s t h e
numbers_in (Some u ∷ numbers) from to zero t h e =
    let same : u ≡ t = cc in
    (omega (arith, h.0), omega (arith, h.0, numbers_end numbers (suc from) to h.1))
numbers_in (Some u ∷ numbers) from to (suc s) t h e =
    let later = numbers_in numbers (suc from) to s t h.1 e in
    (omega (arith, later.0), later.1)

-- what a read or a write of a pair stands on
pub record PairIn (tables : List CellTable) (t : ℕ) (row : List ℕ) : Type 0 where
  pub table_in : t < length tables
  pub row_in : InRange (table_at tables t).sizes row
  pub predicate : (table_at tables t).values ≡ None

pair_in : (tables : List CellTable) (t n m a b : ℕ) → t < length tables → shape_of (table_at tables t) ≡ pairs_shape n m → a < n → b < m → PairIn tables t (a ∷ b ∷ [])
pair_in tables t n m a b below shape h k =
    let sizes : (table_at tables t).sizes ≡ n ∷ m ∷ [] = ap (λ (s : Shape). s.sizes) shape in
    record { table_in = below; row_in = (rw sizes (h, (k, tt))); predicate = ap (λ (s : Shape). s.values) shape }

pub relation_in : (view : KripkeTables) (i w v : ℕ) → IsKripke view → i < view.indexes → w < view.worlds → v < view.worlds → PairIn view.tables i (w ∷ v ∷ [])
relation_in view i w v is h from to =
    pair_in view.tables i view.worlds view.worlds w v (omega (arith, is.symbols, numbers_end view.existence view.indexes view.first_symbol is.numbered)) (is.relations i h) from to

pub existence_in : (view : KripkeTables) (s t w a : ℕ) → IsKripke view → existence_number view s ≡ Some t → w < view.worlds → a < size_at view.sizes s → PairIn view.tables t (w ∷ a ∷ [])
existence_in view s t w a is number world element =
    let between = numbers_in view.existence view.indexes view.first_symbol s t is.numbered number in
    pair_in view.tables t view.worlds (size_at view.sizes s) w a (omega (arith, is.symbols, between.1)) (is.existing s t number) world element

pub symbol_in : (view : KripkeTables) (y : ℕ) → IsKripke view → y < length view.world_first → symbol_number view y < length view.tables
symbol_in view y is h = omega (arith, is.symbols)

pub small_bit : (b : Bool) → bit_of b < 2
small_bit true = omega arith
small_bit false = omega arith

-- a predicate's table has a row exactly where its cell is 1
holds_of : (values : Option ℕ) (sizes cells row : List ℕ) → values ≡ None → IsFilled (record { sizes = sizes; values = values; cells = cells }) → InRange sizes row → is_true_row (rows_of values (all_rows sizes) cells) row ≡ nat_eq (get_or cells (place sizes row) 0) 1
holds_of None sizes cells row e f h = true_row-cell (record { sizes = sizes; values = None; cells = cells }) row f h
holds_of (Some n) sizes cells row e f h = absurd cc

pub holds-listed : (table : CellTable) (row : List ℕ) → table.values ≡ None → IsFilled table → InRange table.sizes row → is_true_row (listed table) row ≡ nat_eq (cell table row) 1
holds-listed table row e f h = holds_of table.values table.sizes table.cells row e f h

-- a function's table has at a row the value that its cell is
value_of : (values : Option ℕ) (sizes cells row : List ℕ) → IsSome values → IsFilled (record { sizes = sizes; values = values; cells = cells }) → InRange sizes row → value_at_row (rows_of values (all_rows sizes) cells) row ≡ get_or cells (place sizes row) 0
value_of None sizes cells row e f h = absurd cc
value_of (Some n) sizes cells row e f h = value_row-cell (record { sizes = sizes; values = Some n; cells = cells }) row f h

pub value-listed : (table : CellTable) (row : List ℕ) → IsSome table.values → IsFilled table → InRange table.sizes row → value_at_row (listed table) row ≡ cell table row
value-listed table row e f h = value_of table.values table.sizes table.cells row e f h

-- no shape changes where a cell is written
pub written_shape : (tables : List CellTable) (t : ℕ) (row : List ℕ) (v u : ℕ) → t < length tables → shape_of (table_at (set tables t (with_cell (table_at tables t) row v)) u) ≡ shape_of (table_at tables u)
written_shape tables t row v u below =
    let same = written_shapes tables t row v u below in
    (λ i. record { sizes = same.0 i; values = same.1 i })

-- a Kripke structure stays one where a cell is written
pub written_kripke : (view : KripkeTables) (new : List CellTable) (t : ℕ) (row : List ℕ) (v : ℕ) → IsKripke view → t < length view.tables → v < bound_of (table_at view.tables t).values → new ≡ set view.tables t (with_cell (table_at view.tables t) row v) → IsKripke (record view { tables = new })
written_kripke view new t row v is below small e =
    let shapes : shapes_of new ≡ shapes_of view.tables = ap shapes_of e ∙ written_shapes_of view.tables t row v in
    let shape : (u : ℕ) → shape_of (table_at new u) ≡ shape_of (table_at view.tables u) = λ u. ap (λ (ts : List CellTable). shape_of (table_at ts u)) e ∙ written_shape view.tables t row v u below in
    record {
      actual_in = is.actual_in;
      within = rw shapes is.within;
      filled = rw e (written_filled view.tables t row v below is.filled small);
      relations = λ i h. shape i ∙ is.relations i h;
      numbered = is.numbered;
      existing = λ s u number. shape u ∙ is.existing s u number;
      symbols = is.symbols ∙ (rw e (sym (length-set view.tables t (with_cell (table_at view.tables t) row v))));
    }

-- the invariant, where a contract sees the structure
pub seen_kripke : (view now : KripkeTables) → IsKripke view → view ≡ now → IsKripke now
seen_kripke view now is same = subst IsKripke same is

pub seen_in : (view now : KripkeTables) (t : ℕ) → view ≡ now → t < length now.tables → t < length view.tables
seen_in view now t same below = subst (λ (x : KripkeTables). t < length x.tables) (sym same) below

-- what a read of a sort's number gives
pub existence_is : (view now : KripkeTables) (s : ℕ) (x : Option ℕ) → view ≡ now → s < length now.existence → x ≡ get_or view.existence s x → x ≡ existence_number now s
existence_is view now s x same below read = get_or_read now.existence s x below (read ∙ ap (λ (y : KripkeTables). get_or y.existence s x) same) None

pub existence_read : (view now : KripkeTables) (s t : ℕ) (x : Option ℕ) → view ≡ now → s < length now.existence → x ≡ get_or view.existence s x → x ≡ Some t → existence_number now s ≡ Some t
existence_read view now s t x same below read is = sym (existence_is view now s x same below read) ∙ is

-- what a read of a symbol's table is
pub symbol_read : (view now : KripkeTables) (y t x : ℕ) (row other : List ℕ) → view ≡ now → t ≡ symbol_number now y → row ≡ other → x ≡ cell (table_at view.tables t) row → x ≡ cell (symbol_table now y) other
symbol_read view now y t x row other same at rows read =
    read
    ∙ ap (λ (z : KripkeTables). cell (table_at z.tables t) row) same
    ∙ ap (λ (n : ℕ). cell (table_at now.tables n) row) at
    ∙ ap (cell (symbol_table now y)) rows

pub bit_below : (values : Option ℕ) (x : ℕ) (b : Bool) → values ≡ None → x ≡ bit_of b → x < bound_of values
bit_below None x b e is = (rw is (small_bit b))
bit_below (Some n) x b e is = absurd cc

-- a structure stays one where a cell is written
pub written_now : (view now : KripkeTables) (new : List CellTable) (t : ℕ) (row : List ℕ) (v : ℕ) → IsKripke view → view ≡ now → t < length now.tables → v < bound_of (table_at now.tables t).values → new ≡ set view.tables t (with_cell (table_at view.tables t) row v) → IsKripke (record view { tables = new })
written_now view now new t row v is same below small e =
    written_kripke view new t row v is (subst (λ (x : KripkeTables). t < length x.tables) (sym same) below) (subst (λ (x : KripkeTables). v < bound_of (table_at x.tables t).values) (sym same) small) e

pub same_shapes : (view now : KripkeTables) (new : List CellTable) (t : ℕ) (row : List ℕ) (v : ℕ) → view ≡ now → new ≡ set view.tables t (with_cell (table_at view.tables t) row v) → shapes_of new ≡ shapes_of now.tables
same_shapes view now new t row v same e =
    ap shapes_of e ∙ written_shapes_of view.tables t row v ∙ ap (λ (x : KripkeTables). shapes_of x.tables) same

-- what is read from a table is what its list has
pub related-listed : (view now : KripkeTables) (i w v x : ℕ) → IsKripke view → view ≡ now → i < now.indexes → w < now.worlds → v < now.worlds → x ≡ cell (table_at view.tables i) (w ∷ v ∷ []) → nat_eq x 1 ≡ has_row (w ∷ v ∷ []) (true_rows (relation_table now i))
related-listed view now i w v x k same h from to read =
    let is = seen_kripke view now k same in
    let p = relation_in now i w v is h from to in
    ap (λ (n : ℕ). nat_eq n 1) (read ∙ ap (λ (y : KripkeTables). cell (table_at y.tables i) (w ∷ v ∷ [])) same)
    ∙ sym (true_row-cell (relation_table now i) (w ∷ v ∷ []) (is.filled i p.table_in) p.row_in)

pub predicate-listed : (view now : KripkeTables) (y x : ℕ) (row : List ℕ) → IsKripke view → view ≡ now → y < length now.world_first → (symbol_table now y).values ≡ None → InRange (symbol_table now y).sizes row → x ≡ cell (symbol_table now y) row → nat_eq x 1 ≡ is_true_row (listed (symbol_table now y)) row
predicate-listed view now y x row k same h none in_row read =
    let is = seen_kripke view now k same in
    ap (λ (n : ℕ). nat_eq n 1) read
    ∙ sym (holds-listed (symbol_table now y) row none (is.filled (symbol_number now y) (symbol_in now y is h)) in_row)

pub function-listed : (view now : KripkeTables) (y x : ℕ) (row : List ℕ) → IsKripke view → view ≡ now → y < length now.world_first → IsSome (symbol_table now y).values → InRange (symbol_table now y).sizes row → x ≡ cell (symbol_table now y) row → x ≡ value_at_row (listed (symbol_table now y)) row
function-listed view now y x row k same h some in_row read =
    let is = seen_kripke view now k same in
    read ∙ sym (value-listed (symbol_table now y) row some (is.filled (symbol_number now y) (symbol_in now y is h)) in_row)
