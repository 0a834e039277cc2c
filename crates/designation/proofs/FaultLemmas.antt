-- The condition of a function by name and by number.
use Rattle.std.proofs.Common.{◌≡◌, ℕ, zero, suc, ◌+◌, ◌<◌, ◌≤◌, Bool, true, false, List, [], ◌∷◌, length, get_or, drop, refl, sym, ap, subst, ◌∙◌, add-one, arith, Option, None, Some}
use Rattle.std.specs.Prelude.{◌&&◌, map, slice_get, if◌then◌else◌}
use Rattle.std.specs.Option.{IsSome, is_some, option_map, unwrap_or}
use Rattle.std.specs.List.{list_all, All}
use Rattle.std.proofs.lemmas.Bool.{and_parts}
use Rattle.std.proofs.lemmas.Option.{slice_get_read, slice_get_within, unwrap_or-slice_get}
use Rattle.nxf_tree.specs.declared.tree.Signature.{Signature}
use Rattle.nxf_tree.specs.declared.tree.SortEntry.{SortEntry}
use Rattle.nxf_tree.specs.declared.tree.SortName.{SortName}
use Rattle.nxf_tree.specs.declared.tree.SymbolEntry.{SymbolEntry}
use Rattle.nxf_tree.specs.Counting.{all_below, implies}
use Rattle.nxf_tree.specs.Rows.{size_at}
use Rattle.nxf_tree.specs.Signature.{sort_at, is_constant}
use Rattle.nxf_tree.specs.Sorting.{in_range, gives_in_range}
use Rattle.nxf_tree.specs.Conditions.{each_row, all_present, values_exist, argument_sorts, meets_result, varying_result}
use Rattle.nxf_tree.specs.Kripke.{KripkeModel}
use Rattle.nxf_tree.specs.Structures.{kripke_model}
use Rattle.nxf_tree.specs.WellFormed.{IsWellFormed, has_sorts_in_range}
use Rattle.fin_struct.specs.declared.condition.Condition.TheVariants.{Local}
use Rattle.fin_struct.specs.FirstFault.{meets_condition, meets_term, meets_term_at, terms_from}
use Rattle.structure_laws.proofs.FirstFaultLemmas.{first_failing, first-holds, first-fails, drop-read}
use Rattle.classical_syntax.proofs.CallerLemmas.{in_range-below, sort_at-place}
use Rattle.fin_struct.specs.Places.{InRange}
use Rattle.fin_struct.specs.Cells.{bound_of}
use Rattle.fin_struct.specs.RowLists.{IsFilled}
use Rattle.fin_struct.specs.KripkeTables.{KripkeTables, IsKripke, IsKripkeFor, exists_in, value_in, symbol_table, symbol_row, symbol_number, takes_world_in, kripke_structure}
use Rattle.structure_laws.specs.KripkeLaws.{HasPlaces, ReadsByName}
use Rattle.structure_laws.proofs.Counted.{all_same, all_pass}
use Rattle.structure_laws.proofs.KripkeNames.{places-law}
use Rattle.structure_laws.proofs.RowLaws.{cells-below}
use Rattle.condition_axioms.specs.steps.Listed.{IsListed}
use Rattle.condition_axioms.proofs.CallerLemmas.{listed-at}
use Rattle.designation.specs.steps.RowTests.{rows_pass, value_exists_at, values_exist_in, HasFunction}

-- a premise that no row changes goes in front
each-true : (K : KripkeModel) (sorts : List SortName) → each_row K sorts (λ row. true) ≡ true
each-true K [] = refl
each-true K (s ∷ ss) = all_same (K.size s) _ _ (λ a below. each-true K ss) ∙ all_pass (K.size s)

each-implies : (K : KripkeModel) (sorts : List SortName) (a : Bool) (p q : List ℕ → Bool) → each_row K sorts (λ row. implies (a && p row) (q row)) ≡ implies a (each_row K sorts (λ row. implies (p row) (q row)))
each-implies K sorts true p q = refl
each-implies K sorts false p q = each-true K sorts

-- what a model says of a sort is what the structure has under its number
pub record SortReads (sig : Signature) (view : KripkeTables) (s : ℕ) : Type 0 where
  pub size : (kripke_model sig (kripke_structure view)).size (sort_at sig.sorts s) ≡ size_at view.sizes s
  pub present : (w a : ℕ) → w < view.worlds → a < size_at view.sizes s → (kripke_model sig (kripke_structure view)).present (sort_at sig.sorts s) w a ≡ exists_in view s w a

some-at : (entries : List SortEntry) (s : ℕ) → s < length entries → (entry : SortEntry) × (slice_get entries s ≡ Some entry)
some-at [] s below = absurd (omega arith)
some-at (entry ∷ entries) zero below = (entry, refl)
some-at (entry ∷ entries) (suc s) below = some-at entries s (omega arith)

sort-reads : (sig : Signature) (view : KripkeTables) (s : ℕ) → ReadsByName sig view (kripke_model sig (kripke_structure view)) → s < length sig.sorts → SortReads sig view s
sort-reads sig view s reads below =
    let K : KripkeModel = kripke_model sig (kripke_structure view) in
    let entry = (some-at sig.sorts s below).0 in
    let at = (some-at sig.sorts s below).1 in
    let name = sort_at-place sig.sorts s entry at in
    record {
      size = ap K.size name ∙ reads.size s entry at;
      present = λ w a in_worlds in_size. ap (λ (n : SortName). K.present n w a) name ∙ reads.present s entry w a at in_worlds in_size;
    }

abbrev pub AllRead : Signature → KripkeTables → List ℕ → Type 0
AllRead sig view [] = Unit {0}
AllRead sig view (s ∷ ss) = SortReads sig view s × AllRead sig view ss

all-read : (sig : Signature) (view : KripkeTables) (ss : List ℕ) → ReadsByName sig view (kripke_model sig (kripke_structure view)) → list_all (in_range sig.sorts) ss ≡ true → AllRead sig view ss
all-read sig view [] reads h = tt
all-read sig view (s ∷ ss) reads h =
    let parts = and_parts (in_range sig.sorts s) (list_all (in_range sig.sorts) ss) h in
    (sort-reads sig view s reads (in_range-below sig.sorts s parts.0), all-read sig view ss reads parts.1)

-- row by row
rows-named : (sig : Signature) (view : KripkeTables) (w : ℕ) → w < view.worlds → (ss : List ℕ) → AllRead sig view ss → (q p : List ℕ → Bool) → ((row : List ℕ) → InRange (map (size_at view.sizes) ss) row → q row ≡ p row)
    → each_row (kripke_model sig (kripke_structure view)) (map (sort_at sig.sorts) ss) (λ row. implies (all_present (kripke_model sig (kripke_structure view)) w (map (sort_at sig.sorts) ss) row) (q row)) ≡ rows_pass view w ss p
rows-named sig view w in_worlds [] read q p h = h [] tt
rows-named sig view w in_worlds (s ∷ ss) read q p h =
    let K : KripkeModel = kripke_model sig (kripke_structure view) in
    let names = map (sort_at sig.sorts) ss in
    ap (λ m. all_below m (λ a. each_row K names (λ row. implies (K.present (sort_at sig.sorts s) w a && all_present K w names row) (q (a ∷ row))))) read.0.size
    ∙ all_same (size_at view.sizes s) _ _ (λ a below.
    each-implies K names (K.present (sort_at sig.sorts s) w a) (λ row. all_present K w names row) (λ row. q (a ∷ row))
    ∙ (λ i. implies (read.0.present w a in_worlds below i) (rows-named sig view w in_worlds ss read.1 (λ row. q (a ∷ row)) (λ row. p (a ∷ row)) (λ row r. h (a ∷ row) (below, r)) i)))

-- a row under the world where there is one
row-under : (b : Bool) (sizes own row : List ℕ) (n w : ℕ) → own ≡ (if b then n ∷ sizes else sizes) → w < n → InRange sizes row → InRange own (if b then w ∷ row else row)
row-under true sizes own row n w e below h = subst (λ (xs : List ℕ). InRange xs (w ∷ row)) (sym e) (below, h)
row-under false sizes own row n w e below h = subst (λ (xs : List ℕ). InRange xs row) (sym e) h

pub row-in : (view : KripkeTables) (f r w : ℕ) (sorts row : List ℕ) → HasFunction view f sorts r → w < view.worlds → InRange (map (size_at view.sizes) sorts) row → InRange (symbol_table view f).sizes (symbol_row view f w row)
row-in view f r w sorts row h below = row-under (takes_world_in view f) (map (size_at view.sizes) sorts) (symbol_table view f).sizes row view.worlds w h.rows below

value-below : (view : KripkeTables) (f r w : ℕ) (sorts row : List ℕ) → IsKripke view → HasFunction view f sorts r → w < view.worlds → InRange (map (size_at view.sizes) sorts) row → value_in view f w row < size_at view.sizes r
value-below view f r w sorts row kripke h below in_row =
    let filled : IsFilled (symbol_table view f) = kripke.filled (symbol_number view f) (omega (arith, kripke.symbols, h.symbol)) in
    let small : value_in view f w row < bound_of (symbol_table view f).values = cells-below (symbol_table view f) (symbol_row view f w row) filled (row-in view f r w sorts row h below in_row) in
    subst (λ (values : Option ℕ). value_in view f w row < bound_of values) h.values small

sorts-below : (sig : Signature) (ss : List ℕ) (n : ℕ) → n ≡ length sig.sorts → list_all (in_range sig.sorts) ss ≡ true → (k : ℕ) → k < length ss → get_or ss k 0 < n
sorts-below sig [] n e h k below = absurd (omega arith)
sorts-below sig (s ∷ ss) n e h zero below = omega (arith, in_range-below sig.sorts s (and_parts (in_range sig.sorts s) (list_all (in_range sig.sorts) ss) h).0)
sorts-below sig (s ∷ ss) n e h (suc k) below = sorts-below sig ss n e (and_parts (in_range sig.sorts s) (list_all (in_range sig.sorts) ss) h).1 k (omega arith)

-- a function of the signature is one of the structure
has-function : (sig : Signature) (view : KripkeTables) (f r : ℕ) (entry : SymbolEntry) → IsKripke view → IsKripkeFor sig view → slice_get sig.symbols f ≡ Some entry → f < length sig.symbols → length entry.args ≤ 1000 → entry.gives ≡ Some r → list_all (in_range sig.sorts) entry.args ≡ true → r < length sig.sorts
    → HasFunction view f entry.args r
has-function sig view f r entry kripke over at below few gives args in_sorts =
    let places : HasPlaces sig view = places-law sig view kripke over in
    record {
      symbol = omega (arith, places.symbols);
      rows =
          ap (λ shape. shape.sizes) (places.shapes f entry at)
          ∙ ap (λ b. if b then view.worlds ∷ map (size_at view.sizes) entry.args else map (size_at view.sizes) entry.args) (sym (places.world_first f entry at));
      values = ap (λ shape. shape.values) (places.shapes f entry at) ∙ ap (option_map (size_at view.sizes)) gives;
      sorts_in = sorts-below sig entry.args (length view.existence) places.sorts args;
      gives_in = omega (arith, places.sorts);
      few = few;
    }

-- the function's condition by name is that by number
pub values-named : (sig : Signature) (view : KripkeTables) (f r : ℕ) (entry : SymbolEntry) → ReadsByName sig view (kripke_model sig (kripke_structure view)) → IsKripke view → HasFunction view f entry.args r → slice_get sig.symbols f ≡ Some entry → entry.gives ≡ Some r → list_all (in_range sig.sorts) entry.args ≡ true → r < length sig.sorts
    → values_exist (kripke_model sig (kripke_structure view)) entry.name (argument_sorts sig entry) (sort_at sig.sorts r) ≡ values_exist_in view f entry.args r
values-named sig view f r entry reads kripke h at gives args in_sorts =
    let K : KripkeModel = kripke_model sig (kripke_structure view) in
    let result : SortReads sig view r = sort-reads sig view r reads in_sorts in
    let some : IsSome entry.gives = ap is_some gives in
    all_same view.worlds _ _ (λ w below. rows-named sig view w below entry.args (all-read sig view entry.args reads args) (λ row. K.present (sort_at sig.sorts r) w (K.value entry.name w row)) (value_exists_at view f r w) (λ row in_row.
    ap (λ x. K.present (sort_at sig.sorts r) w x) (reads.value f entry w row at some (row-in view f r w entry.args row h below in_row))
    ∙ result.present w (value_in view f w row) below (value-below view f r w entry.args row kripke h below in_row)))

-- the function's facts by its entry
pub gives-in : (sig : Signature) (entry : SymbolEntry) (r : ℕ) → has_sorts_in_range sig entry ≡ true → entry.gives ≡ Some r → in_range sig.sorts r ≡ true
gives-in sig entry r h gives = ap (gives_in_range sig.sorts) (sym gives) ∙ (and_parts (list_all (in_range sig.sorts) entry.args) (gives_in_range sig.sorts entry.gives) h).1

pub args-in : (sig : Signature) (entry : SymbolEntry) → has_sorts_in_range sig entry ≡ true → list_all (in_range sig.sorts) entry.args ≡ true
args-in sig entry h = (and_parts (list_all (in_range sig.sorts) entry.args) (gives_in_range sig.sorts entry.gives) h).0

few-args : (entries : List SymbolEntry) (f : ℕ) (entry : SymbolEntry) → All (λ (e : SymbolEntry). length e.args ≤ 1000) entries → slice_get entries f ≡ Some entry → length entry.args ≤ 1000
few-args entries f entry few at =
    let is : get_or entries f entry ≡ entry = sym (unwrap_or-slice_get entries f entry) ∙ ap (λ (o : Option SymbolEntry). unwrap_or o entry) at in
    subst (λ (e : SymbolEntry). length e.args ≤ 1000) is (few f entry (slice_get_within entries f entry at))

pub listed-function : (sig : Signature) (view : KripkeTables) (f r : ℕ) (entry : SymbolEntry) → IsWellFormed sig → IsKripke view → IsKripkeFor sig view → slice_get sig.symbols f ≡ Some entry → entry.gives ≡ Some r → HasFunction view f entry.args r
listed-function sig view f r entry formed kripke over at gives =
    let listed : IsListed sig entry = listed-at sig formed f entry at in
    has-function sig view f r entry kripke over at (slice_get_within sig.symbols f entry at) (few-args sig.symbols f entry formed.arguments at) gives (args-in sig entry listed.in_range) (in_range-below sig.sorts r (gives-in sig entry r listed.in_range gives))

-- the condition of a function into a sort that isn't constant
pub result-varying : (sig : Signature) (K : KripkeModel) (entry : SymbolEntry) (r : ℕ) → entry.gives ≡ Some r → is_constant sig (sort_at sig.sorts r) ≡ false
    → meets_result K entry.name (argument_sorts sig entry) (varying_result sig entry.gives) ≡ values_exist K entry.name (argument_sorts sig entry) (sort_at sig.sorts r)
result-varying sig K entry r gives varying =
    ap (λ (o : Option ℕ). meets_result K entry.name (argument_sorts sig entry) (varying_result sig o)) gives
    ∙ ap (λ (b : Bool). meets_result K entry.name (argument_sorts sig entry) (if b then None else Some (sort_at sig.sorts r))) varying

-- symbol by symbol
pub term_at-place : (sig : Signature) (K : KripkeModel) (entries : List SymbolEntry) (f : ℕ) (entry : SymbolEntry) → slice_get entries f ≡ Some entry → meets_term_at sig K entries f ≡ meets_term sig K entry
term_at-place sig K [] f entry e = absurd cc
term_at-place sig K (first ∷ entries) zero entry e = ap (meets_term sig K) (some first entry e)
  where
    some : (a b : SymbolEntry) → Some a ≡ Some b → a ≡ b
    some a b e = cc
term_at-place sig K (first ∷ entries) (suc f) entry e = term_at-place sig K entries f entry e

-- a symbol at its place
pub record AtSymbol (sig : Signature) (f : ℕ) (entry : SymbolEntry) : Type 0 where
  pub below : f < length sig.symbols
  pub is : entry ≡ get_or sig.symbols f entry

pub at-symbol : (sig : Signature) (f : ℕ) (entry : SymbolEntry) (items : List SymbolEntry) → items ≡ sig.symbols → f < length items → entry ≡ get_or items f entry → AtSymbol sig f entry
at-symbol sig f entry items same below is = record {
  below = omega (arith, ap length same);
  is = is ∙ ap (λ (xs : List SymbolEntry). get_or xs f entry) same;
}

pub found-symbol : (sig : Signature) (f : ℕ) (entry : SymbolEntry) → AtSymbol sig f entry → slice_get sig.symbols f ≡ Some entry
found-symbol sig f entry h = slice_get_read sig.symbols _ f entry refl h.below h.is

pub symbol-holds : (sig : Signature) (K : KripkeModel) (f : ℕ) (entry : SymbolEntry) → AtSymbol sig f entry → meets_term sig K entry ≡ true
    → first_failing (meets_condition sig K) (terms_from f (drop f sig.symbols)) ≡ first_failing (meets_condition sig K) (terms_from (f + 1) (drop (f + 1) sig.symbols))
symbol-holds sig K f entry h holds =
    ap (λ rest. first_failing (meets_condition sig K) (terms_from f rest)) (drop-read sig.symbols f entry h.below h.is)
    ∙ first-holds (meets_condition sig K) (Local f) (terms_from (suc f) (drop (f + 1) sig.symbols)) (term_at-place sig K sig.symbols f entry (found-symbol sig f entry h) ∙ holds)
    ∙ ap (λ n. first_failing (meets_condition sig K) (terms_from n (drop (f + 1) sig.symbols))) (sym (add-one f))

pub symbol-fails : (sig : Signature) (K : KripkeModel) (f : ℕ) (entry : SymbolEntry) → AtSymbol sig f entry → meets_term sig K entry ≡ false → first_failing (meets_condition sig K) (terms_from f (drop f sig.symbols)) ≡ Some (Local f)
symbol-fails sig K f entry h fails =
    ap (λ rest. first_failing (meets_condition sig K) (terms_from f rest)) (drop-read sig.symbols f entry h.below h.is)
    ∙ first-fails (meets_condition sig K) (Local f) (terms_from (suc f) (drop (f + 1) sig.symbols)) (term_at-place sig K sig.symbols f entry (found-symbol sig f entry h) ∙ fails)
