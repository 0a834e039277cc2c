-- What the printed names stand for in a classical structure.
use Rattle.std.proofs.Common.{◌≡◌, ℕ, zero, suc, ◌<◌, Bool, true, false, List, [], ◌∷◌, ◌++◌, map, length, get_or, nat_eq, None, Some, refl, sym, ◌∙◌, ap, arith}
use Rattle.std.specs.Prelude.{◌||◌, not, if◌then◌else◌, slice_get}
use Rattle.std.specs.Option.{IsSome, option_map}
use Rattle.std.proofs.lemmas.Bool.{and_from, and_parts, or_right, not-true}
use Rattle.std.proofs.lemmas.Option.{slice_get-map, slice_get-get_or, slice_get_within, get_or_from_slice_get}
use Rattle.std.proofs.lemmas.List.{get_or-map, length-map}
use Rattle.nxf_tree.specs.declared.tree.ClassicalSignature.{ClassicalSignature}
use Rattle.nxf_tree.specs.declared.tree.TableEntry.{TableEntry}
use Rattle.nxf_tree.specs.declared.tree.SortName.{SortName}
use Rattle.nxf_tree.specs.declared.tree.SortName.TheVariants.{User}
use Rattle.nxf_tree.specs.Counting.{has, all_different}
use Rattle.nxf_tree.specs.Names.{same_text, actual_name}
use Rattle.nxf_tree.specs.Signature.{same_sort}
use Rattle.nxf_tree.specs.Rows.{Table, Rows, Shape, size_at, is_true_row, value_at_row, beside, under}
use Rattle.nxf_tree.specs.Structures.{table_names, table_shape, classical_model}
use Rattle.name_laws.specs.NameLaws.{HasDifferentClassicalNames}
use Rattle.name_laws.proofs.Found.{found}
use Rattle.name_laws.proofs.GoodSymbols.{has-append, users-different}
use Rattle.name_laws.proofs.SameNames.{same_text-sym, same_sort-sym}
use Rattle.name_laws.proofs.SortedFormulas.{same_sort-refl}
use Rattle.name_laws.proofs.Spelling.{same_text-refl, same_text-true, never, true-false}
use Rattle.fin_struct.specs.Places.{InRange}
use Rattle.fin_struct.specs.Cells.{no_table, cell, table_at}
use Rattle.fin_struct.specs.RowLists.{listed, shape_of, IsFilled}
use Rattle.fin_struct.specs.StructureTables.{StructureTables, IsStructure, IsFor, classical_structure}
use Rattle.fin_struct.proofs.CallerLemmas.{holds-listed, value-listed}
use Rattle.structure_laws.specs.ClassicalNamed.{PrintedNamesLaw}
use Rattle.structure_laws.proofs.KripkeNames.{size-there, some-size}

-- of different things in two lists, those of each list differ
different-parts : {A : Type 0} (same : A → A → Bool) (xs ys : List A) → all_different same (xs ++ ys) ≡ true → (all_different same xs ≡ true) × (all_different same ys ≡ true)
different-parts same [] ys h = (refl, h)
different-parts same (x ∷ xs) ys h =
    let parts : (not (has same x (xs ++ ys)) ≡ true) × (all_different same (xs ++ ys) ≡ true) = and_parts _ _ h in
    let rest = different-parts same xs ys parts.1 in
    (and_from _ _ (neither (has same x xs) (has same x ys) (sym (ap not (has-append same x xs ys)) ∙ parts.0)) rest.0, rest.1)
  where
    neither : (a b : Bool) → not (a || b) ≡ true → not a ≡ true
    neither true b k = k
    neither false b k = refl

-- the names of the sorts differ, those of the tables do, and none of these is `mk_actual`
record Apart (csig : ClassicalSignature) : Type 0 where
  pub sorts : all_different same_sort csig.sorts ≡ true
  pub tables : all_different same_text (table_names csig.tables) ≡ true
  pub actual : has same_text actual_name (table_names csig.tables) ≡ false

apart-from : (csig : ClassicalSignature) → HasDifferentClassicalNames csig → Apart csig
apart-from csig d =
    let names = actual_name ∷ table_names csig.tables in
    let parts = different-parts same_sort (map User names) csig.sorts d.names in
    let texts : all_different same_text names ≡ true = sym (users-different names) ∙ parts.0 in
    let both : (not (has same_text actual_name (table_names csig.tables)) ≡ true) × (all_different same_text (table_names csig.tables) ≡ true) = and_parts _ _ texts in
    record { sorts = parts.1; tables = both.1; actual = not-true _ both.0 }

listed-name : (names : List (List ℕ)) (t : ℕ) (name : List ℕ) → slice_get names t ≡ Some name → has same_text name names ≡ true
listed-name [] t name h = absurd cc
listed-name (first ∷ names) zero name h =
    let is : first ≡ name = cc in
    ap (λ b. b || has same_text name names) (ap (λ x. same_text x name) is ∙ same_text-refl name)
listed-name (first ∷ names) (suc t) name h = or_right (same_text first name) _ (listed-name names t name h)

not-actual : (csig : ClassicalSignature) (t : ℕ) (name : List ℕ) → Apart csig → slice_get (table_names csig.tables) t ≡ Some name → same_text actual_name name ≡ false
not-actual csig t name d h =
    never (same_text actual_name name) (λ e.
    let same : actual_name ≡ name = same_text-true actual_name name e in
    true-false (sym (ap (λ (x : List ℕ). has same_text x (table_names csig.tables)) same ∙ listed-name (table_names csig.tables) t name h) ∙ d.actual))

-- a table under its number and under its name
record TableKnown (csig : ClassicalSignature) (view : StructureTables) (t : ℕ) (entry : TableEntry) : Type 0 where
  pub filled : IsFilled (table_at view.tables t)
  pub shape : shape_of (table_at view.tables t) ≡ table_shape view.sizes entry
  pub name : slice_get (table_names csig.tables) t ≡ Some entry.name
  pub found : under same_text (Rows []) (beside (table_names csig.tables) (classical_structure view).tables) entry.name ≡ listed (table_at view.tables t)

table-known : (csig : ClassicalSignature) (view : StructureTables) (t : ℕ) (entry : TableEntry) → Apart csig → IsStructure view → IsFor csig view → slice_get csig.tables t ≡ Some entry → TableKnown csig view t entry
table-known csig view t entry d is o h =
    let none = shape_of no_table in
    let in_signature : t < length csig.tables = slice_get_within csig.tables t entry h in
    let count : length view.tables ≡ length csig.tables = sym (length-map view.tables shape_of) ∙ ap length o.shapes ∙ length-map csig.tables (table_shape view.sizes) in
    let below : t < length view.tables = omega (arith, count) in
    let name : slice_get (table_names csig.tables) t ≡ Some entry.name = slice_get-map (λ (e : TableEntry). e.name) csig.tables t ∙ ap (option_map (λ (e : TableEntry). e.name)) h in
    let list : slice_get (classical_structure view).tables t ≡ Some (listed (table_at view.tables t)) =
    slice_get-map listed view.tables t ∙ ap (option_map listed) (slice_get-get_or view.tables t no_table below) in
    record {
      filled = is.filled t below;
      shape =
          sym (get_or-map shape_of view.tables t no_table none below)
          ∙ ap (λ (ss : List Shape). get_or ss t none) o.shapes
          ∙ get_or-map (table_shape view.sizes) csig.tables t entry none in_signature
          ∙ ap (table_shape view.sizes) (get_or_from_slice_get csig.tables t entry entry h);
      name = name;
      found = found same_text (Rows []) same_text-refl same_text-sym (table_names csig.tables) d.tables (classical_structure view).tables t entry.name (listed (table_at view.tables t)) name list;
    }

size-name : (csig : ClassicalSignature) (view : StructureTables) (s : ℕ) (name : SortName) → Apart csig → IsFor csig view → slice_get csig.sorts s ≡ Some name → (classical_model csig (classical_structure view)).size name ≡ size_at view.sizes s
size-name csig view s name d o h = found same_sort 0 same_sort-refl same_sort-sym csig.sorts d.sorts view.sizes s name (size_at view.sizes s) h (size-there csig.sorts view.sizes s name o.sorts h)

value-name : (csig : ClassicalSignature) (view : StructureTables) (t : ℕ) (entry : TableEntry) (args : List ℕ) → Apart csig → IsStructure view → IsFor csig view → slice_get csig.tables t ≡ Some entry → IsSome entry.gives → InRange (table_at view.tables t).sizes args
    → (classical_model csig (classical_structure view)).value entry.name args ≡ cell (table_at view.tables t) args
value-name csig view t entry args d is o h some in_row =
    let known = table-known csig view t entry d is o h in
    let values = ap (λ (s : Shape). s.values) known.shape in
    let function : IsSome (table_at view.tables t).values = rw values (some-size entry.gives (size_at view.sizes) some) in
    let other = value_at_row (under same_text (Rows []) (beside (table_names csig.tables) (classical_structure view).tables) entry.name) args in
    ap (λ b. if b then view.actual else other) (not-actual csig t entry.name d known.name)
    ∙ ap (λ (x : Table). value_at_row x args) known.found
    ∙ value-listed (table_at view.tables t) args function known.filled in_row

holds-name : (csig : ClassicalSignature) (view : StructureTables) (t : ℕ) (entry : TableEntry) (args : List ℕ) → Apart csig → IsStructure view → IsFor csig view → slice_get csig.tables t ≡ Some entry → entry.gives ≡ None → InRange (table_at view.tables t).sizes args
    → (classical_model csig (classical_structure view)).holds entry.name args ≡ nat_eq (cell (table_at view.tables t) args) 1
holds-name csig view t entry args d is o h none in_row =
    let known = table-known csig view t entry d is o h in
    let predicate : (table_at view.tables t).values ≡ None = ap (λ (s : Shape). s.values) known.shape ∙ ap (option_map (size_at view.sizes)) none in
    ap (λ (x : Table). is_true_row x args) known.found ∙ holds-listed (table_at view.tables t) args predicate known.filled in_row

actual-named : (csig : ClassicalSignature) (view : StructureTables) (args : List ℕ) → (classical_model csig (classical_structure view)).value actual_name args ≡ view.actual
actual-named csig view args =
    let other = value_at_row (under same_text (Rows []) (beside (table_names csig.tables) (classical_structure view).tables) actual_name) args in
    ap (λ b. if b then view.actual else other) (same_text-refl actual_name)

pub printed-names-law : PrintedNamesLaw
printed-names-law csig view different is o =
    let d : Apart csig = apart-from csig different in
    record {
      size = λ s name h. size-name csig view s name d o h;
      actual = λ args. actual-named csig view args;
      value = λ t entry args h some in_row. value-name csig view t entry args d is o h some in_row;
      holds = λ t entry args h none in_row. holds-name csig view t entry args d is o h none in_row;
    }
