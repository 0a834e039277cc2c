-- The structure that an interpretation gives is one for the classical signature, within the limits.
use Rattle.std.proofs.Common.{◌≡◌, ◌<◌, ◌≤◌, ℕ, zero, suc, ◌+◌, Bool, true, false, List, [], ◌∷◌, map, length, get_or, min, nat_lt, Option, None, Some, Result, Ok, Err, refl, ◌∙◌, sym, subst, arith}
use Rattle.std.specs.Prelude.{if◌then◌else◌, slice_index, unwrap_or}
use Rattle.std.specs.Option.{option_map}
use Rattle.std.proofs.lemmas.Bool.{ltb-false}
use Rattle.std.proofs.lemmas.List.{length-map}
use Rattle.nxf_tree.specs.declared.tree.ClassicalSignature.{ClassicalSignature}
use Rattle.nxf_tree.specs.declared.tree.File.{File}
use Rattle.nxf_tree.specs.declared.tree.TableEntry.{TableEntry}
use Rattle.nxf_tree.specs.Rows.{AreSizes, size_at}
use Rattle.classical_signature_laws.specs.ClassicalSignatures.{HasSorts, GivesBelow}
use Rattle.fin_struct.specs.Cells.{bound_of}
use Rattle.fin_struct.specs.Limits.{cells_in, cells_of}
use Rattle.fin_struct.specs.RowLists.{AreFilled, IsFilled}
use Rattle.fin_struct.specs.StructureTables.{StructureTables, IsFor, IsStructure}
use Rattle.fin_struct.proofs.CallerLemmas.{length-all_rows}
use Rattle.interpretation_definitions.specs.declared.error.InterpError.{InterpError}
use Rattle.interpretation_definitions.specs.declared.error.InterpError.TheVariants as error
use Rattle.interpretation_definitions.specs.declared.fault.PartFault.{PartFault}
use Rattle.interpretation_definitions.specs.Context.{Context, actual_entry, elements_listed, symbols_of}
use Rattle.interpretation_definitions.specs.Given.{Given, given_by, value_in}
use Rattle.interpretation_definitions.specs.Interpretation.{GivenRows, completed, context_of_file, interpretation_of, rows_given, rows_of, sizes_of, structure_given, table_given, tables_from, unless_fault, value_or_0, within_limits}
use Rattle.interpretation_definitions.specs.Judging.{fault_in}
use Rattle.interpretation_definitions.specs.Parts.{all_parts}
use Rattle.interpretation_parts.specs.steps.Items.{numbered_parts}
use Rattle.interpretation_parts.proofs.CallerLemmas.{AllBelow, found_below, given_below, fault_of_items}
use Rattle.interp_reader.proofs.FinishLemmas.{given_fits}
use Rattle.interp_reader.proofs.LimitLemmas.{after_limits}
use Rattle.interp_reader.proofs.ReadLemmas.{context_fits, parts_are, sizes_fit}

-- ---- the steps of reading

-- no statement has a fault
no_fault : (fault : Option (ℕ × PartFault)) (more : Result StructureTables InterpError) (S : StructureTables) → unless_fault fault more ≡ Ok S → (fault ≡ None) × (more ≡ Ok S)
no_fault None more S h = (refl, h)
no_fault (Some f) more S h = absurd cc

-- no symbol is incomplete
complete : (sizes : List ℕ) (given : GivenRows) (tables : List TableEntry) (found : Option (List ℕ)) (S : StructureTables) → completed sizes given tables found ≡ Ok S → S ≡ structure_given sizes given tables
complete sizes given tables None S h = let is : structure_given sizes given tables ≡ S = cc in sym is
complete sizes given tables (Some name) S h = absurd cc

-- the worlds and the cells are few
record IsKept (sizes : List ℕ) (given : GivenRows) (csig : ClassicalSignature) (S : StructureTables) : Type 0 where
  worlds : size_at sizes 0 ≤ 65535
  cells : cells_of csig sizes ≤ 4194304
  is : S ≡ structure_given sizes given csig.tables

kept : (sizes : List ℕ) (given : GivenRows) (csig : ClassicalSignature) (S : StructureTables) → within_limits sizes given csig ≡ Ok S → IsKept sizes given csig S
kept sizes given csig S h = by (nat_lt 65535 (size_at sizes 0)) refl (nat_lt 4194304 (cells_of csig sizes)) refl h
  where
    by : (a : Bool) → nat_lt 65535 (size_at sizes 0) ≡ a → (b : Bool) → nat_lt 4194304 (cells_of csig sizes) ≡ b
        → (if a then Err (error.TooManyWorlds (size_at sizes 0)) else (if b then Err (error.TooBig (cells_of csig sizes)) else after_limits sizes given csig)) ≡ Ok S → IsKept sizes given csig S
    by true w b c e = absurd cc
    by false w true c e = absurd cc
    by false w false c e = record {
      worlds = omega (arith, ltb-false 65535 (size_at sizes 0) w);
      cells = omega (arith, ltb-false 4194304 (cells_of csig sizes) c);
      is = complete sizes given csig.tables _ S e;
    }

-- ---- the values

size_some : {A : Type 0} (xs : List A) (sizes : List ℕ) (k : ℕ) → AreSizes xs sizes → k < length xs → 0 < size_at sizes k
size_some [] [] k are h = absurd (omega arith)
size_some [] (n ∷ sizes) k are h = absurd are
size_some (x ∷ xs) [] k are h = absurd are
size_some (x ∷ xs) (n ∷ sizes) zero are h = are.0
size_some (x ∷ xs) (n ∷ sizes) (suc k) are h = size_some xs sizes k are.1 (omega arith)

module _ (csig : ClassicalSignature) (sorts : HasSorts csig) (sizes : List ℕ) (are : AreSizes csig.sorts sizes) (gs : List Given) (below : AllBelow csig sizes gs) where
  some_value : (gives : Option ℕ) → GivesBelow (length csig.sorts) gives → 0 < bound_of (option_map (size_at sizes) gives)
  some_value None h = omega arith
  some_value (Some sort) h = size_some csig.sorts sizes sort are h

  gives_sort : (place : ℕ) (d : TableEntry) → place < length (symbols_of csig) → GivesBelow (length csig.sorts) (get_or (symbols_of csig) place d).gives
  gives_sort zero d h = sorts.some_sort
  gives_sort (suc t) d h = sorts.values t d (omega arith)

  value_below : (place : ℕ) (d : TableEntry) (row : List ℕ) → place < length (symbols_of csig) → value_or_0 (rows_given gs) place row < bound_of (option_map (size_at sizes) (get_or (symbols_of csig) place d).gives)
  value_below place d row h = by (value_in gs place row) refl
    where
      by : (found : Option ℕ) → value_in gs place row ≡ found → unwrap_or found 0 < bound_of (option_map (size_at sizes) (get_or (symbols_of csig) place d).gives)
      by None is = some_value (get_or (symbols_of csig) place d).gives (gives_sort place d h)
      by (Some value) is = found_below csig sizes gs place row value d below h is

-- ---- the tables

module _ (sizes : List ℕ) (given : GivenRows) where
  each_below : (bound place : ℕ) (rows : List (List ℕ)) (k : ℕ) → ((row : List ℕ) → value_or_0 given place row < bound) → k < length (map (value_or_0 given place) rows) → slice_index (map (value_or_0 given place) rows) k < bound
  each_below bound place [] k below h = absurd (omega arith)
  each_below bound place (row ∷ rows) zero below h = below row
  each_below bound place (row ∷ rows) (suc k) below h = each_below bound place rows k below (omega arith)

  table_filled : (place : ℕ) (entry : TableEntry) → ((row : List ℕ) → value_or_0 given place row < bound_of (option_map (size_at sizes) entry.gives)) → IsFilled (table_given sizes given place entry)
  table_filled place entry below = record {
    count = length-map (rows_of sizes entry) (value_or_0 given place) ∙ length-all_rows (map (size_at sizes) entry.args);
    below = λ k h. each_below (bound_of (option_map (size_at sizes) entry.gives)) place (rows_of sizes entry) k below h;
  }

  tables_filled : (place : ℕ) (entries : List TableEntry)
      → ((t : ℕ) (d : TableEntry) (row : List ℕ) → t < length entries → value_or_0 given (place + t) row < bound_of (option_map (size_at sizes) (get_or entries t d).gives))
      → AreFilled (tables_from place sizes given entries)
  tables_filled place [] below t h = absurd (omega arith)
  tables_filled place (entry ∷ entries) below zero h =
      let at : place + 0 ≡ place = omega arith in
      table_filled place entry (λ row. subst (λ (p : ℕ). value_or_0 given p row < bound_of (option_map (size_at sizes) entry.gives)) at (below 0 entry row (omega arith)))
  tables_filled place (entry ∷ entries) below (suc t) h =
      tables_filled (suc place) entries
      (λ u d row lt. let at : place + suc u ≡ suc place + u = omega arith in
      subst (λ (p : ℕ). value_or_0 given p row < bound_of (option_map (size_at sizes) (get_or entries u d).gives)) at (below (suc u) d row (omega (arith, lt)))) t (omega (arith, h))

-- ---- the structure

few_in : (n : ℕ) → min n 18446744073709551615 ≤ 4194304 → n ≤ 4194304
few_in n h = omega (arith, h)

pub structure_is : (csig : ClassicalSignature) (file : File) (S : StructureTables) → HasSorts csig → interpretation_of csig file ≡ Ok S → IsStructure S × IsFor csig S
structure_is csig file S sorts h = subst (λ (T : StructureTables). IsStructure T × IsFor csig T) (sym limits.is) (is_one, over)
  where
    context : Context
    context = context_of_file csig file.statements

    sizes : List ℕ
    sizes = sizes_of context

    gs : List Given
    gs = given_by context (all_parts file.statements)

    steps : (fault_in context file.statements ≡ None) × (within_limits sizes (rows_given gs) csig ≡ Ok S)
    steps = no_fault (fault_in context file.statements) (within_limits sizes (rows_given gs) csig) S h

    limits : IsKept sizes (rows_given gs) csig S
    limits = kept sizes (rows_given gs) csig S steps.1

    are : AreSizes csig.sorts sizes
    are = sizes_fit 0 (elements_listed csig.sorts (all_parts file.statements)) csig.sorts

    below : AllBelow csig sizes gs
    below = subst (λ parts. AllBelow csig sizes (given_by context parts)) (parts_are 1 file.statements)
        (given_below csig context (context_fits csig (all_parts file.statements)) sorts (numbered_parts 1 file.statements) (sym (fault_of_items context file.statements) ∙ steps.0))

    given : StructureTables
    given = structure_given sizes (rows_given gs) csig.tables

    over : IsFor csig given
    over = given_fits csig sizes (rows_given gs) given are refl

    is_one : IsStructure given
    is_one = record {
      actual_in = value_below csig sorts sizes are gs below 0 actual_entry [] (omega arith);
      within = record {
        few_worlds = limits.worlds;
        few_cells = subst (λ n. cells_in n ≤ 4194304) (sym over.shapes) (few_in _ limits.cells);
      };
      filled = tables_filled sizes (rows_given gs) 1 csig.tables (λ t d row lt.
          let at : suc t ≡ 1 + t = omega arith in
          subst (λ (p : ℕ). value_or_0 (rows_given gs) p row < bound_of (option_map (size_at sizes) (get_or csig.tables t d).gives)) at (value_below csig sorts sizes are gs below (suc t) d row (omega (arith, lt))));
    }
