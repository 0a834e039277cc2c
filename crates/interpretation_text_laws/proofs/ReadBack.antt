-- The interpretation of a structure is read as that structure.
use Rattle.std.proofs.Common.{◌≡◌, ℕ, zero, suc, ◌+◌, ◌<◌, false, cond, List, [], ◌∷◌, ◌++◌, map, length, get_or, Option, None, Some, refl, sym, ap, subst, ◌∙◌, append_assoc, append-nil, arith}
use Rattle.std.specs.Prelude.{flat_map, max, nat_lt, Ok, Err}
use Rattle.std.specs.List.{AllByRecursion}
use Rattle.std.proofs.lemmas.Bool.{ltb-true}
use Rattle.std.proofs.lemmas.Grind.{flat_map-append}
use Rattle.std.proofs.lemmas.List.{length-append, get_or-append-add, get_or_default}
use Rattle.nxf_tree.specs.declared.tree.SortName.{SortName}
use Rattle.nxf_tree.specs.declared.tree.SortName.TheVariants.{User}
use Rattle.nxf_tree.specs.declared.tree.Signature.{Signature}
use Rattle.nxf_tree.specs.declared.tree.TableEntry.{TableEntry}
use Rattle.nxf_tree.specs.declared.tree.ClassicalSignature.{ClassicalSignature}
use Rattle.nxf_tree.specs.declared.tree.Statement.{Statement}
use Rattle.nxf_tree.specs.declared.tree.Typing.TheVariants.{Symbol}
use Rattle.nxf_tree.specs.Names.{actual_name, world_name}
use Rattle.nxf_tree.specs.Rows.{all_rows, AllBelow, AreSizes, numbers_below, beside, size_at}
use Rattle.nxf_tree.specs.Problem.{classical_sort_at}
use Rattle.name_laws.specs.NameLaws.{HasDifferentClassicalNames}
use Rattle.name_laws.proofs.Spelling.{never}
use Rattle.classical_signature_laws.specs.ClassicalSignatures.{GivesBelow}
use Rattle.classical_signature_laws.proofs.ClassicalSorts.{has-sorts, has-arguments, classical-names}
use Rattle.fin_struct.specs.Cells.{CellTable}
use Rattle.fin_struct.specs.Limits.{cells_in, cells_of}
use Rattle.fin_struct.specs.StructureTables.{StructureTables}
use Rattle.interpretation_definitions.specs.declared.element.Element.{Element}
use Rattle.interpretation_definitions.specs.declared.error.InterpError.TheVariants as error
use Rattle.interpretation_definitions.specs.Parts.{Argument, Part, Declares, Equates, Plain, all_parts, parts_of}
use Rattle.interpretation_definitions.specs.Context.{Context, actual_entry, symbols_of, count_for, listings_of, elements_listed, and_listings, names_declared, context_of, element}
use Rattle.interpretation_definitions.specs.Given.{Given, value_in, row_given, stated, own_rows, given_by}
use Rattle.interpretation_definitions.specs.Judging.{part_fault, fault_in}
use Rattle.interpretation_definitions.specs.Interpretation.{sizes_from, sizes_of, rows_given, incomplete_from, completed, within_limits, unless_fault, interpretation_of}
use Rattle.interpretation_text_definitions.specs.ElementNames.{element_name}
use Rattle.interpretation_text_definitions.specs.InterpretationText.{sort_statements, actual_statements, table_statements, all_sort_statements, all_table_statements, interpretation_file}
use Rattle.interpretation_text_laws.specs.ElementsApart.{HasElementsApart}
use Rattle.interpretation_text_laws.specs.SpelledInterpretations.{IsOverSome}
use Rattle.interpretation_text_laws.proofs.Apart.{elements_apart}
use Rattle.interpretation_text_laws.proofs.Fitting.{size_some}
use Rattle.interpretation_text_laws.proofs.ReadParts.{row_arguments, literal_part, row_part, sort_parts, actual_parts, table_parts, parts_of_sort, parts_of_actual, parts_of_table}
use Rattle.interpretation_text_laws.proofs.ReadNames.{own_context, elements_to, listings_to, flat_last, all_listed, count_to}
use Rattle.interpretation_text_laws.proofs.ReadSymbols.{symbol_no_element}
use Rattle.interpretation_text_laws.proofs.ReadFaults.{symbol_declared, row_read, equation_read}
use Rattle.interpretation_text_laws.proofs.ReadWalk.{AreClean, clean_both, no_faults}
use Rattle.interpretation_text_laws.proofs.ReadRows.{tables_rows, AreBefore, tables_back, tables_whole}
use Rattle.interpretation_text_laws.proofs.ReadTables.{all_by_places, IsEntry, AreEntries, tables_stated, tables_clean, row_stated, given_after, own_none}
use Rattle.interpretation_text_laws.proofs.ReadSorts.{sorts_parts, sorts_listings, sorts_clean, no_rows_of_sorts}

-- ---- the parts of the whole file

parts_of_sorts : (sorts : List SortName) (sizes : List ℕ) (n : ℕ) → ((k : ℕ) → k < n → 0 < size_at sizes k) → all_parts (flat_map (λ k. sort_statements sorts k (size_at sizes k)) (numbers_below n)) ≡ sorts_parts sorts sizes n
parts_of_sorts sorts sizes zero h = refl
parts_of_sorts sorts sizes (suc n) h =
    let each = λ (k : ℕ). sort_statements sorts k (size_at sizes k) in
    ap all_parts (flat_last each n) ∙ flat_map-append parts_of (flat_map each (numbers_below n)) (each n)
    ∙ (λ i. parts_of_sorts sorts sizes n (λ k l. h k (omega arith)) i ++ parts_of_sort sorts n (size_at sizes n) (h n (omega arith)) i)
    ∙ sym (flat_last (λ k. sort_parts sorts k (size_at sizes k)) n)

parts_of_tables : (sorts : List SortName) (ps : List (TableEntry × CellTable))
    → all_parts (flat_map (λ (p : TableEntry × CellTable). table_statements sorts p.0 p.1) ps) ≡ flat_map (λ (p : TableEntry × CellTable). table_parts sorts p.0 p.1) ps
parts_of_tables sorts [] = refl
parts_of_tables sorts (p ∷ ps) =
    flat_map-append parts_of (table_statements sorts p.0 p.1) (flat_map (λ (q : TableEntry × CellTable). table_statements sorts q.0 q.1) ps)
    ∙ (λ i. parts_of_table sorts p.0 p.1 i ++ parts_of_tables sorts ps i)

-- ---- what the parts list

literal_lists_nothing : (sorts all : List SortName) (name : List ℕ) (args : List Argument) (gives : Option ℕ) (c : ℕ) → listings_of all (literal_part sorts name args gives c) ≡ []
literal_lists_nothing sorts all name args None c = refl
literal_lists_nothing sorts all name args (Some sort) c = refl

rows_list_nothing : (sorts all : List SortName) (entry : TableEntry) (rs : List (List ℕ × ℕ)) → flat_map (listings_of all) (map (row_part sorts entry) rs) ≡ []
rows_list_nothing sorts all entry [] = refl
rows_list_nothing sorts all entry (r ∷ rs) = λ i. literal_lists_nothing sorts all entry.name (row_arguments sorts entry.args r.0) entry.gives r.1 i ++ rows_list_nothing sorts all entry rs i

tables_list_nothing : (sorts all : List SortName) (ps : List (TableEntry × CellTable)) → flat_map (listings_of all) (flat_map (λ (p : TableEntry × CellTable). table_parts sorts p.0 p.1) ps) ≡ []
tables_list_nothing sorts all [] = refl
tables_list_nothing sorts all (p ∷ ps) =
    flat_map-append (listings_of all) (table_parts sorts p.0 p.1) (flat_map (λ (q : TableEntry × CellTable). table_parts sorts q.0 q.1) ps)
    ∙ (λ i. rows_list_nothing sorts all p.0 (beside (all_rows p.1.sizes) p.1.cells) i ++ tables_list_nothing sorts all ps i)

-- ---- sizes

sizes_counted : (k : ℕ) (elements : List (List ℕ × Element)) (sorts : List SortName) (sizes : List ℕ) → AreSizes sorts sizes → ((j : ℕ) → j < length sorts → count_for (k + j) elements ≡ size_at sizes j) → sizes_from k elements sorts ≡ sizes
sizes_counted k elements [] [] h c = refl
sizes_counted k elements [] (size ∷ sizes) h c = absurd h
sizes_counted k elements (s ∷ sorts) [] h c = absurd h
sizes_counted k elements (s ∷ sorts) (size ∷ sizes) h c =
    let here : max 1 (count_for k elements) ≡ size = omega (arith, ap (λ n. count_for n elements) (let e : k + 0 ≡ k = omega arith in e), c 0 (omega arith), h.0) in
    let rest = sizes_counted (suc k) elements sorts sizes h.1 (λ j l. ap (λ n. count_for n elements) (let e : suc k + j ≡ k + suc j = omega arith in e) ∙ c (suc j) (omega arith)) in
    λ i. here i ∷ rest i

-- ---- symbols

-- what is known of each table
record IsGood (sorts : List SortName) (entry : TableEntry) : Type 0 where
  pub args : AllBelow (length sorts) entry.args
  pub gives : GivesBelow (length sorts) entry.gives

module _ (sig : Signature) (csig : ClassicalSignature) (S : StructureTables) (h : IsOverSome sig csig S) where
  apart : HasElementsApart csig
  apart = elements_apart sig csig h.classical

  different : HasDifferentClassicalNames csig
  different = classical-names sig csig h.classical

  abbrev statements : List Statement
  statements = (interpretation_file csig S).statements

  abbrev declared : List (List ℕ)
  declared = names_declared (all_parts statements)

  abbrev C : Context
  C = own_context csig S.sizes apart different declared

  abbrev sorted : List Part
  sorted = sorts_parts csig.sorts S.sizes (length csig.sorts)

  abbrev of_actual : List Part
  of_actual = actual_parts csig.sorts S.actual

  abbrev tabled : List Part
  tabled = flat_map (λ (p : TableEntry × CellTable). table_parts csig.sorts p.0 p.1) (beside csig.tables S.tables)

  file_parts : all_parts statements ≡ sorted ++ (of_actual ++ tabled)
  file_parts =
      flat_map-append parts_of (all_sort_statements csig S.sizes) (actual_statements csig.sorts S.actual ++ all_table_statements csig S.tables)
      ∙ (λ i. parts_of_sorts csig.sorts S.sizes (length csig.sorts) (λ k l. size_some csig.sorts S.sizes k h.over.sorts l) i
      ++ (flat_map-append parts_of (actual_statements csig.sorts S.actual) (all_table_statements csig S.tables) ∙ (λ j. parts_of_actual csig.sorts S.actual j ++ parts_of_tables csig.sorts (beside csig.tables S.tables) j)) i)

  -- ---- the context

  all_listings : flat_map (listings_of csig.sorts) (sorted ++ (of_actual ++ tabled)) ≡ listings_to csig.sorts S.sizes (length csig.sorts)
  all_listings =
      flat_map-append (listings_of csig.sorts) sorted (of_actual ++ tabled)
      ∙ (λ i. sorts_listings csig S.sizes apart different (length csig.sorts) (omega arith) i ++ tables_list_nothing csig.sorts csig.sorts (beside csig.tables S.tables) i)
      ∙ append-nil (listings_to csig.sorts S.sizes (length csig.sorts))

  elements_are : elements_listed csig.sorts (all_parts statements) ≡ elements_to csig.sorts S.sizes (length csig.sorts)
  elements_are =
      ap (λ ps. and_listings [] (flat_map (listings_of csig.sorts) ps)) file_parts ∙ ap (and_listings []) all_listings
      ∙ all_listed csig S.sizes apart different (length csig.sorts) (omega arith)

  context_is : context_of csig (all_parts statements) ≡ C
  context_is = λ i. record { sorts = csig.sorts; symbols = symbols_of csig; elements = elements_are i; declared = declared }

  -- ---- symbols at their places

  first_sort : classical_sort_at csig.sorts 0 ≡ User world_name
  first_sort = ap (λ (c : ClassicalSignature). classical_sort_at c.sorts 0) h.classical.is

  some_sort : 0 < length csig.sorts
  some_sort = (has-sorts sig csig h.classical).some_sort

  good : AllByRecursion (IsGood csig.sorts) csig.tables
  good = all_by_places (IsGood csig.sorts) csig.tables actual_entry (λ t l. record { args = has-arguments sig csig h.classical t actual_entry l; gives = (has-sorts sig csig h.classical).values t actual_entry l })

  entries_from : (front entries : List TableEntry) (t : ℕ) → symbols_of csig ≡ front ++ entries → t ≡ length front → AllByRecursion (IsGood csig.sorts) entries → AreEntries csig S.sizes apart different declared t entries
  entries_from front [] t is long goods = tt
  entries_from front (entry ∷ entries) t is long goods =
      let many : length (symbols_of csig) ≡ length front + suc (length entries) = ap length is ∙ length-append front (entry ∷ entries) in
      let there : get_or (symbols_of csig) t entry ≡ entry =
      ap (λ es. get_or es t entry) is ∙ ap (λ n. get_or (front ++ entry ∷ entries) n entry) (let e : t ≡ length front + 0 = omega (arith, long) in e) ∙ get_or-append-add front (entry ∷ entries) 0 entry in (
        record { there = omega (arith, many, long); is = there; args = goods.0.args; gives = goods.0.gives },
        entries_from (front ++ entry ∷ []) entries (suc t) (is ∙ sym (append_assoc front (entry ∷ []) entries)) (omega (arith, long, length-append front (entry ∷ []))) goods.1,
      )

  entries : AreEntries csig S.sizes apart different declared 1 csig.tables
  entries = entries_from (actual_entry ∷ []) csig.tables 1 refl refl good

  actual_is : IsEntry csig S.sizes apart different declared 0 actual_entry
  actual_is = record { there = omega arith; is = refl; args = tt; gives = some_sort }

  no_own_rows : own_rows C ≡ []
  no_own_rows =
      own_none csig S.sizes apart different declared 0 (symbols_of csig)
      (all_by_places (λ (e : TableEntry). element C e.name ≡ None) (symbols_of csig) actual_entry (λ t l.
      symbol_no_element csig S.sizes apart different declared t (get_or (symbols_of csig) t actual_entry) l (get_or_default (symbols_of csig) t (get_or (symbols_of csig) t actual_entry) actual_entry l)))

  -- ---- rows

  given_of_sorts : given_by C sorted ≡ []
  given_of_sorts = λ i. no_own_rows i ++ no_rows_of_sorts C csig.sorts S.sizes (length csig.sorts) i

  actual_stated : flat_map (stated C) of_actual ≡ row_given 0 [] S.actual
  actual_stated =
      append-nil (stated C (Equates actual_name [] (Plain (element_name csig.sorts 0 S.actual))))
      ∙ row_stated csig S.sizes apart different declared 0 actual_entry ([], S.actual) actual_is (record { in_range = tt; below = h.structure.actual_in })

  given_before_tables : given_by C (sorted ++ of_actual) ≡ row_given 0 [] S.actual
  given_before_tables = given_after csig S.sizes apart different declared sorted of_actual ∙ (λ i. given_of_sorts i ++ actual_stated i)

  abbrev all_given : List Given
  all_given = row_given 0 [] S.actual ++ tables_rows 1 csig.tables S.tables

  given_is : given_by C (all_parts statements) ≡ all_given
  given_is =
      ap (given_by C) (file_parts ∙ sym (append_assoc sorted of_actual tabled))
      ∙ given_after csig S.sizes apart different declared (sorted ++ of_actual) tabled
      ∙ (λ i. given_before_tables i ++ tables_stated csig S.sizes apart different declared 1 csig.tables S.tables entries h.over.shapes h.structure.filled i)

  -- ---- no faults

  actual_clean : AreClean C sorted of_actual
  actual_clean =
      let type = Declares (Symbol actual_name [] (Some (User world_name))) in
      let now : given_by C (sorted ++ type ∷ []) ≡ [] = given_after csig S.sizes apart different declared sorted (type ∷ []) ∙ (λ i. given_of_sorts i ++ []) in (
        subst (λ (s : SortName). part_fault C sorted (Declares (Symbol actual_name [] (Some s))) ≡ None) first_sort
            (symbol_declared csig S.sizes apart different declared sorted 0 actual_entry (omega arith) refl tt some_sort),
        (
          equation_read csig S.sizes apart different declared (sorted ++ type ∷ []) 0 actual_entry [] 0 S.actual (omega arith) refl refl some_sort h.structure.actual_in
              (row_read csig S.sizes apart different declared [] [] tt tt) (ap (λ gs. value_in gs 0 []) now),
          tt,
        ),
      )

  all_clean : AreClean C [] (sorted ++ (of_actual ++ tabled))
  all_clean =
      clean_both C [] sorted (of_actual ++ tabled) (sorts_clean csig S.sizes apart different declared (length csig.sorts) (omega arith))
      (clean_both C sorted of_actual tabled actual_clean
      (tables_clean csig S.sizes apart different declared (sorted ++ of_actual) 1 csig.tables S.tables entries h.over.shapes h.structure.filled
      (subst (AreBefore 1) (sym given_before_tables) (let l : 0 < 1 = omega arith in (l, tt)))))

  no_fault_in : fault_in C statements ≡ None
  no_fault_in = no_faults C statements [] 1 (subst (AreClean C []) (sym file_parts) all_clean)

  -- ---- limits, and the structure

  sizes_are : sizes_of C ≡ S.sizes
  sizes_are =
      sizes_counted 0 (elements_to csig.sorts S.sizes (length csig.sorts)) csig.sorts S.sizes h.over.sorts
      (λ j l. ap (λ n. count_for n (elements_to csig.sorts S.sizes (length csig.sorts))) (let e : 0 + j ≡ j = omega arith in e) ∙ count_to csig S.sizes apart different (length csig.sorts) j l)

  few_worlds : nat_lt 65535 (size_at S.sizes 0) ≡ false
  few_worlds = never (nat_lt 65535 (size_at S.sizes 0)) (λ e. absurd (omega (arith, ltb-true 65535 (size_at S.sizes 0) e, h.structure.within.few_worlds)))

  few_cells : nat_lt 4194304 (cells_of csig S.sizes) ≡ false
  few_cells = never (nat_lt 4194304 (cells_of csig S.sizes)) (λ e.
      absurd (omega (arith, ltb-true 4194304 (cells_of csig S.sizes) e, ap cells_in h.over.shapes, h.structure.within.few_cells)))

  first_before : AreBefore 1 (row_given 0 [] S.actual)
  first_before = let l : 0 < 1 = omega arith in (l, tt)

  structure_is : within_limits S.sizes (rows_given all_given) csig ≡ Ok S
  structure_is =
      let given = rows_given all_given in
      let rest = completed S.sizes given csig.tables (incomplete_from 0 S.sizes given (symbols_of csig)) in
      (λ i. cond (few_worlds i) (Err (error.TooManyWorlds (size_at S.sizes 0))) (cond (few_cells i) (Err (error.TooBig (cells_of csig S.sizes))) rest))
      ∙ (λ i. completed S.sizes given csig.tables (tables_whole S.sizes (row_given 0 [] S.actual) 1 csig.tables S.tables first_before h.over.shapes h.structure.filled i))
      ∙ (λ i. Ok (record { actual = S.actual; sizes = S.sizes; tables = tables_back S.sizes (row_given 0 [] S.actual) 1 csig.tables S.tables first_before h.over.shapes h.structure.filled i }))

  pub read_back : interpretation_of csig (interpretation_file csig S) ≡ Ok S
  read_back =
      (λ i. unless_fault (fault_in (context_is i) statements) (within_limits (sizes_of (context_is i)) (rows_given (given_by (context_is i) (all_parts statements))) csig))
      ∙ (λ i. unless_fault (no_fault_in i) (within_limits (sizes_are i) (rows_given (given_is i)) csig))
      ∙ structure_is
