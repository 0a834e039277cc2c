-- The interpretation of a structure is regular among interpretations, and within their levels.
use Rattle.std.proofs.Common.{◌≡◌, ℕ, zero, suc, ◌<◌, ◌≤◌, Bool, true, false, cond, ◌&&◌, List, [], ◌∷◌, ◌++◌, map, length, get_or, Option, None, Some, refl, sym, ap, subst, ◌∙◌, arith}
use Rattle.std.specs.Prelude.{codes, flat_map, nat_eq, nat_le, nat_lt}
use Rattle.std.specs.Option.{option_map}
use Rattle.std.specs.List.{list_all, AllByRecursion}
use Rattle.std.proofs.Math.Nat.{mul-pos}
use Rattle.std.proofs.lemmas.Bool.{and_parts, and_from, le-leb, leb-true, ltb-true}
use Rattle.std.proofs.lemmas.List.{length-map}
use Rattle.std.proofs.lemmas.List.Folds.{list_all-append}
use Rattle.nxf_base.specs.Bytes.{is_printable_text}
use Rattle.nxf_tree.specs.declared.profile.Profile.TheVariants.{Classical, Interpretation}
use Rattle.nxf_tree.specs.Profiles.{Allowed, allowed_in, most_arguments, greatest_nesting, levels_of}
use Rattle.nxf_tree.specs.declared.tree.SortName.{SortName}
use Rattle.nxf_tree.specs.declared.tree.SortName.TheVariants.{Individual, User}
use Rattle.nxf_tree.specs.declared.tree.Signature.{Signature}
use Rattle.nxf_tree.specs.declared.tree.TableEntry.{TableEntry}
use Rattle.nxf_tree.specs.declared.tree.ClassicalSignature.{ClassicalSignature}
use Rattle.nxf_tree.specs.declared.tree.Formula.{And, Or, Distinct}
use Rattle.nxf_tree.specs.declared.tree.Typing.{Typing}
use Rattle.nxf_tree.specs.declared.tree.Typing.TheVariants as typing
use Rattle.nxf_tree.specs.Shapes.{Name0}
use Rattle.nxf_tree.specs.Names.{actual_name, world_name}
use Rattle.nxf_tree.specs.ClassicalSignature.{classical_signature_of}
use Rattle.nxf_tree.specs.Axioms.{added_axioms}
use Rattle.nxf_tree.specs.Rows.{Shape, numbers_below, all_rows, beside, size_at, AreSizes, AllBelow}
use Rattle.nxf_tree.specs.Structures.{table_shape, table_shapes}
use Rattle.nxf_tree.specs.WellFormed.{IsWellFormed}
use Rattle.nxf_tree.specs.Text.{has_brackets}
use Rattle.nxf_tree.specs.Problem.{declaration, sort_declarations, declarations, classical_sort_at, table_declaration, axiom_statements}
use Rattle.nxf_tree.specs.RegularFormulas.{is_regular_sort, is_regular_list, is_regular_formula}
use Rattle.nxf_tree.specs.Regular.{is_regular_result, is_regular_typing, is_regular_statement}
use Rattle.syntax_definitions.specs.Levels.{formula_levels}
use Rattle.syntax_definitions.proofs.CallerLemmas.{regular_And, regular_Or}
use Rattle.syntax_definitions.proofs.CallerLemmas.{levels_of_And, levels_of_Or}
use Rattle.printed_problem_laws.proofs.PrintedAxioms.{all_append}
use Rattle.printed_problem_laws.proofs.PrintedNames.{printable_world, printable_actual}
use Rattle.printed_problem_laws.proofs.PrintedStatements.{printed_regular}
use Rattle.printed_text_laws.proofs.RoundTrip.{regular_file_spelled, no_other_spelled}
use Rattle.classical_signature_laws.specs.ClassicalSignatures.{IsClassicalOf}
use Rattle.classical_signature_laws.proofs.ClassicalSorts.{has-arguments}
use Rattle.fin_struct.specs.Places.{rows_count}
use Rattle.fin_struct.specs.Cells.{CellTable}
use Rattle.fin_struct.specs.RowLists.{shape_of, shapes_of, AreFilled}
use Rattle.fin_struct.specs.StructureTables.{StructureTables, IsStructure, IsFor}
use Rattle.fin_struct.proofs.CallerLemmas.{length-all_rows}
use Rattle.fin_struct.proofs.CallerLemmas.{filled_tail}
use Rattle.interpretation_text_definitions.specs.ElementNames.{element_name, element_names}
use Rattle.interpretation_text_definitions.specs.InterpretationText.{axiom_named, joined, element, element_declaration, is_element, closure_of, sort_statements, actual_statements, row_elements, literal, literals, table_statements, all_sort_statements, interpretation_file}
use Rattle.interpretation_text_laws.specs.SpelledInterpretations.{FitsLaw, SpellsLaw, OnlyLaw}
use Rattle.interpretation_text_laws.proofs.Fine.{bracket_level, regular_sort_at, element_printable, all_map, all_below, IsFineTerm, name_fine, terms_regular, terms_low, IsFine, signed_fine, equal_fine, value_fine, joined_regular, joined_low, IsFineStatement, declaration_fine, axiom_fine, statements_regular, statements_low}

abbrev own : Allowed
own = allowed_in Interpretation

-- ---- what the declarations of the printed problem say of the signature's names

same_declaration : (name : List ℕ) (t : Typing) → is_regular_statement (allowed_in Classical) (declaration name t) ≡ is_regular_statement own (declaration name t)
unfolding most_arguments
same_declaration name typing.Individual = refl
same_declaration name (typing.Sort s) = refl
same_declaration name (typing.Symbol f args gives) = refl

-- a symbol whose name can be printed, and with not too many arguments
record IsGood (sorts : List SortName) (entry : TableEntry) : Type 0 where
  pub name : is_printable_text entry.name ≡ true
  pub few : length entry.args ≤ own.arguments
  pub declared : is_regular_statement own (table_declaration sorts entry) ≡ true

good_by : (sorts : List SortName) (entry : TableEntry) → is_regular_statement own (table_declaration sorts entry) ≡ true → IsGood sorts entry
good_by sorts entry h =
    let args = map (classical_sort_at sorts) entry.args in
    let gives = option_map (classical_sort_at sorts) entry.gives in
    let t = and_parts (is_printable_text entry.name) (is_regular_typing own (typing.Symbol entry.name args gives)) h in
    let u = and_parts (is_printable_text entry.name) (nat_le (length args) own.arguments && (list_all is_regular_sort args && is_regular_result gives)) t.1 in
    let v = and_parts (nat_le (length args) own.arguments) (list_all is_regular_sort args && is_regular_result gives) u.1 in
    record { name = t.0; few = omega (arith, leb-true (length args) own.arguments v.0, length-map entry.args (classical_sort_at sorts)); declared = h }

good_tables : (sorts : List SortName) (entries : List TableEntry) → list_all (is_regular_statement (allowed_in Classical)) (map (table_declaration sorts) entries) ≡ true → AllByRecursion (IsGood sorts) entries
good_tables sorts [] h = tt
good_tables sorts (entry ∷ entries) h =
    let t = and_parts (is_regular_statement (allowed_in Classical) (table_declaration sorts entry)) (list_all (is_regular_statement (allowed_in Classical)) (map (table_declaration sorts) entries)) h in
    (good_by sorts entry (sym (same_declaration entry.name (typing.Symbol entry.name (map (classical_sort_at sorts) entry.args) (option_map (classical_sort_at sorts) entry.gives))) ∙ t.0), good_tables sorts entries t.1)

good_sorts : (sorts : List SortName) → list_all (is_regular_statement (allowed_in Classical)) (sort_declarations sorts) ≡ true → list_all is_regular_sort sorts ≡ true
good_sorts [] h = refl
good_sorts (Individual ∷ sorts) h = good_sorts sorts h
good_sorts (User name ∷ sorts) h =
    let t = and_parts (is_regular_statement (allowed_in Classical) (declaration name (typing.Sort name))) (list_all (is_regular_statement (allowed_in Classical)) (sort_declarations sorts)) h in
    let u = and_parts (is_printable_text name) (is_printable_text name) t.0 in
    and_from (is_printable_text name) (list_all is_regular_sort sorts) u.0 (good_sorts sorts t.1)

record HasGoodNames (csig : ClassicalSignature) : Type 0 where
  pub sorts : list_all is_regular_sort csig.sorts ≡ true
  pub tables : AllByRecursion (IsGood csig.sorts) csig.tables

good_names_of : (sig : Signature) → IsWellFormed sig → HasGoodNames (classical_signature_of sig)
good_names_of sig formed =
    let csig = classical_signature_of sig in
    let test = is_regular_statement (allowed_in Classical) in
    let whole : list_all test (declarations csig ++ (axiom_statements 1 (added_axioms sig) ++ [])) ≡ true = printed_regular sig (record { statements = [] }) formed refl in
    let parts = and_parts (list_all test (declarations csig)) (list_all test (axiom_statements 1 (added_axioms sig) ++ [])) (sym (list_all-append test (declarations csig) (axiom_statements 1 (added_axioms sig) ++ [])) ∙ whole) in
    let actual = declaration actual_name (typing.Symbol actual_name [] (Some (User world_name))) in
    let split = and_parts (list_all test (sort_declarations csig.sorts)) (list_all test (actual ∷ map (table_declaration csig.sorts) csig.tables)) (sym (list_all-append test (sort_declarations csig.sorts) (actual ∷ map (table_declaration csig.sorts) csig.tables)) ∙ parts.0) in
    record { sorts = good_sorts csig.sorts split.0; tables = good_tables csig.sorts csig.tables (and_parts (test actual) (list_all test (map (table_declaration csig.sorts) csig.tables)) split.1).1 }

good_names : (sig : Signature) (csig : ClassicalSignature) → IsClassicalOf sig csig → HasGoodNames csig
good_names sig csig h = subst HasGoodNames (sym h.is) (good_names_of sig h.well_formed)

-- ---- sorts

-- each size is at least 1
pub size_some : {A : Type 0} (xs : List A) (sizes : List ℕ) (k : ℕ) → AreSizes xs sizes → k < length xs → 0 < size_at sizes k
size_some [] sizes k h below = absurd (omega arith)
size_some (x ∷ xs) [] k h below = absurd h
size_some (x ∷ xs) (size ∷ sizes) zero h below = h.0
size_some (x ∷ xs) (size ∷ sizes) (suc k) h below = size_some xs sizes k h.1 (omega arith)

pub length_below : (n : ℕ) → length (numbers_below n) ≡ n
length_below zero = refl
length_below (suc n) = omega (arith, length-more (numbers_below n) n, length_below n)
  where
    length-more : (xs : List ℕ) (x : ℕ) → length (xs ++ x ∷ []) ≡ suc (length xs)
    length-more [] x = refl
    length-more (y ∷ xs) x = ap suc (length-more xs x)

module _ (sorts : List SortName) (sorted : list_all is_regular_sort sorts ≡ true) where
  element_fine : (k n : ℕ) → IsFineTerm own (element sorts k n)
  element_fine k n = name_fine own (element_name sorts k n) (element_printable sorts k n sorted)

  closed_fine : (k size : ℕ) → AllByRecursion (IsFine own) (map is_element (element_names sorts k size))
  closed_fine k size = map_twice (numbers_below size)
    where
      map_twice : (ns : List ℕ) → AllByRecursion (IsFine own) (map is_element (map (element_name sorts k) ns))
      map_twice [] = tt
      map_twice (n ∷ ns) = (equal_fine own _ _ (record { regular = refl; flat = refl }) (element_fine k n), map_twice ns)

  names_fine : (k size : ℕ) → AllByRecursion (IsFineTerm own) (map Name0 (element_names sorts k size))
  names_fine k size = map_twice (numbers_below size)
    where
      map_twice : (ns : List ℕ) → AllByRecursion (IsFineTerm own) (map Name0 (map (element_name sorts k) ns))
      map_twice [] = tt
      map_twice (n ∷ ns) = (element_fine k n, map_twice ns)

  members_count : (k size : ℕ) → length (map is_element (element_names sorts k size)) ≡ size
  members_count k size = length-map (element_names sorts k size) is_element ∙ length-map (numbers_below size) (element_name sorts k) ∙ length_below size

  terms_count : (k size : ℕ) → length (map Name0 (element_names sorts k size)) ≡ size
  terms_count k size = length-map (element_names sorts k size) Name0 ∙ length-map (numbers_below size) (element_name sorts k) ∙ length_below size

  closure_fine : (k size : ℕ) → 0 < size → IsFineStatement own (axiom_named (codes "mk_domain") (closure_of sorts k size))
  closure_fine k size some =
      let members = map is_element (element_names sorts k size) in
      let body = joined Or members in
      let positive : 0 < length members = omega (arith, members_count k size) in
      axiom_fine own (codes "mk_domain") (closure_of sorts k size) refl
      (and_from (is_regular_sort (classical_sort_at sorts k)) (is_regular_formula own body) (regular_sort_at sorts k sorted) (joined_regular own Or (regular_Or own) members positive (closed_fine k size)))
      (omega (arith, bracket_level (has_brackets body) (formula_levels body), joined_low own Or levels_of_Or members positive (closed_fine k size)))

  distinct_by : (k size : ℕ) (b : Bool) → nat_lt 1 size ≡ b → AllByRecursion (IsFineStatement own) (cond b (axiom_named (codes "mk_distinct") (Distinct (map Name0 (element_names sorts k size))) ∷ []) [])
  distinct_by k size true h =
      let ts = map Name0 (element_names sorts k size) in (
        axiom_fine own (codes "mk_distinct") (Distinct ts) refl
            (and_from (nat_le 1 (length ts)) (is_regular_list own ts) (le-leb 1 (length ts) (omega (arith, terms_count k size, ltb-true 1 size h))) (terms_regular own ts (names_fine k size)))
            (omega (arith, terms_low own ts (names_fine k size))),
        tt,
      )
  distinct_by k size false h = tt

  sort_declared : (s : SortName) → is_regular_sort s ≡ true → AllByRecursion (IsFineStatement own) (sort_declarations (s ∷ []))
  sort_declared Individual h = tt
  sort_declared (User s) h = (declaration_fine own s (typing.Sort s) h h, tt)

  constant_regular : (name : List ℕ) (s : SortName) → is_printable_text name ≡ true → is_regular_sort s ≡ true → is_regular_typing own (typing.Symbol name [] (Some s)) ≡ true
  constant_regular name s a b =
      and_from (is_printable_text name) (nat_le 0 own.arguments && is_regular_sort s) a (and_from (nat_le 0 own.arguments) (is_regular_sort s) (le-leb 0 own.arguments (omega arith)) b)

  element_declared : (k n : ℕ) → IsFineStatement own (element_declaration sorts k n)
  element_declared k n =
      let name = element_name sorts k n in
      declaration_fine own name (typing.Symbol name [] (Some (classical_sort_at sorts k))) (element_printable sorts k n sorted)
      (constant_regular name (classical_sort_at sorts k) (element_printable sorts k n sorted) (regular_sort_at sorts k sorted))

  sort_fine : (k size : ℕ) → 0 < size → AllByRecursion (IsFineStatement own) (sort_statements sorts k size)
  sort_fine k size some =
      let P = IsFineStatement own in
      all_append P (sort_declarations (classical_sort_at sorts k ∷ [])) _ (sort_declared (classical_sort_at sorts k) (regular_sort_at sorts k sorted))
      (all_append P (map (element_declaration sorts k) (numbers_below size)) _ (all_map P (element_declaration sorts k) (numbers_below size) (element_declared k))
      (closure_fine k size some, distinct_by k size (nat_lt 1 size) refl))

  -- ---- the actual world

  actual_fine : (world : ℕ) → AllByRecursion (IsFineStatement own) (actual_statements sorts world)
  actual_fine world =
      let equal = equal_fine own (Name0 actual_name) (element sorts 0 world) (name_fine own actual_name printable_actual) (element_fine 0 world) in (
        declaration_fine own actual_name (typing.Symbol actual_name [] (Some (User world_name))) printable_actual (constant_regular actual_name (User world_name) printable_actual printable_world),
        (axiom_fine own actual_name _ printable_actual equal.regular (omega (arith, equal.low)), tt),
      )

  -- ---- tables

  beside_short : {N A : Type 0} (xs : List N) (ys : List A) → length (beside xs ys) ≤ length xs
  beside_short [] ys = omega arith
  beside_short (x ∷ xs) [] = omega arith
  beside_short (x ∷ xs) (y ∷ ys) = omega (arith, beside_short xs ys)

  beside_some : {N A : Type 0} (xs : List N) (ys : List A) → 0 < length xs → 0 < length ys → 0 < length (beside xs ys)
  beside_some [] ys h k = absurd (omega arith)
  beside_some (x ∷ xs) [] h k = absurd (omega arith)
  beside_some (x ∷ xs) (y ∷ ys) h k = omega arith

  row_fine : (args row : List ℕ) → AllByRecursion (IsFineTerm own) (row_elements sorts args row)
  row_fine args row = all_map (IsFineTerm own) (λ (p : ℕ × ℕ). element sorts p.0 p.1) (beside args row) (λ p. element_fine p.0 p.1)

  row_short : (args row : List ℕ) → length (row_elements sorts args row) ≤ length args
  row_short args row = omega (arith, length-map (beside args row) (λ (p : ℕ × ℕ). element sorts p.0 p.1), beside_short args row)

  literal_fine : (entry : TableEntry) (row : List ℕ) (gives : Option ℕ) (c : ℕ) → IsGood sorts entry → IsFine own (literal sorts entry.name (row_elements sorts entry.args row) gives c)
  literal_fine entry row None c h = signed_fine own (nat_eq c 1) entry.name (row_elements sorts entry.args row) h.name (omega (arith, row_short entry.args row, h.few)) (row_fine entry.args row)
  literal_fine entry row (Some sort) c h = value_fine own entry.name (row_elements sorts entry.args row) (element sorts sort c) h.name (omega (arith, row_short entry.args row, h.few)) (row_fine entry.args row) (element_fine sort c)

  table_fine : (entry : TableEntry) (table : CellTable) → IsGood sorts entry → 0 < rows_count table.sizes → length table.cells ≡ rows_count table.sizes → AllByRecursion (IsFineStatement own) (table_statements sorts entry table)
  table_fine entry table h some count =
      let rows = beside (all_rows table.sizes) table.cells in
      let fs = literals sorts entry table in
      let each = all_map (IsFine own) (λ (p : List ℕ × ℕ). literal sorts entry.name (row_elements sorts entry.args p.0) entry.gives p.1) rows (λ p. literal_fine entry p.0 entry.gives p.1 h) in
      let there : 0 < length rows = beside_some (all_rows table.sizes) table.cells (omega (arith, length-all_rows table.sizes)) (omega arith) in
      let positive : 0 < length fs = omega (arith, there, length-map rows (λ (p : List ℕ × ℕ). literal sorts entry.name (row_elements sorts entry.args p.0) entry.gives p.1)) in (
        record { regular = h.declared; low = omega arith },
        (axiom_fine own entry.name (joined And fs) h.name (joined_regular own And (regular_And own) fs positive each) (omega (arith, joined_low own And levels_of_And fs positive each)), tt),
      )

-- ---- rows of tables

some_rows : (n : ℕ) (sizes args : List ℕ) → ((k : ℕ) → k < n → 0 < size_at sizes k) → AllBelow n args → 0 < rows_count (map (size_at sizes) args)
some_rows n sizes [] p h = omega arith
some_rows n sizes (k ∷ args) p h = mul-pos (p k h.0) (some_rows n sizes args p h.1)

tables_fine : (sorts : List SortName) → list_all is_regular_sort sorts ≡ true → (sizes : List ℕ) (entries : List TableEntry) (tables : List CellTable)
    → ((k : ℕ) → k < length sorts → 0 < size_at sizes k) → ((t : ℕ) (d : TableEntry) → t < length entries → AllBelow (length sorts) (get_or entries t d).args)
    → AllByRecursion (IsGood sorts) entries → shapes_of tables ≡ table_shapes sizes entries → AreFilled tables
    → AllByRecursion (IsFineStatement own) (flat_map (λ (p : TableEntry × CellTable). table_statements sorts p.0 p.1) (beside entries tables))
tables_fine sorts sorted sizes [] tables p q h shapes filled = tt
tables_fine sorts sorted sizes (entry ∷ entries) [] p q h shapes filled = tt
tables_fine sorts sorted sizes (entry ∷ entries) (table ∷ tables) p q h shapes filled =
    let first : shape_of table ≡ table_shape sizes entry = cc in
    let rest : shapes_of tables ≡ table_shapes sizes entries = cc in
    let columns : table.sizes ≡ map (size_at sizes) entry.args = ap (λ (s : Shape). s.sizes) first in
    let some : 0 < rows_count table.sizes = subst (λ (zs : List ℕ). 0 < rows_count zs) (sym columns) (some_rows (length sorts) sizes entry.args p (q 0 entry (omega arith))) in
    all_append (IsFineStatement own) (table_statements sorts entry table) _ (table_fine sorts sorted entry table h.0 some (filled 0 (omega arith)).count)
    (tables_fine sorts sorted sizes entries tables p (λ t d below. q (suc t) d (omega arith)) h.1 rest (filled_tail table tables filled))

-- ---- the whole

all_fine : (sig : Signature) (csig : ClassicalSignature) (S : StructureTables) → IsClassicalOf sig csig → IsStructure S → IsFor csig S → AllByRecursion (IsFineStatement own) (interpretation_file csig S).statements
all_fine sig csig S classical structure over =
    let P = IsFineStatement own in
    let good = good_names sig csig classical in
    let positive = λ (k : ℕ) (below : k < length csig.sorts). size_some csig.sorts S.sizes k over.sorts below in
    all_append P (all_sort_statements csig S.sizes) _ (all_below P (λ k. sort_statements csig.sorts k (size_at S.sizes k)) (length csig.sorts) (λ k below. sort_fine csig.sorts good.sorts k (size_at S.sizes k) (positive k below)))
    (all_append P (actual_statements csig.sorts S.actual) _ (actual_fine csig.sorts good.sorts S.actual)
    (tables_fine csig.sorts good.sorts S.sizes csig.tables S.tables positive (has-arguments sig csig classical) good.tables over.shapes structure.filled))

enough_levels : 4 ≤ levels_of Interpretation
unfolding greatest_nesting
enough_levels = omega arith

pub interpretation_fits : FitsLaw
interpretation_fits sig csig S h =
    let fine = all_fine sig csig S h.classical h.structure h.over in
    let statements = (interpretation_file csig S).statements in
    record { plain = refl; regular = statements_regular own statements fine; levels = omega (arith, statements_low own statements fine, enough_levels) }

pub interpretation_spelled : SpellsLaw
interpretation_spelled sig csig S h =
    let fits = interpretation_fits sig csig S h in
    regular_file_spelled Interpretation (interpretation_file csig S) fits.plain fits.regular fits.levels

pub interpretation_only : OnlyLaw
interpretation_only sig csig S other h spells =
    let fits = interpretation_fits sig csig S h in
    no_other_spelled Interpretation (interpretation_file csig S) other fits.plain fits.regular fits.levels spells
