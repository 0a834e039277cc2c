-- The parts of an interpretation that is printed.
use Rattle.std.proofs.Common.{◌≡◌, ℕ, ◌<◌, Bool, true, false, cond, List, [], ◌∷◌, ◌++◌, map, length, Option, None, Some, refl, sym, ap, ◌∙◌, append-nil, arith}
use Rattle.std.specs.Prelude.{codes, flat_map, nat_eq, nat_lt, if◌then◌else◌}
use Rattle.std.specs.Option.{option_map}
use Rattle.std.proofs.lemmas.Grind.{flat_map-append}
use Rattle.std.proofs.lemmas.List.{length-map}
use Rattle.nxf_tree.specs.declared.tree.SortName.{SortName}
use Rattle.nxf_tree.specs.declared.tree.SortName.TheVariants.{Individual, User}
use Rattle.nxf_tree.specs.declared.tree.TableEntry.{TableEntry}
use Rattle.nxf_tree.specs.declared.tree.Term.{Term, App, Row_of-Term, end_of-Term, more_of-Term}
use Rattle.nxf_tree.specs.declared.tree.Term.TheBlock.{hidden-the_row-Term-0, items-the_row-Term, items_hidden-the_row-Term-0}
use Rattle.nxf_tree.specs.declared.tree.Formula.{Formula, Atom, And, Or, Distinct, Row_of-Formula, end_of-Formula, more_of-Formula}
use Rattle.nxf_tree.specs.declared.tree.Formula.TheBlock.{hidden-the_row-Formula-1, items-the_row-Formula, items_hidden-the_row-Formula-1}
use Rattle.nxf_tree.specs.declared.tree.Typing.TheVariants.{Sort, Symbol}
use Rattle.nxf_tree.specs.Shapes.{Name0, Not1}
use Rattle.nxf_tree.specs.Names.{actual_name, world_name}
use Rattle.nxf_tree.specs.Rows.{numbers_below, all_rows, beside}
use Rattle.nxf_tree.specs.Problem.{sort_declarations, classical_sort_at}
use Rattle.fin_struct.specs.Cells.{CellTable}
use Rattle.interpretation_definitions.specs.Parts.{Argument, Plain, argument, arguments, Part, Declares, Closes, Applies, Equates, AllDiffer, member_of, and_name, members_of, closed_names, closure_part, equation_part, parts_in, all_parts_in, all_parts, parts_of}
use Rattle.interpretation_text_definitions.specs.ElementNames.{element_name, element_names}
use Rattle.interpretation_text_definitions.specs.InterpretationText.{axiom_named, joined, element, element_declaration, is_element, closure_of, distinct_statements, sort_statements, actual_statements, row_elements, literal, literals, table_statements}
use Rattle.interpretation_text_laws.proofs.Fitting.{length_below}

-- ---- rows of terms and formulas are their lists

arguments_row : {m : _} (ts : Row_of-Term m) → arguments ts ≡ map argument (items-the_row-Term _ ts)
arguments_row end_of-Term = refl
arguments_row (more_of-Term t ts) = ap (λ rest. argument t ∷ rest) (arguments_row ts)

equation_of : (f : List ℕ) (ts : List Term) (value : Argument) → equation_part (App f ts) value ≡ Equates f (map argument ts) value
equation_of f ts value = ap (λ args. Equates f args value) (arguments_row (hidden-the_row-Term-0 ts) ∙ ap (map argument) (items_hidden-the_row-Term-0 ts))

all_parts_row : {m : _} (fs : Row_of-Formula m) → all_parts_in fs ≡ flat_map parts_in (items-the_row-Formula _ fs)
all_parts_row end_of-Formula = refl
all_parts_row (more_of-Formula f fs) = ap (λ rest. parts_in f ++ rest) (all_parts_row fs)

parts_of_And : (fs : List Formula) → parts_in (And fs) ≡ flat_map parts_in fs
parts_of_And fs = all_parts_row (hidden-the_row-Formula-1 fs) ∙ ap (flat_map parts_in) (items_hidden-the_row-Formula-1 fs)

pub parts_joined : (fs : List Formula) → parts_in (joined And fs) ≡ flat_map parts_in fs
parts_joined [] = parts_of_And []
parts_joined (f ∷ []) = sym (append-nil (parts_in f))
parts_joined (f ∷ g ∷ fs) = parts_of_And (f ∷ g ∷ fs)

-- the names that members list
abbrev listed_by : List ℕ → List Formula → Option (List (List ℕ))
listed_by x [] = Some []
listed_by x (f ∷ fs) = and_name (member_of x f) (listed_by x fs)

members_row : {m : _} (x : List ℕ) (fs : Row_of-Formula m) → members_of x fs ≡ listed_by x (items-the_row-Formula _ fs)
members_row x end_of-Formula = refl
members_row x (more_of-Formula f fs) = ap (and_name (member_of x f)) (members_row x fs)

closed_by_Or : (x : List ℕ) (fs : List Formula) → closed_names x (Or fs) ≡ listed_by x fs
closed_by_Or x fs = members_row x (hidden-the_row-Formula-1 fs) ∙ ap (listed_by x) (items_hidden-the_row-Formula-1 fs)

all_listed : (names : List (List ℕ)) → listed_by (codes "X") (map is_element names) ≡ Some names
all_listed [] = refl
all_listed (n ∷ names) = ap (and_name (Some n)) (all_listed names)

pub closed_by : (names : List (List ℕ)) → 0 < length names → closed_names (codes "X") (joined Or (map is_element names)) ≡ Some names
closed_by [] h = absurd (omega arith)
closed_by (n ∷ []) h = refl
closed_by (n ∷ m ∷ names) h = closed_by_Or (codes "X") (map is_element (n ∷ m ∷ names)) ∙ all_listed (n ∷ m ∷ names)

-- ---- the parts

-- elements as arguments
abbrev pub plain_elements : List SortName → ℕ → ℕ → List Argument
plain_elements sorts k size = map Plain (element_names sorts k size)

abbrev pub element_part : List SortName → ℕ → ℕ → Part
element_part sorts k n = Declares (Symbol (element_name sorts k n) [] (Some (classical_sort_at sorts k)))

abbrev pub sort_part : SortName → List Part
sort_part Individual = []
sort_part (User s) = Declares (Sort s) ∷ []

abbrev pub distinct_part : List SortName → ℕ → ℕ → Bool → List Part
distinct_part sorts k size several = if several then AllDiffer (plain_elements sorts k size) ∷ [] else []

abbrev pub sort_parts : List SortName → ℕ → ℕ → List Part
sort_parts sorts k size =
    sort_part (classical_sort_at sorts k)
    ++ (map (element_part sorts k) (numbers_below size)
    ++ (Closes (classical_sort_at sorts k) (element_names sorts k size) ∷ distinct_part sorts k size (nat_lt 1 size)))

abbrev pub actual_parts : List SortName → ℕ → List Part
actual_parts sorts world =
    Declares (Symbol actual_name [] (Some (User world_name))) ∷ Equates actual_name [] (Plain (element_name sorts 0 world)) ∷ []

-- the arguments of a row
abbrev pub row_arguments : List SortName → List ℕ → List ℕ → List Argument
row_arguments sorts args row = map (λ (p : ℕ × ℕ). Plain (element_name sorts p.0 p.1)) (beside args row)

abbrev pub literal_part : List SortName → List ℕ → List Argument → Option ℕ → ℕ → Part
literal_part sorts name args None cell = Applies (nat_eq cell 1) name args
literal_part sorts name args (Some sort) cell = Equates name args (Plain (element_name sorts sort cell))

abbrev pub row_part : List SortName → TableEntry → List ℕ × ℕ → Part
row_part sorts entry p = literal_part sorts entry.name (row_arguments sorts entry.args p.0) entry.gives p.1

abbrev pub table_parts : List SortName → TableEntry → CellTable → List Part
table_parts sorts entry table =
    Declares (Symbol entry.name (map (classical_sort_at sorts) entry.args) (option_map (classical_sort_at sorts) entry.gives))
    ∷ map (row_part sorts entry) (beside (all_rows table.sizes) table.cells)

-- ---- they are those of the statements

names_long : (sorts : List SortName) (k size : ℕ) → length (element_names sorts k size) ≡ size
names_long sorts k size = length-map (numbers_below size) (element_name sorts k) ∙ length_below size

declared_part : (s : SortName) → all_parts (sort_declarations (s ∷ [])) ≡ sort_part s
declared_part Individual = refl
declared_part (User s) = refl

element_parts : (sorts : List SortName) (k : ℕ) (ns : List ℕ) → all_parts (map (element_declaration sorts k) ns) ≡ map (element_part sorts k) ns
element_parts sorts k [] = refl
element_parts sorts k (n ∷ ns) = ap (λ rest. element_part sorts k n ∷ rest) (element_parts sorts k ns)

names_as_arguments : (names : List (List ℕ)) → map argument (map Name0 names) ≡ map Plain names
names_as_arguments [] = refl
names_as_arguments (n ∷ names) = ap (λ rest. Plain n ∷ rest) (names_as_arguments names)

distinct_parts : (sorts : List SortName) (k size : ℕ) (several : Bool) → all_parts (cond several (axiom_named (codes "mk_distinct") (Distinct (map Name0 (element_names sorts k size))) ∷ []) []) ≡ distinct_part sorts k size several
distinct_parts sorts k size true = ap (λ args. AllDiffer args ∷ []) (names_as_arguments (element_names sorts k size))
distinct_parts sorts k size false = refl

pub parts_of_sort : (sorts : List SortName) (k size : ℕ) → 0 < size → all_parts (sort_statements sorts k size) ≡ sort_parts sorts k size
parts_of_sort sorts k size some =
    let s = classical_sort_at sorts k in
    let closes : closure_part s (closed_names (codes "X") (joined Or (map is_element (element_names sorts k size)))) ≡ Closes s (element_names sorts k size) =
    ap (closure_part s) (closed_by (element_names sorts k size) (omega (arith, names_long sorts k size))) in
    let last = axiom_named (codes "mk_domain") (closure_of sorts k size) ∷ distinct_statements sorts k size in
    let rest : all_parts last ≡ Closes s (element_names sorts k size) ∷ distinct_part sorts k size (nat_lt 1 size) =
    (λ i. closes i ∷ distinct_parts sorts k size (nat_lt 1 size) i) in
    let middle : all_parts (map (element_declaration sorts k) (numbers_below size) ++ last) ≡ map (element_part sorts k) (numbers_below size) ++ (Closes s (element_names sorts k size) ∷ distinct_part sorts k size (nat_lt 1 size)) =
    flat_map-append parts_of (map (element_declaration sorts k) (numbers_below size)) last ∙ (λ j. element_parts sorts k (numbers_below size) j ++ rest j) in
    flat_map-append parts_of (sort_declarations (s ∷ [])) (map (element_declaration sorts k) (numbers_below size) ++ last) ∙ (λ i. declared_part s i ++ middle i)

pub parts_of_actual : (sorts : List SortName) (world : ℕ) → all_parts (actual_statements sorts world) ≡ actual_parts sorts world
parts_of_actual sorts world = refl

row_as_arguments : (sorts : List SortName) (ps : List (ℕ × ℕ)) → map argument (map (λ (p : ℕ × ℕ). element sorts p.0 p.1) ps) ≡ map (λ (p : ℕ × ℕ). Plain (element_name sorts p.0 p.1)) ps
row_as_arguments sorts [] = refl
row_as_arguments sorts (p ∷ ps) = ap (λ rest. Plain (element_name sorts p.0 p.1) ∷ rest) (row_as_arguments sorts ps)

signed_parts : (b : Bool) (name : List ℕ) (ts : List Term) → parts_in (cond b (Atom name ts) (Not1 (Atom name ts))) ≡ Applies b name (map argument ts) ∷ []
signed_parts true name ts = refl
signed_parts false name ts = refl

literal_parts : (sorts : List SortName) (name : List ℕ) (args row : List ℕ) (gives : Option ℕ) (cell : ℕ) → parts_in (literal sorts name (row_elements sorts args row) gives cell) ≡ literal_part sorts name (row_arguments sorts args row) gives cell ∷ []
literal_parts sorts name args row None cell =
    signed_parts (nat_eq cell 1) name (row_elements sorts args row) ∙ ap (λ args. Applies (nat_eq cell 1) name args ∷ []) (row_as_arguments sorts (beside args row))
literal_parts sorts name args row (Some sort) cell =
    ap (λ part. part ∷ []) (equation_of name (row_elements sorts args row) (Plain (element_name sorts sort cell)) ∙ ap (λ args. Equates name args (Plain (element_name sorts sort cell))) (row_as_arguments sorts (beside args row)))

pub parts_of_table : (sorts : List SortName) (entry : TableEntry) (table : CellTable) → all_parts (table_statements sorts entry table) ≡ table_parts sorts entry table
parts_of_table sorts entry table =
    ap (λ rest. Declares (Symbol entry.name (map (classical_sort_at sorts) entry.args) (option_map (classical_sort_at sorts) entry.gives)) ∷ rest)
    (append-nil (parts_in (joined And (literals sorts entry table))) ∙ parts_joined (literals sorts entry table) ∙ by_rows (beside (all_rows table.sizes) table.cells))
  where
    by_rows : (ps : List (List ℕ × ℕ)) → flat_map parts_in (map (λ (p : List ℕ × ℕ). literal sorts entry.name (row_elements sorts entry.args p.0) entry.gives p.1) ps) ≡ map (row_part sorts entry) ps
    by_rows [] = refl
    by_rows (p ∷ ps) = (λ i. literal_parts sorts entry.name entry.args p.0 entry.gives p.1 i ++ by_rows ps i)
