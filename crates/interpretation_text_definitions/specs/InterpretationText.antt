-- The interpretation of a structure: a file in the syntax of TPTP that lists the elements of each sort, and states the actual world and every row of
-- every table.
use Rattle.std.specs.Prelude.{ℕ, nat_eq, nat_lt, if◌then◌else◌, List, [], ◌∷◌, ◌++◌, map, flat_map, length, codes, Option, None, Some}
use Rattle.nxf_tree.specs.declared.tree.SortName.{SortName}
use Rattle.nxf_tree.specs.declared.tree.SortName.TheVariants.{User}
use Rattle.nxf_tree.specs.declared.tree.Quantifier.TheVariants.{All}
use Rattle.nxf_tree.specs.declared.tree.Term.{Term, Var, App}
use Rattle.nxf_tree.specs.declared.tree.Formula.{Formula, Atom, Same, And, Or, Distinct}
use Rattle.nxf_tree.specs.declared.tree.Typing.TheVariants.{Symbol}
use Rattle.nxf_tree.specs.declared.tree.Statement.{Statement}
use Rattle.nxf_tree.specs.declared.tree.File.{File}
use Rattle.nxf_tree.specs.declared.tree.TableEntry.{TableEntry}
use Rattle.nxf_tree.specs.declared.tree.ClassicalSignature.{ClassicalSignature}
use Rattle.nxf_tree.specs.Shapes.{Name0, Not1, Quant1}
use Rattle.nxf_tree.specs.Names.{actual_name, world_name}
use Rattle.nxf_tree.specs.Rows.{numbers_below, all_rows, beside, size_at}
use Rattle.nxf_tree.specs.Problem.{statement_of, declaration, sort_declarations, classical_sort_at, table_declaration}
use Rattle.nxf_tree.specs.Text.{text_of}
use Rattle.fin_struct.specs.Cells.{CellTable}
use Rattle.fin_struct.specs.StructureTables.{StructureTables}
use Rattle.interpretation_text_definitions.specs.ElementNames.{element_name, element_names}

-- a formula under a name
abbrev pub axiom_named : List ℕ → Formula → Statement
axiom_named name f = statement_of name (codes "axiom") f

-- one formula as it stands, or several joined
abbrev pub joined : (List Formula → Formula) → List Formula → Formula
joined join (f ∷ []) = f
joined join fs = join fs

-- ---- sorts

-- element n of sort k
abbrev pub element : List SortName → ℕ → ℕ → Term
element sorts k n = Name0 (element_name sorts k n)

-- `mk_w_0: mk_world`
abbrev pub element_declaration : List SortName → ℕ → ℕ → Statement
element_declaration sorts k n = declaration (element_name sorts k n) (Symbol (element_name sorts k n) [] (Some (classical_sort_at sorts k)))

-- `X = mk_w_0`
abbrev pub is_element : List ℕ → Formula
is_element name = Same (Var (codes "X")) (Name0 name)

-- `! [X: mk_world] : ( X = mk_w_0 | X = mk_w_1 )`
abbrev pub closure_of : List SortName → ℕ → ℕ → Formula
closure_of sorts k size = Quant1 All (codes "X") (classical_sort_at sorts k) (joined Or (map is_element (element_names sorts k size)))

-- `$distinct(mk_w_0,mk_w_1)`, where there are two elements or more
abbrev pub distinct_statements : List SortName → ℕ → ℕ → List Statement
distinct_statements sorts k size = if nat_lt 1 size then axiom_named (codes "mk_distinct") (Distinct (map Name0 (element_names sorts k size))) ∷ [] else []

-- the statements of sort k, which has so many elements: its declaration, except for `$i`; those of its elements; that there is no other element; and
-- that they differ
abbrev pub sort_statements : List SortName → ℕ → ℕ → List Statement
sort_statements sorts k size =
    sort_declarations (classical_sort_at sorts k ∷ [])
    ++ (map (element_declaration sorts k) (numbers_below size)
    ++ (axiom_named (codes "mk_domain") (closure_of sorts k size) ∷ distinct_statements sorts k size))

-- ---- the actual world

abbrev pub actual_statements : List SortName → ℕ → List Statement
actual_statements sorts world =
    declaration actual_name (Symbol actual_name [] (Some (User world_name)))
    ∷ axiom_named actual_name (Same (Name0 actual_name) (element sorts 0 world)) ∷ []

-- ---- tables

-- the elements of a row, where each argument has its sort
abbrev pub row_elements : List SortName → List ℕ → List ℕ → List Term
row_elements sorts args row = map (λ p. element sorts p.0 p.1) (beside args row)

-- a row of a symbol and what its cell has: `p(mk_w_0)` where a predicate has 1, else `~ p(mk_w_0)`; or `f(mk_i_0) = mk_i_1`
abbrev pub literal : List SortName → List ℕ → List Term → Option ℕ → ℕ → Formula
literal sorts name terms None cell = if nat_eq cell 1 then Atom name terms else Not1 (Atom name terms)
literal sorts name terms (Some sort) cell = Same (App name terms) (element sorts sort cell)

-- the literals of all rows in their order
abbrev pub literals : List SortName → TableEntry → CellTable → List Formula
literals sorts entry table =
    map (λ p. literal sorts entry.name (row_elements sorts entry.args p.0) entry.gives p.1) (beside (all_rows table.sizes) table.cells)

-- the statements of a symbol: its declaration, and its rows
abbrev pub table_statements : List SortName → TableEntry → CellTable → List Statement
table_statements sorts entry table = table_declaration sorts entry ∷ axiom_named entry.name (joined And (literals sorts entry table)) ∷ []

-- ---- the whole

abbrev pub all_sort_statements : ClassicalSignature → List ℕ → List Statement
all_sort_statements csig sizes = flat_map (λ k. sort_statements csig.sorts k (size_at sizes k)) (numbers_below (length csig.sorts))

abbrev pub all_table_statements : ClassicalSignature → List CellTable → List Statement
all_table_statements csig tables = flat_map (λ p. table_statements csig.sorts p.0 p.1) (beside csig.tables tables)

abbrev pub interpretation_file : ClassicalSignature → StructureTables → File
interpretation_file csig S = record {
  statements = all_sort_statements csig S.sizes ++ (actual_statements csig.sorts S.actual ++ all_table_statements csig S.tables);
}

-- the bytes, in the layout of printed files
abbrev pub interpretation_text : ClassicalSignature → StructureTables → List ℕ
interpretation_text csig S = text_of (interpretation_file csig S)
