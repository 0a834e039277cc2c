-- The pieces that an interpretation's text is written in.
use Rattle.std.specs.Prelude.{ℕ, List, map, flat_map, codes, Option}
use Rattle.std.specs.List.{join_by}
use Rattle.std.specs.Option.{option_map}
use Rattle.nxf_tree.specs.declared.tree.SortName.{SortName}
use Rattle.nxf_tree.specs.declared.tree.TableEntry.{TableEntry}
use Rattle.nxf_tree.specs.declared.tree.Formula.{Formula}
use Rattle.nxf_tree.specs.declared.tree.Statement.{Statement}
use Rattle.nxf_tree.specs.Rows.{numbers_below}
use Rattle.nxf_tree.specs.Problem.{classical_sort_at}
use Rattle.nxf_tree.specs.Text.{type_text, application_text, unit_text, statement_text}
use Rattle.fin_struct.specs.Cells.{CellTable, table_at}
use Rattle.interpretation_text_definitions.specs.ElementNames.{element_names}
use Rattle.interpretation_text_definitions.specs.InterpretationText.{axiom_named, element_declaration, is_element, closure_of, row_elements, literal, literals, table_statements}

-- a line for each statement
abbrev pub lines_of : List Statement → List ℕ
lines_of = flat_map statement_text

-- the declarations of a sort's elements
abbrev pub element_declarations : List SortName → ℕ → ℕ → List Statement
element_declarations sorts k size = map (element_declaration sorts k) (numbers_below size)

-- `X = mk_w_0`, `X = mk_w_1` and so on
abbrev pub members : List SortName → ℕ → ℕ → List Formula
members sorts k size = map is_element (element_names sorts k size)

-- formulas with an operator between each two
abbrev pub joined_text : List ℕ → List Formula → List ℕ
joined_text = join_by unit_text

-- that a sort has no other element
abbrev pub closure_statement : List SortName → ℕ → ℕ → Statement
closure_statement sorts k size = axiom_named (codes "mk_domain") (closure_of sorts k size)

-- the type of a symbol, whose sorts are numbered
abbrev pub symbol_type : List SortName → List ℕ → Option ℕ → List ℕ
symbol_type sorts args gives = type_text (map (classical_sort_at sorts) args) (option_map (classical_sort_at sorts) gives)

-- a symbol at a row
abbrev pub row_text : List SortName → TableEntry → List ℕ → List ℕ
row_text sorts entry row = application_text entry.name (row_elements sorts entry.args row)

-- a row and what its cell has
abbrev pub row_literal : List SortName → TableEntry → List ℕ → ℕ → Formula
row_literal sorts entry row cell = literal sorts entry.name (row_elements sorts entry.args row) entry.gives cell

-- the literals of all rows of table t
abbrev pub rows_text : List SortName → TableEntry → List CellTable → ℕ → List ℕ
rows_text sorts entry tables t = joined_text (codes " & ") (literals sorts entry (table_at tables t))

-- the statements of the symbol of table t
abbrev pub symbol_lines : List SortName → TableEntry → List CellTable → ℕ → List ℕ
symbol_lines sorts entry tables t = lines_of (table_statements sorts entry (table_at tables t))
