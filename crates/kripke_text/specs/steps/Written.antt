-- What stands in the text of a structure, by its tables: the marks of its statements, and those of a symbol with its arguments.
use Rattle.std.specs.Prelude.{ℕ, List, map}
use Rattle.nxf_tree.specs.declared.tree.Signature.{Signature}
use Rattle.nxf_tree.specs.Signature.{sort_at, sort_names}
use Rattle.fin_struct.specs.RowLists.{listed}
use Rattle.fin_struct.specs.KripkeTables.{KripkeTables}
use Rattle.plain_tokens.specs.Marks.{Mark}
use Rattle.kripke_text_definitions.specs.KripkeText as text
use Rattle.kripke_text.specs.declared.subject.Subject.{Subject}
use Rattle.kripke_text.specs.steps.Subjects.{label_of, table_of}

-- a symbol with elements of the sorts with these numbers
abbrev pub application_of : Signature → List ℕ → List ℕ → List ℕ → List Mark
application_of sig name args row = text.application name (map (sort_at sig.sorts) args) row

-- the statement of a table
abbrev pub table_marks : Signature → KripkeTables → Subject → List Mark
table_marks sig view subject = text.table_statement (label_of sig subject) (listed (table_of view subject))

-- the statements of all tables, of the elements of each sort, and of the head
abbrev pub tables_marks : Signature → KripkeTables → List (List Mark)
tables_marks sig view = text.table_statements (text.labels_of sig) (map listed view.tables)

abbrev pub domains_marks : Signature → KripkeTables → List (List Mark)
domains_marks sig view = text.domain_statements (sort_names sig.sorts) view.sizes

abbrev pub head_marks : Signature → KripkeTables → List (List Mark)
head_marks sig view = text.head_marks sig view.worlds view.actual view.sizes
