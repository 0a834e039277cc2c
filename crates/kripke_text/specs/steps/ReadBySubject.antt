-- What reading the statement of a table gives, by the table in a structure: its label, its number and its values are those of the table.
use Rattle.std.specs.Prelude.{ℕ, Bool, List, Option, Some}
use Rattle.std.specs.Option.{option_map}
use Rattle.nxf_tree.specs.declared.tree.Signature.{Signature}
use Rattle.nxf_tree.specs.Rows.{size_at}
use Rattle.nxf_tree.specs.Signature.{sort_at}
use Rattle.fin_struct.specs.KripkeTables.{KripkeTables, symbol_number, symbol_table, with_written}
use Rattle.plain_tokens.specs.PlainTokens.{Plain}
use Rattle.kripke_text_definitions.specs.KripkeText as text
use Rattle.kripke_text.specs.declared.subject.Subject.{Subject}
use Rattle.kripke_text.specs.steps.Reading.{Bounded, cell_of, TakesNumber, TakesLine, ReadsLine, ReadsTable, TakesTable}
use Rattle.kripke_text.specs.steps.Subjects.{label_of, number_of, table_of}

-- the value of a literal comes next and is taken: one of the sort with this number, or of the table's values
abbrev pub TakesResult : Signature → KripkeTables → Option ℕ → Option (List Plain) → Option (List Plain) → Option ℕ → Type 0
TakesResult sig view gives = TakesNumber (text.value_of (option_map (sort_at sig.sorts) gives)) (Bounded (option_map (size_at view.sizes) gives))

abbrev pub TakesValue : Signature → KripkeTables → Subject → Option (List Plain) → Option (List Plain) → Option ℕ → Type 0
TakesValue sig view subject = TakesNumber (text.label_value (label_of sig subject)) (Bounded (table_of view subject).values)

-- the literal of a row comes next and is taken
abbrev pub TakesLiteral : Signature → KripkeTables → Subject → Bool → List ℕ → Option (List Plain) → Option (List Plain) → Option ℕ → Type 0
TakesLiteral sig view subject = TakesLine (label_of sig subject) (table_of view subject).values

-- the structure with what the literal of a row says
abbrev pub with_literal : KripkeTables → Subject → List ℕ → ℕ → KripkeTables
with_literal view subject row v = with_written view (number_of view subject) row (cell_of (table_of view subject).values (Some v))

abbrev pub with_symbol_literal : KripkeTables → ℕ → List ℕ → ℕ → KripkeTables
with_symbol_literal view y row v = with_written view (symbol_number view y) row (cell_of (symbol_table view y).values (Some v))

-- a row is read and written
abbrev pub ReadsLiteral : Signature → Subject → Bool → List ℕ → Option (List Plain) → Option (List Plain) → KripkeTables → KripkeTables → Option Bool → Type 0
ReadsLiteral sig subject none row old new view made after =
    ReadsLine (label_of sig subject) (table_of view subject).values none (number_of view subject) row old new view made after

-- the statement of a table is read and written, and where it is the next one, it is taken
abbrev pub ReadsStatement : Signature → Subject → Option (List Plain) → KripkeTables → KripkeTables → Bool → Type 0
ReadsStatement sig subject tokens view made is = ReadsTable (label_of sig subject) (number_of view subject) tokens view made is

abbrev pub TakesStatement : Signature → Subject → List (List Plain) → List (List Plain) → KripkeTables → KripkeTables → Bool → Type 0
TakesStatement sig subject old new view made is = TakesTable (label_of sig subject) (number_of view subject) old new view made is
