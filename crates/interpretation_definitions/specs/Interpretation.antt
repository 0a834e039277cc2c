-- The structure that an interpretation gives, or why it gives none: the first statement with a fault; then too many worlds, or too many cells; then
-- the first symbol of which some rows are given, but not all. There is at most one structure, since this is a function of the file.
use Rattle.std.specs.Prelude.{ℕ, suc, Bool, ◌&&◌, not, nat_eq, nat_lt, if◌then◌else◌, List, [], ◌∷◌, map, max, Option, None, Some, is_some, unwrap_or, Result, Ok, Err}
use Rattle.std.specs.List.{list_any, list_all}
use Rattle.std.specs.Option.{option_map}
use Rattle.nxf_base.specs.declared.status.InterpKind.{InterpKind}
use Rattle.nxf_base.specs.declared.status.InterpKind.TheVariants as kind
use Rattle.nxf_tree.specs.declared.tree.TableEntry.{TableEntry}
use Rattle.nxf_tree.specs.declared.tree.ClassicalSignature.{ClassicalSignature}
use Rattle.nxf_tree.specs.declared.tree.SortName.{SortName}
use Rattle.nxf_tree.specs.declared.tree.Statement.{Statement}
use Rattle.nxf_tree.specs.declared.tree.File.{File}
use Rattle.nxf_tree.specs.Rows.{all_rows, size_at}
use Rattle.fin_struct.specs.Cells.{CellTable}
use Rattle.fin_struct.specs.Limits.{cells_of}
use Rattle.fin_struct.specs.StructureTables.{StructureTables}
use Rattle.interpretation_definitions.specs.declared.element.Element.{Element}
use Rattle.interpretation_definitions.specs.declared.error.InterpError.{InterpError}
use Rattle.interpretation_definitions.specs.declared.error.InterpError.TheVariants as error
use Rattle.interpretation_definitions.specs.declared.fault.PartFault.{PartFault}
use Rattle.interpretation_definitions.specs.declared.fault.PartFault.TheVariants.{Form, UnknownSymbol, UnknownElement, Clash}
use Rattle.interpretation_definitions.specs.Parts.{all_parts}
use Rattle.interpretation_definitions.specs.Context.{Context, context_of, count_for, symbols_of}
use Rattle.interpretation_definitions.specs.Given.{Given, value_in, given_by}
use Rattle.interpretation_definitions.specs.Judging.{fault_in}

-- for each sort from number k on as many elements as its closure lists, or one
abbrev pub sizes_from : ℕ → List (List ℕ × Element) → List SortName → List ℕ
sizes_from k elements [] = []
sizes_from k elements (s ∷ sorts) = max 1 (count_for k elements) ∷ sizes_from (suc k) elements sorts

abbrev pub sizes_of : Context → List ℕ
sizes_of context = sizes_from 0 context.elements context.sorts

-- the rows of a symbol
abbrev pub rows_of : List ℕ → TableEntry → List (List ℕ)
rows_of sizes entry = all_rows (map (size_at sizes) entry.args)

-- of which symbols, by their numbers, some row is given, and the value of each row that is
pub record GivenRows : Type 0 where
  pub any : ℕ → Bool
  pub value : ℕ → List ℕ → Option ℕ

abbrev pub rows_given : List Given → GivenRows
rows_given given = record { any = λ place. list_any (λ (g : Given). nat_eq g.place place) given; value = value_in given }

-- whether some rows of the symbol with the number are given, and others aren't
abbrev pub is_incomplete : List ℕ → GivenRows → ℕ → TableEntry → Bool
is_incomplete sizes given place entry = given.any place && not (list_all (λ row. is_some (given.value place row)) (rows_of sizes entry))

-- the first incomplete symbol from number k on
abbrev pub incomplete_from : ℕ → List ℕ → GivenRows → List TableEntry → Option (List ℕ)
incomplete_from place sizes given [] = None
incomplete_from place sizes given (entry ∷ entries) =
    if is_incomplete sizes given place entry then Some entry.name else incomplete_from (suc place) sizes given entries

-- a row that isn't given is false, or has the value 0
abbrev pub value_or_0 : GivenRows → ℕ → List ℕ → ℕ
value_or_0 given place row = unwrap_or (given.value place row) 0

-- the table of a symbol, row-major
abbrev pub table_given : List ℕ → GivenRows → ℕ → TableEntry → CellTable
table_given sizes given place entry = record {
  sizes = map (size_at sizes) entry.args;
  values = option_map (size_at sizes) entry.gives;
  cells = map (value_or_0 given place) (rows_of sizes entry);
}

-- the tables of the symbols from number k on
abbrev pub tables_from : ℕ → List ℕ → GivenRows → List TableEntry → List CellTable
tables_from place sizes given [] = []
tables_from place sizes given (entry ∷ entries) = table_given sizes given place entry ∷ tables_from (suc place) sizes given entries

abbrev pub structure_given : List ℕ → GivenRows → List TableEntry → StructureTables
structure_given sizes given tables = record { actual = value_or_0 given 0 []; sizes = sizes; tables = tables_from 1 sizes given tables }

-- the last step: completeness
abbrev pub completed : List ℕ → GivenRows → List TableEntry → Option (List ℕ) → Result StructureTables InterpError
completed sizes given tables None = Ok (structure_given sizes given tables)
completed sizes given tables (Some name) = Err (error.Kind (kind.Incomplete name))

-- the second step: the limits
abbrev pub within_limits : List ℕ → GivenRows → ClassicalSignature → Result StructureTables InterpError
within_limits sizes given csig =
    if nat_lt 65535 (size_at sizes 0) then Err (error.TooManyWorlds (size_at sizes 0))
    else (if nat_lt 4194304 (cells_of csig sizes) then Err (error.TooBig (cells_of csig sizes))
    else completed sizes given csig.tables (incomplete_from 0 sizes given (symbols_of csig)))

-- the fault of statement k
abbrev pub kind_of : ℕ → PartFault → InterpKind
kind_of k Form = kind.Form k
kind_of k UnknownSymbol = kind.UnknownSymbol k
kind_of k UnknownElement = kind.UnknownElement k
kind_of k Clash = kind.Clash k

-- the first step: faults of statements
abbrev pub unless_fault : Option (ℕ × PartFault) → Result StructureTables InterpError → Result StructureTables InterpError
unless_fault None more = more
unless_fault (Some fault) more = Err (error.Kind (kind_of fault.0 fault.1))

abbrev pub context_of_file : ClassicalSignature → List Statement → Context
context_of_file csig statements = context_of csig (all_parts statements)

abbrev pub interpretation_of : ClassicalSignature → File → Result StructureTables InterpError
interpretation_of csig file =
    let context = context_of_file csig file.statements in
    unless_fault (fault_in context file.statements) (within_limits (sizes_of context) (rows_given (given_by context (all_parts file.statements))) csig)
