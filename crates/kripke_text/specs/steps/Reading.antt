-- What the readers of statements give.
use Rattle.std.specs.Prelude.{◌≡◌, ℕ, ◌<◌, ◌≤◌, ◌++◌, Bool, true, false, List, ◌∷◌, map, length, take, drop, slice_index, slice_set, Option, None, Some, IsSome}
use Rattle.tptp_lex.specs.declared.token.Token.{Token}
use Rattle.nxf_tree.specs.declared.tree.Signature.{Signature}
use Rattle.nxf_tree.specs.declared.tree.SortName.{SortName}
use Rattle.nxf_tree.specs.Rows.{Table, Shape, AreSizes, IsTable}
use Rattle.nxf_tree.specs.ClassicalSignature.{classical_signature_of}
use Rattle.fin_struct.specs.Limits.{cells_of}
use Rattle.fin_struct.specs.Cells.{CellTable, table_at}
use Rattle.fin_struct.specs.RowLists.{shape_of, listed}
use Rattle.fin_struct.specs.KripkeTables.{KripkeTables, with_written}
use Rattle.plain_tokens.specs.PlainTokens.{Plain, plains_of}
use Rattle.plain_tokens.specs.Marks.{Mark, plains}
use Rattle.kripke_text_definitions.specs.declared.error.KripkeTextError.{KripkeTextError}
use Rattle.kripke_text_definitions.specs.declared.error.KripkeTextError.TheVariants.{Form, TooManyWorlds, TooBig, Memory}
use Rattle.kripke_text_definitions.specs.TokenStatements.{statements}
use Rattle.kripke_text_definitions.specs.KripkeText as text
use Rattle.kripke_text_definitions.specs.Reading.{IsFormFault, head_length}
use Rattle.kripke_text_laws.specs.steps.FirstParts.{NextIsNot}
use Rattle.kripke_text.specs.steps.Lines.{line_marks, none_after}

-- the numbers that a row may have: below the size of the sort of a function's values; a predicate has none, and 0 stands for it
abbrev pub Bounded : Option ℕ → ℕ → Type 0
Bounded None v = v ≡ 0
Bounded (Some size) v = v < size

-- the cell of a row with this line
abbrev pub cell_of : Option ℕ → Option ℕ → ℕ
cell_of values None = 0
cell_of None (Some v) = 1
cell_of (Some size) (Some v) = v

-- the first statement of the tokens has so many of them
abbrev pub IsFirstLength : List ℕ → List Token → ℕ → Type 0
IsFirstLength bytes left n = statements (plains_of bytes left) ≡ plains_of bytes (take n left) ∷ statements (plains_of bytes (drop n left))

-- the first of the statements is taken
abbrev pub IsNext : List (List Plain) → Option (List Plain) → List (List Plain) → Type 0
IsNext old found new = (s : List Plain) × (found ≡ Some s) × (old ≡ s ∷ new)

-- the tokens are those of the statement for this number, or of none that is meant
abbrev pub Reads : (ℕ → List Mark) → (ℕ → Type 0) → Option (List Plain) → Option ℕ → Type 0
Reads statement P tokens (Some n) = P n × (tokens ≡ Some (plains (statement n)))
Reads statement P tokens None = (n : ℕ) → P n → tokens ≡ Some (plains (statement n)) → ⊥

-- the marks come next and are taken with a number in them, or they come next with none that is meant
abbrev pub TakesNumber : (ℕ → List Mark) → (ℕ → Type 0) → Option (List Plain) → Option (List Plain) → Option ℕ → Type 0
TakesNumber marks P old new (Some n) = (rest : List Plain) × P n × (old ≡ Some (plains (marks n) ++ rest)) × (new ≡ Some rest)
TakesNumber marks P old new None = (n : ℕ) (rest : List Plain) → P n → old ≡ Some (plains (marks n) ++ rest) → ⊥

-- the literal of the row comes next and is taken, with `&` before it unless it is the first; or it doesn't come next, and nothing is taken
abbrev pub TakesLine : text.Label → Option ℕ → Bool → List ℕ → Option (List Plain) → Option (List Plain) → Option ℕ → Type 0
TakesLine label values none row old new (Some v) = TakesNumber (λ n. line_marks label none row (Some n)) (Bounded values) old new (Some v)
TakesLine label values none row old new None = (new ≡ old) × TakesNumber (λ n. line_marks label none row (Some n)) (Bounded values) old new None

-- what a row's literal says is written: nothing where a predicate's row has none
abbrev pub Writes : Option ℕ → ℕ → List ℕ → Option ℕ → KripkeTables → KripkeTables → Type 0
Writes values t row None old new = (new ≡ old) × (values ≡ None)
Writes values t row (Some v) old new = new ≡ with_written old t row (cell_of values (Some v))

-- a row is read, with its literal or without
pub record ReadsRow (label : text.Label) (values : Option ℕ) (none : Bool) (t : ℕ) (row : List ℕ) (old new : Option (List Plain)) (view made : KripkeTables) (after : Bool) : Type 0 where
  pub found : Option ℕ
  pub takes : TakesLine label values none row old new found
  pub after_is : after ≡ none_after none found
  pub written : Writes values t row found view made

-- a row is read, or it is a function's and its literal doesn't come next
abbrev pub ReadsLine : text.Label → Option ℕ → Bool → ℕ → List ℕ → Option (List Plain) → Option (List Plain) → KripkeTables → KripkeTables → Option Bool → Type 0
ReadsLine label values none t row old new view made (Some after) = ReadsRow label values none t row old new view made after
ReadsLine label values none t row old new view made None = IsSome values × TakesLine label values none row old new None

-- the structure with other cells in a table
abbrev pub with_cells : KripkeTables → ℕ → List ℕ → KripkeTables
with_cells view t cells = record view { tables = slice_set view.tables t (record (table_at view.tables t) { cells = cells }) }

-- all cells are 0
abbrev pub IsBlank : CellTable → Type 0
IsBlank table = (k : ℕ) → k < length table.cells → slice_index table.cells k ≡ 0

-- the statement is that of the table, as it is written now; or it is that of no table of its shape
abbrev pub ReadsTable : text.Label → ℕ → Option (List Plain) → KripkeTables → KripkeTables → Bool → Type 0
ReadsTable label t tokens view made true = (cells : List ℕ) × (made ≡ with_cells view t cells) × (tokens ≡ Some (plains (text.table_statement label (listed (table_at made.tables t)))))
ReadsTable label t tokens view made false = (table : Table) → IsTable (shape_of (table_at view.tables t)) table → tokens ≡ Some (plains (text.table_statement label table)) → ⊥

-- the statement is that of a table of this shape
abbrev pub IsTableStatement : text.Label → Shape → List Plain → Type 0
IsTableStatement label shape s = (table : Table) × IsTable shape table × (s ≡ plains (text.table_statement label table))

-- the next statement is that of the table, as it is written now, and is taken; or it is that of no table of its shape
abbrev pub TakesTable : text.Label → ℕ → List (List Plain) → List (List Plain) → KripkeTables → KripkeTables → Bool → Type 0
TakesTable label t old new view made true = (cells : List ℕ) × (made ≡ with_cells view t cells) × (old ≡ plains (text.table_statement label (listed (table_at made.tables t))) ∷ new)
TakesTable label t old new view made false = NextIsNot (IsTableStatement label (shape_of (table_at view.tables t))) old

-- statement k isn't one that is meant, or it is missing; or there was no memory
abbrev pub RefusesAt : ℕ → (List Plain → Type 0) → List (List Plain) → KripkeTextError → Type 0
RefusesAt k Q ss (Form j) = (j ≡ k) × NextIsNot Q ss
RefusesAt k Q ss (TooManyWorlds n) = ⊥
RefusesAt k Q ss (TooBig c) = ⊥
RefusesAt k Q ss Memory = Unit {0}

-- a statement for the elements of the sort
abbrev pub IsDomain : SortName → List Plain → Type 0
IsDomain sort s = (n : ℕ) × (0 < n) × (s ≡ plains (text.domain_statement sort n))

-- where the statements go wrong within the head
abbrev pub HeadRefuses : Signature → List (List Plain) → KripkeTextError → Type 0
HeadRefuses sig ss (Form k) = (k ≤ head_length sig) × ((tokens : List Plain) → statements tokens ≡ ss → IsFormFault sig tokens k)
HeadRefuses sig ss (TooManyWorlds n) = ⊥
HeadRefuses sig ss (TooBig c) = ⊥
HeadRefuses sig ss Memory = Unit {0}

-- the statements begin with a head, and these are left
pub record IsHead (sig : Signature) (worlds actual : ℕ) (sizes : List ℕ) (old new : List (List Plain)) : Type 0 where
  pub actual_in : actual < worlds
  pub sizes_are : AreSizes sig.sorts sizes
  pub taken : old ≡ map plains (text.head_marks sig worlds actual sizes) ++ new

-- which limit so many worlds and elements are above
abbrev pub LimitRefuses : Signature → ℕ → List ℕ → KripkeTextError → Type 0
LimitRefuses sig worlds sizes (Form k) = ⊥
LimitRefuses sig worlds sizes (TooManyWorlds n) = (n ≡ worlds) × (65535 < worlds)
LimitRefuses sig worlds sizes (TooBig c) = (c ≡ cells_of (classical_signature_of sig) (worlds ∷ sizes)) × (worlds ≤ 65535) × (4194304 < cells_of (classical_signature_of sig) (worlds ∷ sizes))
LimitRefuses sig worlds sizes Memory = Unit {0}

-- all cells of all tables are 0
abbrev pub AreBlank : List CellTable → Type 0
AreBlank tables = (t : ℕ) → t < length tables → IsBlank (table_at tables t)

-- where the statements behind the head of such a structure go wrong
abbrev pub TablesRefuse : Signature → KripkeTables → List (List Plain) → KripkeTextError → Type 0
TablesRefuse sig view ss (Form k) = (head_length sig < k) × ((tokens : List Plain) → statements tokens ≡ map plains (text.head_marks sig view.worlds view.actual view.sizes) ++ ss → IsFormFault sig tokens k)
TablesRefuse sig view ss (TooManyWorlds n) = ⊥
TablesRefuse sig view ss (TooBig c) = ⊥
TablesRefuse sig view ss Memory = Unit {0}
