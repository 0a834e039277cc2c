-- The lines of a table: which of its rows are printed, and how, one row after the other.
use Rattle.std.specs.Prelude.{ℕ, Bool, true, false, nat_eq, if◌then◌else◌, List, [], ◌∷◌, ◌++◌, Option, None, Some}
use Rattle.nxf_tree.specs.Rows.{all_rows}
use Rattle.fin_struct.specs.Cells.{CellTable}
use Rattle.plain_tokens.specs.Marks.{Mark}
use Rattle.kripke_text_definitions.specs.KripkeText.{Label, literal}
use Rattle.kripke_text.specs.steps.Taking.{lead_marks}

-- the value that is printed for a row with this cell: none for a row of a predicate that isn't true
abbrev pub shown : Option ℕ → ℕ → Option ℕ
shown None c = if nat_eq c 1 then Some 0 else None
shown (Some size) c = Some c

-- a row's literal, with `&` before it unless it is the first
abbrev pub line_marks : Label → Bool → List ℕ → Option ℕ → List Mark
line_marks label none row None = []
line_marks label none row (Some v) = lead_marks none ++ literal label row v

-- whether no literal was printed so far
abbrev pub none_after : Bool → Option ℕ → Bool
none_after none None = none
none_after none (Some v) = false

-- the literals of these rows
abbrev pub lines : Label → Option ℕ → Bool → List (List ℕ) → List ℕ → List Mark
lines label values none [] cells = []
lines label values none (row ∷ rows) [] = []
lines label values none (row ∷ rows) (c ∷ cells) = line_marks label none row (shown values c) ++ lines label values (none_after none (shown values c)) rows cells

abbrev pub none_of : Option ℕ → Bool → List (List ℕ) → List ℕ → Bool
none_of values none [] cells = none
none_of values none (row ∷ rows) [] = none
none_of values none (row ∷ rows) (c ∷ cells) = none_of values (none_after none (shown values c)) rows cells

-- those of a table
abbrev pub lines_in : Label → CellTable → List Mark
lines_in label table = lines label table.values true (all_rows table.sizes) table.cells

abbrev pub none_in : CellTable → Bool
none_in table = none_of table.values true (all_rows table.sizes) table.cells
