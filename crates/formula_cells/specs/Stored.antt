-- Cells with their kids, names and roots, the formulas that they stand for, and when they are in order.
use Rattle.std.specs.Prelude.{◌≡◌, ℕ, ◌+◌, ◌<◌, ◌≤◌, Bool, true, false, nat_eq, List, [], ◌∷◌, ◌++◌, map, length, slice_index_or}
use Rattle.std.specs.List.{All, IsDistinct}
use Rattle.std.specs.Cmp.Lexicographic.{pointwise}
use Rattle.numbered_definitions.specs.declared.node.NTerm.{NTerm}
use Rattle.numbered_definitions.specs.declared.node.Node.{Node}
use Rattle.numbered_definitions.specs.declared.node.Node as node
use Rattle.numbered_definitions.specs.declared.node.Numbered.{Numbered}
use Rattle.formula_cells.specs.declared.cell.Span.{Span}
use Rattle.formula_cells.specs.declared.cell.Cell.{Cell}
use Rattle.formula_cells.specs.declared.cell.Cell.TheVariants.{True, False, Atom, Same, Differ, Not, And, Or, Pair, Quant, Modal, Bound, App}
use Rattle.formula_cells.specs.declared.root.Root.{Root}
use Rattle.formula_cells.specs.Expressions.{Expression, OfFormula, expression, expressions, as_node, as_term, node_in, term_in, span_of}

-- the cells, the numbers of cells that spans are stretches of, the names, and the formulas of a file
pub record Stored : Type 0 where
  pub cells : List Cell
  pub kids : List ℕ
  pub names : List (List ℕ)
  pub roots : List Root

-- what the cells stand for, in their order
abbrev pub expressions_of : Stored → List Expression
expressions_of s = expressions s.kids s.names s.cells

-- what a cell of them stands for, and the one with a number
abbrev pub expression_of : Stored → Cell → Expression
expression_of s c = expression s.kids s.names (expressions_of s) c

abbrev pub expression_at : Stored → ℕ → Expression
expression_at s k = slice_index_or (expressions_of s) k (OfFormula node.True)

abbrev pub node_at : Stored → ℕ → Node
node_at s k = node_in (expressions_of s) k

abbrev pub term_at : Stored → ℕ → NTerm
term_at s k = term_in (expressions_of s) k

-- the formula of a statement with this number and name, which is the one of a cell
abbrev pub root_of : ℕ → List ℕ → ℕ → Root
root_of place label cell = record { place = place; label = label; cell = cell }

-- the formulas of the file
abbrev pub formula_of : List Expression → Root → Numbered
formula_of es r = record { place = r.place; name = r.label; node = node_in es r.cell }

abbrev pub formula_in : Stored → Root → Numbered
formula_in s r = formula_of (expressions_of s) r

abbrev pub formulas_in : Stored → List Numbered
formulas_in s = map (formula_of (expressions_of s)) s.roots

-- the same cells with one more formula of the file
abbrev pub with_root : Stored → Root → Stored
with_root s r = record s { roots = s.roots ++ r ∷ [] }

-- the formula, or the term, of a cell that comes behind the others, and its parts behind the kids
abbrev pub node_behind : Stored → List ℕ → Cell → Node
node_behind s parts c = as_node (expression (s.kids ++ parts) s.names (expressions_of s) c)

abbrev pub term_behind : Stored → List ℕ → Cell → NTerm
term_behind s args c = as_term (expression (s.kids ++ args) s.names (expressions_of s) c)

abbrev pub cell_in : List Cell → ℕ → Cell
cell_in cells k = slice_index_or cells k True

-- whether a cell is one of a term, and not of a formula
abbrev pub is_term : Cell → Bool
is_term True = false
is_term False = false
is_term (Atom p s) = false
is_term (Same a b) = false
is_term (Differ a b) = false
is_term (Not n) = false
is_term (And s) = false
is_term (Or s) = false
is_term (Pair op a b) = false
is_term (Quant q s x n) = false
is_term (Modal m i n) = false
is_term (Bound k) = true
is_term (App f s) = true

-- the number is below another one, and of a formula's cell, or of a term's
pub record IsPart (cells : List Cell) (at n : ℕ) : Type 0 where
  pub below : n < at
  pub formula : is_term (cell_in cells n) ≡ false

pub record IsArgument (cells : List Cell) (at n : ℕ) : Type 0 where
  pub below : n < at
  pub term : is_term (cell_in cells n) ≡ true

-- the span lies in the kids, and has only such numbers
pub record AreParts (cells : List Cell) (kids : List ℕ) (at : ℕ) (s : Span) : Type 0 where
  pub inside : s.from + s.len ≤ length kids
  pub all : All (IsPart cells at) (span_of kids s)

pub record AreArguments (cells : List Cell) (kids : List ℕ) (at : ℕ) (s : Span) : Type 0 where
  pub inside : s.from + s.len ≤ length kids
  pub all : All (IsArgument cells at) (span_of kids s)

-- what the cell at a place names is there: cells of the right kind before it, a stretch of the kids, a name
abbrev pub IsCell : List Cell → List ℕ → List (List ℕ) → ℕ → Cell → Type 0
IsCell cells kids names at True = Unit {0}
IsCell cells kids names at False = Unit {0}
IsCell cells kids names at (Atom p s) = AreArguments cells kids at s
IsCell cells kids names at (Same a b) = IsArgument cells at a × IsArgument cells at b
IsCell cells kids names at (Differ a b) = IsArgument cells at a × IsArgument cells at b
IsCell cells kids names at (Not n) = IsPart cells at n
IsCell cells kids names at (And s) = AreParts cells kids at s
IsCell cells kids names at (Or s) = AreParts cells kids at s
IsCell cells kids names at (Pair op a b) = IsPart cells at a × IsPart cells at b
IsCell cells kids names at (Quant q s x n) = (x < length names) × IsPart cells at n
IsCell cells kids names at (Modal m i n) = IsPart cells at n
IsCell cells kids names at (Bound k) = Unit {0}
IsCell cells kids names at (App f s) = AreArguments cells kids at s

-- the number is one of a formula's cell, or of a term's
abbrev pub IsFormula : Stored → ℕ → Type 0
IsFormula s n = IsPart s.cells (length s.cells) n

abbrev pub IsTerm : Stored → ℕ → Type 0
IsTerm s n = IsArgument s.cells (length s.cells) n

-- what each cell names is there, the names differ, and the roots are formulas
pub record IsStored (s : Stored) : Type 0 where
  pub each : (k : ℕ) → k < length s.cells → IsCell s.cells s.kids s.names k (cell_in s.cells k)
  pub differ : IsDistinct (pointwise nat_eq) s.names
  pub roots : All (λ (r : Root). IsFormula s r.cell) s.roots
