-- What a call that puts formulas and terms into cells does.
use Rattle.std.specs.Prelude.{◌≡◌, ℕ, ◌+◌, ◌<◌, List, ◌++◌, map, length}
use Rattle.std.specs.List.{All}
use Rattle.numbered_definitions.specs.declared.node.NTerm.{NTerm}
use Rattle.numbered_definitions.specs.declared.node.Node.{Node}
use Rattle.formula_cells.specs.declared.cell.Cell.{Cell}
use Rattle.formula_cells.specs.Expressions.{Expression, expression, name_in}
use Rattle.formula_cells.specs.Stored.{Stored, expressions_of, expression_at, node_at, term_at, formulas_in, cell_in, IsFormula, IsTerm}

-- all that comes stands behind what was there; the cells that were there stand for what they stood for, and the formulas of the file stay
pub record Grows (old new : Stored) : Type 0 where
  pub cells : (more : List Cell) × (new.cells ≡ old.cells ++ more)
  pub kids : (more : List ℕ) × (new.kids ≡ old.kids ++ more)
  pub names : (more : List (List ℕ)) × (new.names ≡ old.names ++ more)
  pub expressions : (more : List Expression) × (expressions_of new ≡ expressions_of old ++ more)
  pub roots : new.roots ≡ old.roots
  pub formulas : formulas_in new ≡ formulas_in old

-- one cell comes behind the others: it is this one, whose parts are among these kids and names
pub record AddsCell (old new : Stored) (at : ℕ) (kids : List ℕ) (c : Cell) : Type 0 where
  pub grows : Grows old new
  pub last : at ≡ length old.cells
  pub one_more : length new.cells ≡ length old.cells + 1
  pub cell : cell_in new.cells at ≡ c
  pub stands : expression_at new at ≡ expression kids old.names (expressions_of old) c

-- one cell comes behind the others, and it stands for this formula, or this term
pub record AddsNode (old new : Stored) (at : ℕ) (n : Node) : Type 0 where
  pub grows : Grows old new
  pub last : at ≡ length old.cells
  pub one_more : length new.cells ≡ length old.cells + 1
  pub formula : IsFormula new at
  pub node : node_at new at ≡ n

pub record AddsTerm (old new : Stored) (at : ℕ) (t : NTerm) : Type 0 where
  pub grows : Grows old new
  pub last : at ≡ length old.cells
  pub one_more : length new.cells ≡ length old.cells + 1
  pub is_term : IsTerm new at
  pub term : term_at new at ≡ t

-- cells come behind the others, and the one with this number is a formula, or a term, of which this is so
pub record Puts (P : Node → Type 0) (old new : Stored) (at : ℕ) : Type 0 where
  pub grows : Grows old new
  pub formula : IsFormula new at
  pub holds : P (node_at new at)

pub record PutsTerm (P : NTerm → Type 0) (old new : Stored) (at : ℕ) : Type 0 where
  pub grows : Grows old new
  pub is_term : IsTerm new at
  pub holds : P (term_at new at)

-- the same of several
pub record PutsAll (P : List Node → Type 0) (old new : Stored) (parts : List ℕ) : Type 0 where
  pub grows : Grows old new
  pub formulas : All (IsFormula new) parts
  pub holds : P (map (node_at new) parts)

pub record PutsTerms (P : List NTerm → Type 0) (old new : Stored) (args : List ℕ) : Type 0 where
  pub grows : Grows old new
  pub are_terms : All (IsTerm new) args
  pub holds : P (map (term_at new) args)

-- the number is that of the name
pub record IsNumber (names : List (List ℕ)) (x : ℕ) (name : List ℕ) : Type 0 where
  pub below : x < length names
  pub is : name_in names x ≡ name
