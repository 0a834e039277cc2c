-- What cells stand for: formulas and terms, each read through the cells before it.
use Rattle.std.specs.Prelude.{ℕ, List, [], ◌∷◌, ◌++◌, map, take, drop, fold, slice_index_or}
use Rattle.numbered_definitions.specs.declared.node.NTerm.{NTerm}
use Rattle.numbered_definitions.specs.declared.node.NTerm as term
use Rattle.numbered_definitions.specs.declared.node.Node.{Node}
use Rattle.numbered_definitions.specs.declared.node.Node as node
use Rattle.numbered_definitions.specs.NamedForm.{NodeNot, NodePair, NodeQuant, NodeModal}
use Rattle.formula_cells.specs.declared.cell.Span.{Span}
use Rattle.formula_cells.specs.declared.cell.Cell.{Cell}
use Rattle.formula_cells.specs.declared.cell.Cell.TheVariants.{True, False, Atom, Same, Differ, Not, And, Or, Pair, Quant, Modal, Bound, App}

-- a formula or a term
pub data Expression : Type 0 where
  OfFormula : (n : Node) → Expression
  OfTerm : (t : NTerm) → Expression

-- the formula, or the term; another one where it is of the other kind
abbrev pub as_node : Expression → Node
as_node (OfFormula n) = n
as_node (OfTerm t) = node.True

abbrev pub as_term : Expression → NTerm
as_term (OfFormula n) = term.Bound 0
as_term (OfTerm t) = t

-- the formula, the term and the name with a number
abbrev pub node_in : List Expression → ℕ → Node
node_in before k = as_node (slice_index_or before k (OfFormula node.True))

abbrev pub term_in : List Expression → ℕ → NTerm
term_in before k = as_term (slice_index_or before k (OfFormula node.True))

abbrev pub name_in : List (List ℕ) → ℕ → List ℕ
name_in names k = slice_index_or names k []

-- the cells of a span
abbrev pub span_of : List ℕ → Span → List ℕ
span_of kids s = take s.len (drop s.from kids)

-- what a cell stands for, where those before it stand for these
abbrev pub expression : List ℕ → List (List ℕ) → List Expression → Cell → Expression
expression kids names before True = OfFormula node.True
expression kids names before False = OfFormula node.False
expression kids names before (Atom p s) = OfFormula (node.Atom p (map (term_in before) (span_of kids s)))
expression kids names before (Same a b) = OfFormula (node.Same (term_in before a) (term_in before b))
expression kids names before (Differ a b) = OfFormula (node.Differ (term_in before a) (term_in before b))
expression kids names before (Not n) = OfFormula (NodeNot (node_in before n))
expression kids names before (And s) = OfFormula (node.And (map (node_in before) (span_of kids s)))
expression kids names before (Or s) = OfFormula (node.Or (map (node_in before) (span_of kids s)))
expression kids names before (Pair op a b) = OfFormula (NodePair op (node_in before a) (node_in before b))
expression kids names before (Quant q s x n) = OfFormula (NodeQuant q s (name_in names x) (node_in before n))
expression kids names before (Modal m i n) = OfFormula (NodeModal m i (node_in before n))
expression kids names before (Bound k) = OfTerm (term.Bound k)
expression kids names before (App f s) = OfTerm (term.App f (map (term_in before) (span_of kids s)))

abbrev pub and_cell : List ℕ → List (List ℕ) → List Expression → Cell → List Expression
and_cell kids names before c = before ++ expression kids names before c ∷ []

-- what the cells stand for, from the first on
unfoldable pub expressions : List ℕ → List (List ℕ) → List Cell → List Expression
expressions kids names cells = fold (and_cell kids names) [] cells
