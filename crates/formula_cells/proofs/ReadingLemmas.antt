-- What a caller reads from a cell.
use Rattle.std.proofs.Common.{◌≡◌, ℕ, ◌<◌, ◌≤◌, List, [], length, get_or, sym, ap, ◌∙◌, subst, inl, inr, arith}
use Rattle.std.specs.Prelude.{nat_eq, slice_get, Some, None, true}
use Rattle.std.proofs.lemmas.List.{get_or_default}
use Rattle.std.proofs.lemmas.Option.{get_or_from_slice_get, slice_get_cases}
use Rattle.std.specs.Cmp.Lexicographic.{pointwise, bytes_decides}
use Rattle.numbered_definitions.specs.declared.node.Node as node
use Rattle.formula_cells.specs.declared.cell.Cell.{Cell}
use Rattle.formula_cells.specs.declared.cell.Cell.TheVariants.{True}
use Rattle.formula_cells.specs.Expressions.{OfFormula, as_node, as_term, expression}
use Rattle.formula_cells.specs.Stored.{Stored, cell_in, IsPart, IsArgument, IsCell, IsStored, expressions_of, expression_at, node_at, term_at}
use Rattle.formula_cells.specs.Putting.{IsNumber}
use Rattle.formula_cells.proofs.ExpressionLemmas.{expressions_read}

-- the cell at a place names what is there, and stands for what its parts make
pub stands : (s : Stored) → IsStored s → (at : ℕ) → at < length s.cells → (c : Cell) → c ≡ cell_in s.cells at → IsCell s.cells s.kids s.names at c × (expression_at s at ≡ expression s.kids s.names (expressions_of s) c)
stands s h at l c e =
    (subst (IsCell s.cells s.kids s.names at) (sym e) (h.each at l), expressions_read s.cells s.kids s.names h.each at (OfFormula node.True) l ∙ ap (expression s.kids s.names (expressions_of s)) (sym e))

-- what is read at a place is the cell there
pub read_at : (cells : List Cell) (at : ℕ) (c : Cell) → at < length cells → c ≡ get_or cells at c → c ≡ cell_in cells at
read_at cells at c l e = e ∙ get_or_default cells at c True l

-- the same of the cell that a pattern names
module _ (s : Stored) (at : ℕ) (c d : Cell) (is : c ≡ d) where
  pub good_read : IsCell s.cells s.kids s.names at c → IsCell s.cells s.kids s.names at d
  good_read h = subst (IsCell s.cells s.kids s.names at) is h

  pub node_read : expression_at s at ≡ expression s.kids s.names (expressions_of s) c → node_at s at ≡ as_node (expression s.kids s.names (expressions_of s) d)
  node_read h = ap as_node (h ∙ ap (expression s.kids s.names (expressions_of s)) is)

  pub term_read : expression_at s at ≡ expression s.kids s.names (expressions_of s) c → term_at s at ≡ as_term (expression s.kids s.names (expressions_of s) d)
  term_read h = ap as_term (h ∙ ap (expression s.kids s.names (expressions_of s)) is)

-- what is before a place is before each later one
pub part_within : (cells : List Cell) (at to n : ℕ) → at ≤ to → IsPart cells at n → IsPart cells to n
part_within cells at to n l p = record { below = omega (arith, l, p.below); formula = p.formula }

pub argument_within : (cells : List Cell) (at to n : ℕ) → at ≤ to → IsArgument cells at n → IsArgument cells to n
argument_within cells at to n l p = record { below = omega (arith, l, p.below); term = p.term }

-- the number of a name that is found
pub is_number : (names : List (List ℕ)) (x : ℕ) (text k : List ℕ) → slice_get names x ≡ Some k → pointwise nat_eq text k ≡ true → IsNumber names x text
is_number names x text k at same =
    let e : k ≡ text = sym ((bytes_decides text k).0 same) in
    elim ((slice_get_cases names x).1) [
      | inl b ↦ record { below = b.1; is = get_or_from_slice_get names x k [] at ∙ e }
      | inr b ↦ let none : slice_get names x ≡ None = b.1 in absurd (cc)
    ]
