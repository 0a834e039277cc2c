-- The named form of a numbered classical formula: the formula that it stands for, with the names of the classical signature in place of numbers. It is
-- a numbered formula as `NamedForm` of `numbered_definitions` has it, whose symbol 0 is `mk_actual` among the functions and `$distinct` among the
-- predicates; the other symbols are the tables in their order, from 1 on. A modality stands for no classical formula.
use Rattle.std.specs.Prelude.{ℕ, zero, suc, List, [], ◌∷◌, ◌++◌, slice_get, Option, None, Some}
use Rattle.std.specs.Option.{option_map}
use Rattle.nxf_tree.specs.declared.tree.ClassicalSignature.{ClassicalSignature}
use Rattle.nxf_tree.specs.declared.tree.Term.{Term, Var, App}
use Rattle.nxf_tree.specs.declared.tree.Formula.{Formula, True, False, Atom, Same, Differ, Not, And, Or, Pair, Quant, Distinct}
use Rattle.nxf_tree.specs.Names.{actual_name}
use Rattle.numbered_definitions.specs.declared.node.NTerm.{NTerm, Bound, Row_of-NTerm, end_of-NTerm, more_of-NTerm}
use Rattle.numbered_definitions.specs.declared.node.NTerm as numbered
use Rattle.numbered_definitions.specs.declared.node.Node.{Node, Row_of-Node, end_of-Node, more_of-Node}
use Rattle.numbered_definitions.specs.declared.node.Node as node
use Rattle.numbered_definitions.specs.NamedForm.{NodeNot, NodePair, NodeQuant, NodeModal, both, variable}

-- the name of a table by its number
abbrev pub table_name : ClassicalSignature → ℕ → Option (List ℕ)
table_name csig t = option_map (λ entry. entry.name) (slice_get csig.tables t)

-- the name of a function by its number
abbrev pub function_name : ClassicalSignature → ℕ → Option (List ℕ)
function_name csig zero = Some actual_name
function_name csig (suc t) = table_name csig t

-- a predicate, by its number, of these arguments
abbrev pub named_atom : ClassicalSignature → ℕ → Option (List Term) → Option Formula
named_atom csig zero ts = option_map Distinct ts
named_atom csig (suc t) ts = both Atom (table_name csig t) ts

abbrev mutual
  -- the term that a numbered one stands for under quantifiers of these variables, or None where a number has no name
  pub named_term : ClassicalSignature → List (List ℕ) → NTerm → Option Term
  named_term csig xs (Bound k) = option_map Var (variable xs k)
  named_term csig xs (numbered.App' k shape ns) = both App (function_name csig k) (named_row csig xs ns)

  pub named_row : {m : _} → ClassicalSignature → List (List ℕ) → Row_of-NTerm m → Option (List Term)
  named_row csig xs end_of-NTerm = Some []
  named_row csig xs (more_of-NTerm n ns) = both (λ t ts. t ∷ ts) (named_term csig xs n) (named_row csig xs ns)

-- the same for a list of terms
abbrev pub named_terms : ClassicalSignature → List (List ℕ) → List NTerm → Option (List Term)
named_terms csig xs [] = Some []
named_terms csig xs (n ∷ ns) = both (λ t ts. t ∷ ts) (named_term csig xs n) (named_terms csig xs ns)

abbrev mutual
  -- the formula that a numbered one stands for under quantifiers of these variables, or None where a number has no name
  pub named_form : ClassicalSignature → List (List ℕ) → Node → Option Formula
  named_form csig xs node.True = Some True
  named_form csig xs node.False = Some False
  named_form csig xs (node.Atom k ns) = named_atom csig k (named_terms csig xs ns)
  named_form csig xs (node.Same a b) = both Same (named_term csig xs a) (named_term csig xs b)
  named_form csig xs (node.Differ a b) = both Differ (named_term csig xs a) (named_term csig xs b)
  named_form csig xs (NodeNot n) = option_map Not (named_form csig xs n)
  named_form csig xs (node.And' shape ns) = option_map And (named_nodes csig xs ns)
  named_form csig xs (node.Or' shape ns) = option_map Or (named_nodes csig xs ns)
  named_form csig xs (NodePair op a b) = both (Pair op) (named_form csig xs a) (named_form csig xs b)
  named_form csig xs (NodeQuant q k x n) = both (Quant q x) (slice_get csig.sorts k) (named_form csig (xs ++ x ∷ []) n)
  named_form csig xs (NodeModal m k n) = None

  pub named_nodes : {m : _} → ClassicalSignature → List (List ℕ) → Row_of-Node m → Option (List Formula)
  named_nodes csig xs end_of-Node = Some []
  named_nodes csig xs (more_of-Node n ns) = both (λ f fs. f ∷ fs) (named_form csig xs n) (named_nodes csig xs ns)

-- the same for a list of nodes
abbrev pub named_forms : ClassicalSignature → List (List ℕ) → List Node → Option (List Formula)
named_forms csig xs [] = Some []
named_forms csig xs (n ∷ ns) = both (λ f fs. f ∷ fs) (named_form csig xs n) (named_forms csig xs ns)
