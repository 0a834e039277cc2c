-- Depth of numbered terms and formulas: the greatest number of nodes on a way from the root to a leaf, terms included.
use Rattle.std.specs.Prelude.{ℕ, ◌+◌, max, List, [], ◌∷◌}
use Rattle.numbered_definitions.specs.declared.node.NTerm.{NTerm, Bound, Row_of-NTerm, end_of-NTerm, more_of-NTerm}
use Rattle.numbered_definitions.specs.declared.node.NTerm as numbered
use Rattle.numbered_definitions.specs.declared.node.Node.{Node, Row_of-Node, end_of-Node, more_of-Node}
use Rattle.numbered_definitions.specs.declared.node.Node as node
use Rattle.numbered_definitions.specs.NamedForm.{NodeNot, NodePair, NodeQuant, NodeModal}

abbrev mutual
  pub term_depth : NTerm → ℕ
  term_depth (Bound k) = 1
  term_depth (numbered.App' k shape ns) = row_depth ns + 1

  pub row_depth : {m : _} → Row_of-NTerm m → ℕ
  row_depth end_of-NTerm = 0
  row_depth (more_of-NTerm n ns) = max (term_depth n) (row_depth ns)

abbrev pub terms_depth : List NTerm → ℕ
terms_depth [] = 0
terms_depth (n ∷ ns) = max (term_depth n) (terms_depth ns)

abbrev mutual
  pub node_depth : Node → ℕ
  node_depth node.True = 1
  node_depth node.False = 1
  node_depth (node.Atom k ns) = terms_depth ns + 1
  node_depth (node.Same a b) = max (term_depth a) (term_depth b) + 1
  node_depth (node.Differ a b) = max (term_depth a) (term_depth b) + 1
  node_depth (NodeNot n) = node_depth n + 1
  node_depth (node.And' shape ns) = node_row_depth ns + 1
  node_depth (node.Or' shape ns) = node_row_depth ns + 1
  node_depth (NodePair op a b) = max (node_depth a) (node_depth b) + 1
  node_depth (NodeQuant q k x n) = node_depth n + 1
  node_depth (NodeModal m k n) = node_depth n + 1

  pub node_row_depth : {m : _} → Row_of-Node m → ℕ
  node_row_depth end_of-Node = 0
  node_row_depth (more_of-Node n ns) = max (node_depth n) (node_row_depth ns)

abbrev pub nodes_depth : List Node → ℕ
nodes_depth [] = 0
nodes_depth (n ∷ ns) = max (node_depth n) (nodes_depth ns)
