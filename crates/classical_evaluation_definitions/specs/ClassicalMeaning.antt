-- What numbered terms and formulas say in a classical structure whose tables are read by number: satisfaction, as `Classical` of `nxf_tree` has it of
-- named formulas, case by case. `e` has the values of the variables of the enclosing quantifiers, from the outside in, so that a level is a place.
use Rattle.std.specs.Prelude.{ℕ, zero, suc, Bool, true, false, ◌&&◌, ◌||◌, not, nat_eq, List, [], ◌∷◌, ◌++◌, map, slice_index}
use Rattle.nxf_tree.specs.declared.tree.Quantifier.TheVariants.{All, Exists}
use Rattle.nxf_tree.specs.Counting.{all_below, any_below, all_different}
use Rattle.nxf_tree.specs.Kripke.{connect}
use Rattle.nxf_tree.specs.Rows.{size_at}
use Rattle.fin_struct.specs.Cells.{cell, table_at}
use Rattle.fin_struct.specs.StructureTables.{StructureTables}
use Rattle.numbered_definitions.specs.declared.node.NTerm.{NTerm, Bound, Row_of-NTerm, end_of-NTerm, more_of-NTerm}
use Rattle.numbered_definitions.specs.declared.node.NTerm as numbered
use Rattle.numbered_definitions.specs.declared.node.Node.{Node, Row_of-Node, end_of-Node, more_of-Node}
use Rattle.numbered_definitions.specs.declared.node.Node as node
use Rattle.numbered_definitions.specs.NamedForm.{NodeNot, NodePair, NodeQuant, NodeModal}

-- the value of a function at these arguments: symbol 0 is `mk_actual`
abbrev pub function_in : StructureTables → ℕ → List ℕ → ℕ
function_in view zero args = view.actual
function_in view (suc t) args = cell (table_at view.tables t) args

-- whether a predicate holds of these arguments: symbol 0 is `$distinct`, of values that differ pairwise
abbrev pub predicate_in : StructureTables → ℕ → List ℕ → Bool
predicate_in view zero args = all_different nat_eq args
predicate_in view (suc t) args = nat_eq (cell (table_at view.tables t) args) 1

abbrev mutual
  -- the value of a term
  pub node_value : StructureTables → List ℕ → NTerm → ℕ
  node_value view e (Bound k) = slice_index e k
  node_value view e (numbered.App' y shape ns) = function_in view y (node_values view e ns)

  pub node_values : {m : _} → StructureTables → List ℕ → Row_of-NTerm m → List ℕ
  node_values view e end_of-NTerm = []
  node_values view e (more_of-NTerm n ns) = node_value view e n ∷ node_values view e ns

abbrev mutual
  -- whether a formula is true: a quantifier ranges over its whole sort, and a modality says nothing true
  pub node_sat : StructureTables → List ℕ → Node → Bool
  node_sat view e node.True = true
  node_sat view e node.False = false
  node_sat view e (node.Atom y ns) = predicate_in view y (map (node_value view e) ns)
  node_sat view e (node.Same a b) = nat_eq (node_value view e a) (node_value view e b)
  node_sat view e (node.Differ a b) = not (nat_eq (node_value view e a) (node_value view e b))
  node_sat view e (NodeNot n) = not (node_sat view e n)
  node_sat view e (node.And' shape ns) = all_nodes view e ns
  node_sat view e (node.Or' shape ns) = some_node view e ns
  node_sat view e (NodePair op a b) = connect op (node_sat view e a) (node_sat view e b)
  node_sat view e (NodeQuant All k x n) = all_below (size_at view.sizes k) (λ a. node_sat view (e ++ a ∷ []) n)
  node_sat view e (NodeQuant Exists k x n) = any_below (size_at view.sizes k) (λ a. node_sat view (e ++ a ∷ []) n)
  node_sat view e (NodeModal m i n) = false

  pub all_nodes : {m : _} → StructureTables → List ℕ → Row_of-Node m → Bool
  all_nodes view e end_of-Node = true
  all_nodes view e (more_of-Node n ns) = node_sat view e n && all_nodes view e ns

  pub some_node : {m : _} → StructureTables → List ℕ → Row_of-Node m → Bool
  some_node view e end_of-Node = false
  some_node view e (more_of-Node n ns) = node_sat view e n || some_node view e ns
