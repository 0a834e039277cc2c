-- What numbered terms and formulas say at a world of a Kripke structure whose tables are read by number: satisfaction, as `Kripke` of `nxf_tree` has
-- it of named formulas, case by case. `e` has the values of the variables of the enclosing quantifiers, from the outside in, so that a level is a place.
use Rattle.std.specs.Prelude.{ℕ, Bool, true, false, ◌&&◌, ◌||◌, not, nat_eq, List, [], ◌∷◌, ◌++◌, map, slice_index}
use Rattle.nxf_tree.specs.declared.tree.Quantifier.TheVariants.{All, Exists}
use Rattle.nxf_tree.specs.declared.tree.Mode.TheVariants.{Box, Dia}
use Rattle.nxf_tree.specs.declared.tree.Scope.{Scope}
use Rattle.nxf_tree.specs.declared.tree.Scope.TheVariants.{Local, Global}
use Rattle.nxf_tree.specs.Counting.{all_below, any_below, implies}
use Rattle.nxf_tree.specs.Kripke.{connect}
use Rattle.nxf_tree.specs.Rows.{size_at}
use Rattle.fin_struct.specs.KripkeTables.{KripkeTables, related_in, exists_in, value_in, predicate_in}
use Rattle.numbered_definitions.specs.declared.node.NTerm.{NTerm, Bound, Row_of-NTerm, end_of-NTerm, more_of-NTerm}
use Rattle.numbered_definitions.specs.declared.node.NTerm as numbered
use Rattle.numbered_definitions.specs.declared.node.Node.{Node, Row_of-Node, end_of-Node, more_of-Node}
use Rattle.numbered_definitions.specs.declared.node.Node as node
use Rattle.numbered_definitions.specs.NamedForm.{NodeNot, NodePair, NodeQuant, NodeModal}

abbrev mutual
  -- the value of a term at a world: a flexible function takes its value at that world, at each depth of the term
  pub node_value : KripkeTables → ℕ → List ℕ → NTerm → ℕ
  node_value view w e (Bound k) = slice_index e k
  node_value view w e (numbered.App' y shape ns) = value_in view y w (node_values view w e ns)

  pub node_values : {m : _} → KripkeTables → ℕ → List ℕ → Row_of-NTerm m → List ℕ
  node_values view w e end_of-NTerm = []
  node_values view w e (more_of-NTerm n ns) = node_value view w e n ∷ node_values view w e ns

abbrev mutual
  -- whether a formula holds at a world: a quantifier ranges over the elements that exist there, a modality over the worlds that are reached from there
  pub node_sat : KripkeTables → ℕ → List ℕ → Node → Bool
  node_sat view w e node.True = true
  node_sat view w e node.False = false
  node_sat view w e (node.Atom y ns) = predicate_in view y w (map (node_value view w e) ns)
  node_sat view w e (node.Same a b) = nat_eq (node_value view w e a) (node_value view w e b)
  node_sat view w e (node.Differ a b) = not (nat_eq (node_value view w e a) (node_value view w e b))
  node_sat view w e (NodeNot n) = not (node_sat view w e n)
  node_sat view w e (node.And' shape ns) = all_nodes view w e ns
  node_sat view w e (node.Or' shape ns) = some_node view w e ns
  node_sat view w e (NodePair op a b) = connect op (node_sat view w e a) (node_sat view w e b)
  node_sat view w e (NodeQuant All k x n) = all_below (size_at view.sizes k) (λ a. implies (exists_in view k w a) (node_sat view w (e ++ a ∷ []) n))
  node_sat view w e (NodeQuant Exists k x n) = any_below (size_at view.sizes k) (λ a. exists_in view k w a && node_sat view w (e ++ a ∷ []) n)
  node_sat view w e (NodeModal Box i n) = all_below view.worlds (λ v. implies (related_in view i w v) (node_sat view v e n))
  node_sat view w e (NodeModal Dia i n) = any_below view.worlds (λ v. related_in view i w v && node_sat view v e n)

  pub all_nodes : {m : _} → KripkeTables → ℕ → List ℕ → Row_of-Node m → Bool
  all_nodes view w e end_of-Node = true
  all_nodes view w e (more_of-Node n ns) = node_sat view w e n && all_nodes view w e ns

  pub some_node : {m : _} → KripkeTables → ℕ → List ℕ → Row_of-Node m → Bool
  some_node view w e end_of-Node = false
  some_node view w e (more_of-Node n ns) = node_sat view w e n || some_node view w e ns

-- whether a closed formula holds where it counts: at the actual world, or at every world
abbrev pub node_holds_in : KripkeTables → Scope → Node → Bool
node_holds_in view Local n = node_sat view view.actual [] n
node_holds_in view Global n = all_below view.worlds (λ w. node_sat view w [] n)
