-- That everything an evaluation reads is there: the levels of variables, the numbers of sorts, symbols and indexes, and the rows of tables, for every
-- value of the quantifiers below and every world that a modality can reach.
use Rattle.std.specs.Prelude.{◌≡◌, ℕ, ◌<◌, ◌≤◌, List, [], ◌∷◌, ◌++◌, map, length, None}
use Rattle.std.specs.Option.{IsSome}
use Rattle.std.specs.List.{All as Each}
use Rattle.nxf_tree.specs.Rows.{size_at}
use Rattle.fin_struct.specs.Places.{InRange}
use Rattle.fin_struct.specs.KripkeTables.{KripkeTables, symbol_table, symbol_row}
use Rattle.numbered_definitions.specs.declared.node.NTerm.{NTerm, Bound, Row_of-NTerm, end_of-NTerm, more_of-NTerm}
use Rattle.numbered_definitions.specs.declared.node.NTerm as numbered
use Rattle.numbered_definitions.specs.declared.node.Node.{Node, Row_of-Node, end_of-Node, more_of-Node}
use Rattle.numbered_definitions.specs.declared.node.Node as node
use Rattle.numbered_definitions.specs.NamedForm.{NodeNot, NodePair, NodeQuant, NodeModal}
use Rattle.kripke_evaluation_definitions.specs.NumberedMeaning.{node_value, node_values}

-- symbol y is a function, and the row for these arguments at the world is one of its table's
pub record IsFunctionRow (view : KripkeTables) (y w : ℕ) (args : List ℕ) : Type 0 where
  pub symbol_in : y < length view.world_first
  pub function : IsSome (symbol_table view y).values
  pub row_in : InRange (symbol_table view y).sizes (symbol_row view y w args)
  pub few : length args ≤ 1000

-- the same for a predicate
pub record IsPredicateRow (view : KripkeTables) (y w : ℕ) (args : List ℕ) : Type 0 where
  pub symbol_in : y < length view.world_first
  pub predicate : (symbol_table view y).values ≡ None
  pub row_in : InRange (symbol_table view y).sizes (w ∷ args)
  pub few : length args ≤ 1000

abbrev mutual
  pub TermFits : KripkeTables → ℕ → List ℕ → NTerm → Type 0
  TermFits view w e (Bound k) = k < length e
  TermFits view w e (numbered.App' y shape ns) = TermsFit view w e ns × IsFunctionRow view y w (node_values view w e ns)

  pub TermsFit : {m : _} → KripkeTables → ℕ → List ℕ → Row_of-NTerm m → Type 0
  TermsFit view w e end_of-NTerm = Unit {0}
  TermsFit view w e (more_of-NTerm n ns) = TermFits view w e n × TermsFit view w e ns

abbrev mutual
  pub Fits : KripkeTables → ℕ → List ℕ → Node → Type 0
  Fits view w e node.True = Unit {0}
  Fits view w e node.False = Unit {0}
  Fits view w e (node.Atom y ns) = Each (TermFits view w e) ns × IsPredicateRow view y w (map (node_value view w e) ns)
  Fits view w e (node.Same a b) = TermFits view w e a × TermFits view w e b
  Fits view w e (node.Differ a b) = TermFits view w e a × TermFits view w e b
  Fits view w e (NodeNot n) = Fits view w e n
  Fits view w e (node.And' shape ns) = AllFit view w e ns
  Fits view w e (node.Or' shape ns) = AllFit view w e ns
  Fits view w e (NodePair op a b) = Fits view w e a × Fits view w e b
  Fits view w e (NodeQuant q k x n) = (k < length view.existence) × ((a : ℕ) → a < size_at view.sizes k → Fits view w (e ++ a ∷ []) n)
  Fits view w e (NodeModal m i n) = (i < view.indexes) × ((v : ℕ) → v < view.worlds → Fits view v e n)

  pub AllFit : {m : _} → KripkeTables → ℕ → List ℕ → Row_of-Node m → Type 0
  AllFit view w e end_of-Node = Unit {0}
  AllFit view w e (more_of-Node n ns) = Fits view w e n × AllFit view w e ns
