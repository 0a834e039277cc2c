-- That everything an evaluation reads is there: the levels of variables, the numbers of sorts and tables, and the rows of tables, for every value of the
-- quantifiers below. A row has at most 1,001 arguments, as many as a table has.
use Rattle.std.specs.Prelude.{◌≡◌, ℕ, zero, suc, ◌<◌, ◌≤◌, List, [], ◌∷◌, ◌++◌, map, length, None}
use Rattle.std.specs.Option.{IsSome}
use Rattle.std.specs.List.{All as Each}
use Rattle.nxf_tree.specs.Rows.{size_at}
use Rattle.fin_struct.specs.Places.{InRange}
use Rattle.fin_struct.specs.Cells.{table_at}
use Rattle.fin_struct.specs.StructureTables.{StructureTables}
use Rattle.numbered_definitions.specs.declared.node.NTerm.{NTerm, Bound, Row_of-NTerm, end_of-NTerm, more_of-NTerm}
use Rattle.numbered_definitions.specs.declared.node.NTerm as numbered
use Rattle.numbered_definitions.specs.declared.node.Node.{Node, Row_of-Node, end_of-Node, more_of-Node}
use Rattle.numbered_definitions.specs.declared.node.Node as node
use Rattle.numbered_definitions.specs.NamedForm.{NodeNot, NodePair, NodeQuant, NodeModal}
use Rattle.classical_evaluation_definitions.specs.ClassicalMeaning.{node_value, node_values}

-- the structure has the table, and these arguments are a row of it
pub record IsRow (view : StructureTables) (t : ℕ) (args : List ℕ) : Type 0 where
  pub table_in : t < length view.tables
  pub row_in : InRange (table_at view.tables t).sizes args
  pub few : length args ≤ 1001

-- what a function reads at these arguments is there: `mk_actual` reads no table
abbrev pub IsFunctionRow : StructureTables → ℕ → List ℕ → Type 0
IsFunctionRow view zero args = Unit {0}
IsFunctionRow view (suc t) args = IsSome (table_at view.tables t).values × IsRow view t args

-- what a predicate reads of these arguments is there: `$distinct` reads no table
abbrev pub IsPredicateRow : StructureTables → ℕ → List ℕ → Type 0
IsPredicateRow view zero args = Unit {0}
IsPredicateRow view (suc t) args = ((table_at view.tables t).values ≡ None) × IsRow view t args

abbrev mutual
  pub TermFits : StructureTables → List ℕ → NTerm → Type 0
  TermFits view e (Bound k) = k < length e
  TermFits view e (numbered.App' y shape ns) = TermsFit view e ns × IsFunctionRow view y (node_values view e ns)

  pub TermsFit : {m : _} → StructureTables → List ℕ → Row_of-NTerm m → Type 0
  TermsFit view e end_of-NTerm = Unit {0}
  TermsFit view e (more_of-NTerm n ns) = TermFits view e n × TermsFit view e ns

abbrev mutual
  pub Fits : StructureTables → List ℕ → Node → Type 0
  Fits view e node.True = Unit {0}
  Fits view e node.False = Unit {0}
  Fits view e (node.Atom y ns) = Each (TermFits view e) ns × IsPredicateRow view y (map (node_value view e) ns)
  Fits view e (node.Same a b) = TermFits view e a × TermFits view e b
  Fits view e (node.Differ a b) = TermFits view e a × TermFits view e b
  Fits view e (NodeNot n) = Fits view e n
  Fits view e (node.And' shape ns) = AllFit view e ns
  Fits view e (node.Or' shape ns) = AllFit view e ns
  Fits view e (NodePair op a b) = Fits view e a × Fits view e b
  Fits view e (NodeQuant q k x n) = (k < length view.sizes) × ((a : ℕ) → a < size_at view.sizes k → Fits view (e ++ a ∷ []) n)
  Fits view e (NodeModal m i n) = ⊥

  pub AllFit : {m : _} → StructureTables → List ℕ → Row_of-Node m → Type 0
  AllFit view e end_of-Node = Unit {0}
  AllFit view e (more_of-Node n ns) = Fits view e n × AllFit view e ns
