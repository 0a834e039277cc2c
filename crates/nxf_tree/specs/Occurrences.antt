-- What occurs in a file, from left to right: symbols, the sorts of variables, and indexes.
use Rattle.std.specs.Prelude.{ℕ, zero, suc, List, [], ◌∷◌, ◌++◌, map, length, Option, None, Some}
use Rattle.nxf_tree.specs.declared.tree.IndexName.{IndexName}
use Rattle.nxf_tree.specs.declared.tree.SortName.{SortName}
use Rattle.nxf_tree.specs.declared.tree.SortName.TheVariants.{Individual, User}
use Rattle.nxf_tree.specs.declared.tree.SpecKey.{SpecKey}
use Rattle.nxf_tree.specs.declared.tree.SpecKey.TheVariants.{Dollar, Name, Index}
use Rattle.nxf_tree.specs.declared.tree.Override.{Override}
use Rattle.nxf_tree.specs.declared.tree.Typing.TheVariants.{Individual as IsIndividual, Sort, Symbol}
use Rattle.nxf_tree.specs.declared.tree.Body.TheVariants.{Formula as IsFormula, Typing as IsTyping, Logic as IsLogic}
use Rattle.nxf_tree.specs.declared.tree.Statement.{Statement}
use Rattle.nxf_tree.specs.declared.tree.Statement.TheVariants.{Annotated, Include}
use Rattle.nxf_tree.specs.declared.tree.Term.{Term, Var, App', Row_of-Term, end_of-Term, more_of-Term}
use Rattle.nxf_tree.specs.declared.tree.Formula.{Formula, True, False, Atom, Same, Differ, And', Or', Distinct, Row_of-Formula, end_of-Formula, more_of-Formula}
use Rattle.nxf_tree.specs.Shapes.{Not1, Pair2, Quant1, Modal1}
use Rattle.nxf_tree.specs.Sorting.{SymbolType}
use Rattle.nxf_tree.specs.Specification.{override_list}

-- an occurrence of a symbol, with the type that it has there: the declared one in a type statement, else `$i` for each argument and for a value
pub record Use : Type 0 where
  pub name : List ℕ
  pub type : SymbolType

pub data Occurrence : Type 0 where
  symbol : Use → Occurrence
  -- `$i` as a subject of a type statement counts as a variable's sort
  sort : SortName → Occurrence
  index : IndexName → Occurrence

-- `$i` n times
abbrev pub individuals : ℕ → List SortName
individuals zero = []
individuals (suc n) = Individual ∷ individuals n

-- a use with so many arguments, each of sort `$i`
abbrev pub use_with : List ℕ → ℕ → Option SortName → Use
use_with name count gives = record { name = name; type = record { args = individuals count; gives = gives } }

-- how many terms a row has
abbrev pub row_length : {m : _} → Row_of-Term m → ℕ
row_length end_of-Term = 0
row_length (more_of-Term t ts) = suc (row_length ts)

abbrev mutual
  -- the symbols of a term, each before those of its arguments
  pub term_uses : Term → List Use
  term_uses (Var x) = []
  term_uses (App' f shape ts) = use_with f (row_length ts) (Some Individual) ∷ row_uses ts

  pub row_uses : {m : _} → Row_of-Term m → List Use
  row_uses end_of-Term = []
  row_uses (more_of-Term t ts) = term_uses t ++ row_uses ts

-- the symbols of a list of terms
abbrev pub terms_uses : List Term → List Use
terms_uses [] = []
terms_uses (t ∷ ts) = term_uses t ++ terms_uses ts

abbrev mutual
  -- what occurs in a formula
  pub occurrences : Formula → List Occurrence
  occurrences True = []
  occurrences False = []
  occurrences (Atom p ts) = symbol (use_with p (length ts) None) ∷ map symbol (terms_uses ts)
  occurrences (Same t u) = map symbol (term_uses t ++ term_uses u)
  occurrences (Differ t u) = map symbol (term_uses t ++ term_uses u)
  occurrences (Not1 f) = occurrences f
  occurrences (And' shape fs) = row_occurrences fs
  occurrences (Or' shape fs) = row_occurrences fs
  occurrences (Pair2 op f g) = occurrences f ++ occurrences g
  occurrences (Quant1 q x s f) = sort s ∷ occurrences f
  occurrences (Modal1 m i f) = index i ∷ occurrences f
  occurrences (Distinct ts) = map symbol (terms_uses ts)

  pub row_occurrences : {m : _} → Row_of-Formula m → List Occurrence
  row_occurrences end_of-Formula = []
  row_occurrences (more_of-Formula f fs) = occurrences f ++ row_occurrences fs

-- the indexes that overrides name
abbrev pub key_occurrences : SpecKey → List Occurrence
key_occurrences (Dollar word) = []
key_occurrences (Name name) = []
key_occurrences (Index i) = index i ∷ []

-- the indexes that the overrides name
abbrev pub override_occurrences : List Override → List Occurrence
override_occurrences [] = []
override_occurrences (o ∷ os) = key_occurrences o.key ++ override_occurrences os

-- what occurs in a statement
abbrev pub statement_occurrences : Statement → List Occurrence
statement_occurrences (Annotated name role (IsFormula f)) = occurrences f
statement_occurrences (Annotated name role (IsTyping IsIndividual)) = sort Individual ∷ []
statement_occurrences (Annotated name role (IsTyping (Sort s))) = []
statement_occurrences (Annotated name role (IsTyping (Symbol f args gives))) = symbol (record { name = f; type = record { args = args; gives = gives } }) ∷ []
statement_occurrences (Annotated name role (IsLogic l)) = override_occurrences (override_list l.entries)
statement_occurrences (Include file names) = []

-- what occurs in the statements of a file
abbrev pub occurrences_in : List Statement → List Occurrence
occurrences_in [] = []
occurrences_in (s ∷ ss) = statement_occurrences s ++ occurrences_in ss

-- the symbols, the sorts and the indexes among them
abbrev pub uses : List Occurrence → List Use
uses [] = []
uses (symbol u ∷ os) = u ∷ uses os
uses (sort s ∷ os) = uses os
uses (index i ∷ os) = uses os

abbrev pub sorts : List Occurrence → List SortName
sorts [] = []
sorts (symbol u ∷ os) = sorts os
sorts (sort s ∷ os) = s ∷ sorts os
sorts (index i ∷ os) = sorts os

abbrev pub indexes : List Occurrence → List IndexName
indexes [] = []
indexes (symbol u ∷ os) = indexes os
indexes (sort s ∷ os) = indexes os
indexes (index i ∷ os) = i ∷ indexes os

-- the declarations of symbols and of sorts in a file
abbrev pub declared : List Statement → List Use
declared [] = []
declared (Annotated name role (IsTyping (Symbol f args gives)) ∷ ss) = record { name = f; type = record { args = args; gives = gives } } ∷ declared ss
declared (Annotated name role (IsTyping (Sort s)) ∷ ss) = declared ss
declared (Annotated name role (IsTyping IsIndividual) ∷ ss) = declared ss
declared (Annotated name role (IsFormula f) ∷ ss) = declared ss
declared (Annotated name role (IsLogic l) ∷ ss) = declared ss
declared (Include file names ∷ ss) = declared ss

abbrev pub declared_sorts : List Statement → List SortName
declared_sorts [] = []
declared_sorts (Annotated name role (IsTyping (Sort s)) ∷ ss) = User s ∷ declared_sorts ss
declared_sorts (Annotated name role (IsTyping (Symbol f args gives)) ∷ ss) = declared_sorts ss
declared_sorts (Annotated name role (IsTyping IsIndividual) ∷ ss) = declared_sorts ss
declared_sorts (Annotated name role (IsFormula f) ∷ ss) = declared_sorts ss
declared_sorts (Annotated name role (IsLogic l) ∷ ss) = declared_sorts ss
declared_sorts (Include file names ∷ ss) = declared_sorts ss
