-- The named form of a numbered formula: the formula that it stands for, with the names of the signature in place of numbers.
use Rattle.std.specs.Prelude.{◌≡◌, ℕ, zero, suc, true, if◌then◌else◌, List, [], ◌∷◌, ◌++◌, slice_get, Option, None, Some}
use Rattle.std.specs.Option.{option_map}
use Rattle.nxf_tree.specs.declared.tree.IndexName.{IndexName}
use Rattle.nxf_tree.specs.declared.tree.SortName.{SortName}
use Rattle.nxf_tree.specs.declared.tree.Quantifier.{Quantifier}
use Rattle.nxf_tree.specs.declared.tree.Mode.{Mode}
use Rattle.nxf_tree.specs.declared.tree.Op.{Op}
use Rattle.nxf_tree.specs.declared.tree.Signature.{Signature}
use Rattle.nxf_tree.specs.declared.tree.Term.{Term, Var, App}
use Rattle.nxf_tree.specs.declared.tree.Formula.{Formula, True, False, Atom, Same, Differ, Not, And, Or, Pair, Quant, Modal}
use Rattle.nxf_tree.specs.declared.tree.Statement.{Statement}
use Rattle.nxf_tree.specs.declared.tree.Statement.TheVariants.{Annotated, Include}
use Rattle.nxf_tree.specs.declared.tree.Body.TheVariants.{Formula as IsFormula, Typing as IsTyping, Logic as IsLogic}
use Rattle.nxf_tree.specs.declared.tree.File.{File}
use Rattle.nxf_tree.specs.Names.{same_text}
use Rattle.nxf_tree.specs.Counting.{has}
use Rattle.nxf_tree.specs.Sorting.{is_sorted, modal_language}
use Rattle.numbered_definitions.specs.declared.node.NTerm.{NTerm, Bound, Row_of-NTerm, end_of-NTerm, more_of-NTerm}
use Rattle.numbered_definitions.specs.declared.node.NTerm as numbered
use Rattle.numbered_definitions.specs.declared.node.Node.{Node, Row_of-Node, end_of-Node, more_of-Node}
use Rattle.numbered_definitions.specs.declared.node.Node as node
use Rattle.numbered_definitions.specs.declared.node.Numbered.{Numbered}

-- Plain names for the cases of a node that hold nodes, for use in patterns.
pattern abbrev pub NodeNot : Node → Node
NodeNot n = node.Not' tt (more_of-Node n end_of-Node)

pattern abbrev pub NodePair : Op → Node → Node → Node
NodePair op a b = node.Pair' op tt (more_of-Node a end_of-Node) tt (more_of-Node b end_of-Node)

pattern abbrev pub NodeQuant : Quantifier → ℕ → List ℕ → Node → Node
NodeQuant q k x n = node.Quant' q k x tt (more_of-Node n end_of-Node)

pattern abbrev pub NodeModal : Mode → ℕ → Node → Node
NodeModal m k n = node.Modal' m k tt (more_of-Node n end_of-Node)

-- the value for two things, where both are there
abbrev pub both : {A B C : Type 0} → (A → B → C) → Option A → Option B → Option C
both f None b = None
both f (Some a) None = None
both f (Some a) (Some b) = Some (f a b)

-- The variables of the enclosing quantifiers stand from the outside in, so a level is a place among them.
-- the variable of a level; it has no other name there, so None where a later quantifier binds the same variable
abbrev pub variable : List (List ℕ) → ℕ → Option (List ℕ)
variable [] k = None
variable (x ∷ xs) zero = if has same_text x xs then None else Some x
variable (x ∷ xs) (suc k) = variable xs k

-- the name of a symbol, a sort or an index by its number in the signature
abbrev pub symbol_name : Signature → ℕ → Option (List ℕ)
symbol_name sig k = option_map (λ entry. entry.name) (slice_get sig.symbols k)

abbrev pub sort_name : Signature → ℕ → Option SortName
sort_name sig k = option_map (λ entry. entry.name) (slice_get sig.sorts k)

abbrev pub index_name : Signature → ℕ → Option IndexName
index_name sig k = option_map (λ entry. entry.name) (slice_get sig.indexes k)

abbrev mutual
  -- the term that a numbered one stands for under quantifiers of these variables, or None where a number has no name
  pub named_term : Signature → List (List ℕ) → NTerm → Option Term
  named_term sig xs (Bound k) = option_map Var (variable xs k)
  named_term sig xs (numbered.App' k shape ns) = both App (symbol_name sig k) (named_row sig xs ns)

  pub named_row : {m : _} → Signature → List (List ℕ) → Row_of-NTerm m → Option (List Term)
  named_row sig xs end_of-NTerm = Some []
  named_row sig xs (more_of-NTerm n ns) = both (λ t ts. t ∷ ts) (named_term sig xs n) (named_row sig xs ns)

-- the same for a list of terms
abbrev pub named_terms : Signature → List (List ℕ) → List NTerm → Option (List Term)
named_terms sig xs [] = Some []
named_terms sig xs (n ∷ ns) = both (λ t ts. t ∷ ts) (named_term sig xs n) (named_terms sig xs ns)

abbrev mutual
  -- the formula that a numbered one stands for under quantifiers of these variables, or None where a number has no name
  pub named_form : Signature → List (List ℕ) → Node → Option Formula
  named_form sig xs node.True = Some True
  named_form sig xs node.False = Some False
  named_form sig xs (node.Atom k ns) = both Atom (symbol_name sig k) (named_terms sig xs ns)
  named_form sig xs (node.Same a b) = both Same (named_term sig xs a) (named_term sig xs b)
  named_form sig xs (node.Differ a b) = both Differ (named_term sig xs a) (named_term sig xs b)
  named_form sig xs (NodeNot n) = option_map Not (named_form sig xs n)
  named_form sig xs (node.And' shape ns) = option_map And (named_nodes sig xs ns)
  named_form sig xs (node.Or' shape ns) = option_map Or (named_nodes sig xs ns)
  named_form sig xs (NodePair op a b) = both (Pair op) (named_form sig xs a) (named_form sig xs b)
  named_form sig xs (NodeQuant q k x n) = both (Quant q x) (sort_name sig k) (named_form sig (xs ++ x ∷ []) n)
  named_form sig xs (NodeModal m k n) = both (Modal m) (index_name sig k) (named_form sig xs n)

  pub named_nodes : {m : _} → Signature → List (List ℕ) → Row_of-Node m → Option (List Formula)
  named_nodes sig xs end_of-Node = Some []
  named_nodes sig xs (more_of-Node n ns) = both (λ f fs. f ∷ fs) (named_form sig xs n) (named_nodes sig xs ns)

-- the same for a list of nodes
abbrev pub named_forms : Signature → List (List ℕ) → List Node → Option (List Formula)
named_forms sig xs [] = Some []
named_forms sig xs (n ∷ ns) = both (λ f fs. f ∷ fs) (named_form sig xs n) (named_forms sig xs ns)

-- a formula of a file, with the number of its statement, counted from 1, and the statement's name
pub record FormulaStatement : Type 0 where
  pub place : ℕ
  pub name : List ℕ
  pub formula : Formula

-- the formulas of the statements from number k on
abbrev pub formulas_from : ℕ → List Statement → List FormulaStatement
formulas_from k [] = []
formulas_from k (Annotated name role (IsFormula f) ∷ ss) = record { place = k; name = name; formula = f } ∷ formulas_from (suc k) ss
formulas_from k (Annotated name role (IsTyping t) ∷ ss) = formulas_from (suc k) ss
formulas_from k (Annotated name role (IsLogic l) ∷ ss) = formulas_from (suc k) ss
formulas_from k (Include file names ∷ ss) = formulas_from (suc k) ss

-- the formulas of a file in their order
abbrev pub formulas_of : File → List FormulaStatement
formulas_of file = formulas_from 1 file.statements

-- the formula statement that a numbered formula stands for
abbrev pub named : Signature → Numbered → Option FormulaStatement
named sig n = option_map (λ f. record { place = n.place; name = n.name; formula = f }) (named_form sig [] n.node)

-- the formula statements that numbered formulas stand for
abbrev pub all_named : Signature → List Numbered → Option (List FormulaStatement)
all_named sig [] = Some []
all_named sig (n ∷ ns) = both (λ f fs. f ∷ fs) (named sig n) (all_named sig ns)

-- the node stands for a formula that is closed and well sorted over the signature
pub record IsSortedFormula (sig : Signature) (node : Node) : Type 0 where
  pub formula : Formula
  pub named : named_form sig [] node ≡ Some formula
  pub sorted : is_sorted (modal_language sig) [] formula ≡ true
