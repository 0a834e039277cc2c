-- What numbered terms and formulas stand for, by their named forms, and which trees are translations of what they stand for. `xs` are the variables of
-- the enclosing quantifiers from the outside in, w is the term of the world, d the number of the next variable for a world.
use Rattle.std.specs.Prelude.{◌≡◌, ℕ, List, [], map, Some}
use Rattle.nxf_tree.specs.declared.tree.Signature.{Signature}
use Rattle.nxf_tree.specs.declared.tree.Scope.{Scope}
use Rattle.nxf_tree.specs.declared.tree.Term.{Term}
use Rattle.nxf_tree.specs.declared.tree.Formula.{Formula}
use Rattle.nxf_tree.specs.Embedding.{st_term, st, embedded}
use Rattle.numbered_definitions.specs.declared.node.NTerm.{NTerm}
use Rattle.numbered_definitions.specs.declared.node.Node.{Node}
use Rattle.numbered_definitions.specs.NamedForm.{named_term, named_terms, named_form, named_forms}

-- the numbered one stands for a term, a list of terms, a formula, a list of formulas
pub record HasTerm (sig : Signature) (xs : List (List ℕ)) (n : NTerm) : Type 0 where
  pub term : Term
  pub named : named_term sig xs n ≡ Some term

pub record HasTerms (sig : Signature) (xs : List (List ℕ)) (ns : List NTerm) : Type 0 where
  pub terms : List Term
  pub named : named_terms sig xs ns ≡ Some terms

pub record HasForm (sig : Signature) (xs : List (List ℕ)) (n : Node) : Type 0 where
  pub formula : Formula
  pub named : named_form sig xs n ≡ Some formula

pub record HasForms (sig : Signature) (xs : List (List ℕ)) (ns : List Node) : Type 0 where
  pub formulas : List Formula
  pub named : named_forms sig xs ns ≡ Some formulas

-- the tree is the translation of what the numbered one stands for
abbrev pub IsTerm : Signature → List (List ℕ) → Term → NTerm → Term → Type 0
IsTerm sig xs w n t = (u : Term) → named_term sig xs n ≡ Some u → t ≡ st_term sig w u

abbrev pub AreTerms : Signature → List (List ℕ) → Term → List NTerm → List Term → Type 0
AreTerms sig xs w ns ts = (us : List Term) → named_terms sig xs ns ≡ Some us → ts ≡ map (st_term sig w) us

abbrev pub IsForm : Signature → List (List ℕ) → Term → ℕ → Node → Formula → Type 0
IsForm sig xs w d n f = (g : Formula) → named_form sig xs n ≡ Some g → f ≡ st sig w d g

abbrev pub AreForms : Signature → List (List ℕ) → Term → ℕ → List Node → List Formula → Type 0
AreForms sig xs w d ns fs = (gs : List Formula) → named_forms sig xs ns ≡ Some gs → fs ≡ map (st sig w d) gs

-- a whole formula, where it counts
abbrev pub IsEmbedded : Signature → Scope → Node → Formula → Type 0
IsEmbedded sig scope n f = (g : Formula) → named_form sig [] n ≡ Some g → f ≡ embedded sig scope g
